use Rattle.method_calls.proofs.named.MethodNames.+within.Given as goal

abbrev pub decreases-within : goal.decreases-within
decreases-within e = e.most
