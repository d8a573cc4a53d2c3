use Rattle.method_calls.proofs.named.MethodNames.+open_within.Given as goal

abbrev pub decreases-open_within : goal.decreases-open_within
decreases-open_within e = e.most
