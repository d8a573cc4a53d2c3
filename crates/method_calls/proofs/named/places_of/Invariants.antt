use Rattle.std.proofs.Common.{◌≡◌, ◌++◌, drop}
use Rattle.method_calls.specs.MethodNamings.{names_for}
use Rattle.method_calls.proofs.named.places_of.Given as goal

abbrev pub invariant-loop-method : goal.invariant-loop-method
invariant-loop-method l = l.names.items ++ names_for l.way (drop l.method-index l.methods) ≡ names_for l.way l.methods
