use Rattle.std.proofs.Common.{◌≡◌, drop}
use Rattle.turn_lists.specs.declared.list.At.TheVariants.{Tenant}
use Rattle.turn_lists.specs.Reading.{reads}
use Rattle.turn_lists.proofs.list.are_pairs.Given as goal

abbrev pub invariant-loop-b : goal.invariant-loop-b
invariant-loop-b l = reads l.at (drop l.b-index l.list) ≡ reads Tenant l.list
