use Rattle.std.proofs.Common.{◌≡◌, ◌++◌, drop}
use Rattle.turn_lists.specs.declared.list.At.TheVariants.{Tenant}
use Rattle.turn_lists.specs.Reading.{reads, all_ended}
use Rattle.turn_lists.proofs.list.read_pairs.Given as goal

abbrev pub invariant-loop-b : goal.invariant-loop-b
invariant-loop-b l = (reads l.at (drop l.b-index l.list) ≡ reads Tenant l.list) × (l.turns.items ++ all_ended l.at (drop l.b-index l.list) ≡ all_ended Tenant l.list)
