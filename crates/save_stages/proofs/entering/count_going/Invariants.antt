use Rattle.std.proofs.Common.{◌≡◌, ◌≤◌, ◌+◌, drop, length}
use Rattle.save_statements.specs.Records.{going}
use Rattle.save_stages.proofs.entering.count_going.Given as goal

abbrev pub invariant-loop-one : goal.invariant-loop-one
invariant-loop-one l = (l.count ≤ l.one-index) × (l.count + length (going (drop l.one-index l.records)) ≡ length (going l.records))
