use Rattle.std.proofs.Common.{◌≡◌, drop}
use Rattle.request_states.specs.Statements.{name_records}
use Rattle.program_things.proofs.records.name_records.Given as goal

abbrev pub invariant-loop-i : goal.invariant-loop-i
invariant-loop-i l = name_records (drop l.i l.places) (drop l.i l.outcomes) l.heap ≡ name_records l.places l.outcomes l.fn.heap
