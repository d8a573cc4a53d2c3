use Rattle.std.proofs.Common.{◌≡◌, ◌++◌, drop}
use Rattle.request_states.specs.Statements.{rows_in}
use Rattle.program_things.proofs.records.rows_in.Given as goal

abbrev pub invariant-loop-place : goal.invariant-loop-place
invariant-loop-place l = l.rows ++ rows_in l.heap (drop l.place-index l.places) ≡ rows_in l.heap l.places
