use Rattle.std.proofs.Common.{◌≡◌, drop}
use Rattle.query_records.specs.Records.{with_given}
use Rattle.query_records.proofs.cells.know_given.Given as goal

abbrev pub invariant-loop-one : goal.invariant-loop-one
invariant-loop-one l = with_given (drop l.one-index l.given) l.paths l.cells ≡ with_given l.given l.paths l.initial.cells
