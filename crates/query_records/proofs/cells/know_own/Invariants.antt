use Rattle.std.proofs.Common.{◌≡◌, drop}
use Rattle.query_records.specs.Records.{with_own}
use Rattle.query_records.proofs.cells.know_own.Given as goal

abbrev pub invariant-loop-field : goal.invariant-loop-field
invariant-loop-field l = with_own (drop l.field-index l.fields) l.row l.cells ≡ with_own l.fields l.row l.initial.cells
