use Rattle.std.proofs.Common.{◌≡◌, drop}
use Rattle.rolled_rows.specs.Groups.{has_rollup}
use Rattle.rolled_rows.proofs.fields.has_rollup.Given as goal

abbrev pub invariant-loop-field : goal.invariant-loop-field
invariant-loop-field l = has_rollup l.detail (drop l.field-index l.fields) ≡ has_rollup l.detail l.fields
