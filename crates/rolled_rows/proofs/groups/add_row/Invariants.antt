use Rattle.std.proofs.Common.{◌≡◌, ℕ, List, ltb}
use Rattle.std.specs.Prelude.{◌&&◌}
use Rattle.rolled_rows.specs.Groups.{is_at, key, rows_in, with_row}
use Rattle.rolled_rows.proofs.groups.add_row.Given as goal

abbrev pub invariant-fields : goal.invariant-fields
invariant-fields l = (object f : ℕ) (id : List ℕ) → rows_in l.groups (key object f id) ≡ with_row (ltb f l.i && is_at l.schema object f id l.row) (rows_in l.initial.groups (key object f id)) l.row
