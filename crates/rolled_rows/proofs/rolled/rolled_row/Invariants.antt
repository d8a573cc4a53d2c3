use Rattle.std.proofs.Common.{◌≡◌, take, None}
use Rattle.rolled_rows.specs.RollUps.{comes_to, first_out, new_cells}
use Rattle.rolled_rows.proofs.rolled.rolled_row.Given as goal

abbrev pub invariant-fields : goal.invariant-fields
invariant-fields l = record {
  none : first_out (comes_to l.details.schema.now l.details.rows.now l.master) (take l.n l.fields) ≡ None;
  cells : l.cells ≡ new_cells (comes_to l.details.schema.now l.details.rows.now l.master) (take l.n l.fields) l.master.cells;
}
