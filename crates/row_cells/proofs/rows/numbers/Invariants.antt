use Rattle.std.proofs.Common.{◌≡◌, map, take, Some}
use Rattle.row_cells.specs.Rows.{field_at}
use Rattle.row_cells.proofs.rows.numbers.Given as goal

abbrev pub invariant-entries : goal.invariant-entries
invariant-entries l = map (field_at l.fields) (take l.i l.entries) ≡ map Some l.numbers
