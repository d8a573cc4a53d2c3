use Rattle.std.proofs.Common.{◌≡◌, ◌++◌, drop}
use Rattle.query_rows.specs.Cuts.{parent_cells}
use Rattle.query_rows.proofs.under.cells_over.Given as goal

abbrev pub invariant-loop-path : goal.invariant-loop-path
invariant-loop-path l = l.cells ++ parent_cells l.reader (drop l.path-index l.paths) l.row ≡ parent_cells l.reader l.paths l.row
