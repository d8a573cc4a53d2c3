use Rattle.std.proofs.Common.{◌≡◌, ◌++◌, drop}
use Rattle.save_statements.specs.Loading.{next_cells}
use Rattle.save_loading.proofs.next_rows.next_cells.Given as goal

abbrev pub invariant-loop-i : goal.invariant-loop-i
invariant-loop-i l = l.cells ++ next_cells l.by l.i (drop l.i l.fields) (drop l.i l.old) (drop l.i l.known) ≡ next_cells l.by 0 l.fields l.old l.known
