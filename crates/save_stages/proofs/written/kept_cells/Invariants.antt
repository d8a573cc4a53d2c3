use Rattle.std.proofs.Common.{◌≡◌, ◌++◌}
use Rattle.save_meaning.specs.Drafts.{kept_cells}
use Rattle.save_stages.proofs.Rows.{kept_tail}
use Rattle.save_stages.proofs.written.kept_cells.Given as goal

abbrev pub invariant-loop-cell : goal.invariant-loop-cell
invariant-loop-cell l = l.kept ++ kept_tail l.kept l.id l.cell-iterator.rest.items ≡ kept_cells l.id l.fn.cells
