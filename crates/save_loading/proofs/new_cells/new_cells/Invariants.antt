use Rattle.std.proofs.Common.{◌≡◌, ◌++◌, drop}
use Rattle.save_meaning.specs.Drafts.{new_cells}
use Rattle.save_loading.proofs.new_cells.new_cells.Given as goal

abbrev pub invariant-loop-i : goal.invariant-loop-i
invariant-loop-i l = l.cells ++ new_cells l.user l.i (drop l.i l.fields) (drop l.i l.known) ≡ new_cells l.user 0 l.fields l.known
