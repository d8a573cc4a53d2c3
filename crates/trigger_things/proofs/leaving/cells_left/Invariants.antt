use Rattle.std.proofs.Common.{◌≡◌, ◌++◌, map, drop}
use Rattle.trigger_things.specs.Lefts.{cell_left}
use Rattle.trigger_things.proofs.leaving.cells_left.Given as goal

abbrev pub invariant-loop-cell : goal.invariant-loop-cell
invariant-loop-cell l = l.left ++ map cell_left (drop l.cell-index l.cells) ≡ map cell_left l.cells
