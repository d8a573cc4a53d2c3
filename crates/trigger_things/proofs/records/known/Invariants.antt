use Rattle.std.proofs.Common.{◌≡◌, ◌++◌, map, Some}
use Rattle.apex_num.specs.declared.cell.Cell.{Cell}
use Rattle.trigger_things.proofs.records.known.Given as goal

abbrev pub invariant-loop-cell : goal.invariant-loop-cell
invariant-loop-cell l = l.all ++ map (λ (c : Cell). Some c) l.cell-iterator.rest.items ≡ map (λ (c : Cell). Some c) l.fn.cells
