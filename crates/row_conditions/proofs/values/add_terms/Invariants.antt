use Rattle.std.proofs.Common.{◌≡◌, ◌||◌, map, take}
use Rattle.std.specs.List.{list_any}
use Rattle.apex_num.specs.declared.cell.Cell.{Cell}
use Rattle.apex_num.specs.declared.cell.Cell.TheVariants.{Null}
use Rattle.row_meaning.specs.Cells.{same_cell}
use Rattle.row_meaning.specs.Conds.{term_value}
use Rattle.row_conditions.specs.Keys.{has}
use Rattle.row_conditions.proofs.values.add_terms.Given as goal

abbrev pub invariant-loop-term : goal.invariant-loop-term
invariant-loop-term l = (l.null ≡ Null) × ((c : Cell) → has l.set c ≡ (has l.fn.set c || list_any (same_cell c) (map (term_value l.binds) (take l.term-index l.terms))))
