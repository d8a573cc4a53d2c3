use Rattle.std.proofs.Common.{◌≡◌, map, drop}
use Rattle.apex_num.specs.declared.cell.Cell.TheVariants.{Null}
use Rattle.std.specs.List.{list_any}
use Rattle.row_meaning.specs.Cells.{same_cell}
use Rattle.row_meaning.specs.Conds.{term_value}
use Rattle.query_rows.proofs.conds.is_term.Given as goal

abbrev pub invariant-loop-term : goal.invariant-loop-term
invariant-loop-term l =
    (l.null ≡ Null) × (list_any (same_cell l.a) (map (term_value l.binds) (drop l.term-index l.terms)) ≡ list_any (same_cell l.a) (map (term_value l.binds) l.terms))
