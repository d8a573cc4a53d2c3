use Rattle.std.proofs.Common.{◌≡◌, ◌++◌, map, drop}
use Rattle.apex_num.specs.declared.cell.Cell.{Cell}
use Rattle.apex_rows.specs.declared.query.Term.TheVariants.{Given}
use Rattle.query_questions.proofs.conds.as_terms.Given as goal

abbrev pub invariant-loop-cell : goal.invariant-loop-cell
invariant-loop-cell l = l.all ++ map (λ (c : Cell). Given c) (drop l.cell-index l.cells) ≡ map (λ (c : Cell). Given c) l.cells
