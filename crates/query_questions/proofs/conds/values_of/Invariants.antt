use Rattle.std.proofs.Common.{◌≡◌, ◌++◌, map, drop}
use Rattle.apex_num.specs.declared.cell.Cell.{Cell}
use Rattle.apex_rows.specs.declared.query.Term.TheVariants.{Given}
use Rattle.row_meaning.specs.Conds.{term_value}
use Rattle.query_questions.proofs.conds.values_of.Given as goal

abbrev pub invariant-loop-term : goal.invariant-loop-term
invariant-loop-term l = l.all ++ map (λ (c : Cell). Given c) (map (term_value l.binds) (drop l.term-index l.terms)) ≡ map (λ (c : Cell). Given c) (map (term_value l.binds) l.terms)
