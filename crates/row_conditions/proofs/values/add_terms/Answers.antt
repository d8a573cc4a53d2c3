use Rattle.row_meaning.specs.Cells.{same_cell}
use Rattle.row_meaning.specs.Conds.{term_value}
use Rattle.row_conditions.proofs.Keys.{any_of_more}
use Rattle.row_conditions.proofs.values.add_terms.Goals as goal

pub loop-term-preserved : goal.loop-term-preserved
loop-term-preserved c = (
  c.loop-term.invariant.0,
  λ q.
      any_of_more (same_cell q) (term_value c.args.binds.now) c.args.terms.now c.loop-term.term-index c.term-item.result c.value_at.result.now c.loop-term-test.true c.term-item.is c.value_at.ensures _ _ _
      (c.loop-term.invariant.1 q) (c.in_ok-add.ensures q),
)
