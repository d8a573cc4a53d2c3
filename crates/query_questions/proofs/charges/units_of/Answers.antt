use Rattle.std.proofs.Common.{◌+◌, ap, ◌∙◌}
use Rattle.query_meaning.specs.Queries.{children_in, units_of}
use Rattle.query_questions.specs.Capped.{capped}
use Rattle.query_questions.proofs.Totals.{found_next, is_small}
use Rattle.query_questions.proofs.charges.units_of.Goals as goal

pub loop-one-preserved : goal.loop-one-preserved
loop-one-preserved c = record {
  same = found_next c.args.schema.now c.loop-one.one-index c.args.found.now c.one-item.result c.loop-one.sum c.row_units-own.result c.units_under-sum.result _ c.loop-one-test.true c.one-item.is c.row_units-own.ensures
      (c.units_under-sum.ensures ∙ ap (λ lists. capped (c.row_units-own.result + units_of c.args.schema.now (children_in lists))) c.as_slice.ensures)
      c.loop-one.invariant.same;
  fits = is_small _ _ c.units_under-sum.ensures;
}
