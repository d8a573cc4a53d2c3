use Rattle.std.proofs.Common.{◌+◌, map, ap, ◌∙◌}
use Rattle.apex_rows.specs.declared.row.Child.{Child}
use Rattle.query_meaning.specs.Queries.{units_of}
use Rattle.query_questions.specs.Capped.{capped}
use Rattle.query_questions.proofs.Totals.{is_small, list_next}
use Rattle.query_questions.proofs.charges.units_under.Goals as goal

pub loop-children-preserved : goal.loop-children-preserved
loop-children-preserved c = record {
  same = list_next c.args.schema.now c.loop-children.children-index c.args.lists.now c.children-item.result c.loop-children.sum c.child_units-sum.result _ c.loop-children-test.true c.children-item.is
      (c.child_units-sum.ensures ∙ ap (λ cs. capped (c.loop-children.sum + units_of c.args.schema.now (map (λ (one : Child). one.row) cs))) c.as_slice.ensures)
      c.loop-children.invariant.same;
  fits = is_small _ _ c.child_units-sum.ensures;
}
