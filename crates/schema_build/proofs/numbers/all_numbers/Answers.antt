use Rattle.std.proofs.Common.{◌∙◌, ap, length, arith, bytes_eq}
use Rattle.std.proofs.lemmas.List.{length_push}
use Rattle.indexmap.specs.IndexMap.{get}
use Rattle.schema_plans.specs.declared.plan.ObjectPlan.{ObjectPlan}
use Rattle.schema_plans.specs.Plans.{number_from}
use Rattle.schema_build.proofs.NumberSteps.{one_object_more}
use Rattle.schema_build.proofs.numbers.all_numbers.Goals as goal

pub loop-object-preserved : goal.loop-object-preserved
loop-object-preserved c =
    let done = c.loop-object.all.items in
    let added = c.in_ok-numbers_among.field-0 in
    let o : ObjectPlan = c.object-item.result in
    let new = c.in_ok-push.ensures.items in
    let more = length_push done added in
    let size = c.loop-object.invariant.0 in (
      ap length new ∙ omega (arith, more, size),
      λ d n. one_object_more done c.push.new.self.items c.as_slice-object-items.result.now c.args.plan.now.objects added o c.loop-object.object-index (λ m. get bytes_eq m n) (λ (p : ObjectPlan). number_from 2 p.fields n)
          c.as_slice-object-items.ensures c.loop-object-test.true c.object-item.is new size (λ k. c.loop-object.invariant.1 k n) (c.in_ok-numbers_among.ensures n ∙ ap (λ l. number_from 2 l n) c.as_slice.ensures) d,
    )
