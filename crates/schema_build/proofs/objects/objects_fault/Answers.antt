use Rattle.std.proofs.Common.{◌||◌, get_or, ap, sym, ◌∙◌, bytes_eq}
use Rattle.schema_plans.specs.declared.plan.ObjectPlan.{ObjectPlan}
use Rattle.schema_plans.specs.Plans.{object_fault}
use Rattle.schema_build.proofs.PrefixSteps.{has_one_more}
use Rattle.schema_build.proofs.FirstSteps.{first_over}
use Rattle.schema_build.proofs.objects.objects_fault.Goals as goal

pub objects-preserved : goal.objects-preserved
objects-preserved c =
    let plan = c.args.plan.now in
    let ys = c.as_slice-objects.result.now in
    let i = c.objects.i in
    let d = c.index-objects-i-in-objects-2.result in
    let x = c.index-objects-i-in-objects.result in (
      λ n. c.in_ok-add_prefix.ensures n ∙ ap (λ b. b || bytes_eq (get_or ys i d).prefix n) (c.objects.invariant.0 n) ∙ sym (has_one_more (λ (o : ObjectPlan). o.prefix) plan.objects ys i d n c.as_slice-objects.ensures c.objects-test.true),
      first_over (object_fault plan) plan.objects ys i x _ c.in_ok-fault.fault c.as_slice-objects.ensures c.objects-test.true (c.in_ok-fault.ensures ∙ ap (object_fault plan i) c.index-objects-i-in-objects.is) c.in_default.not-Some c.objects.invariant.1,
    )
