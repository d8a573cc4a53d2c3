use Rattle.std.proofs.Common.{rules, ◌≡◌, ◌<◌, ◌++◌, ◌∷◌, [], length, map, get_or, Err}
use Rattle.std.proofs.lemmas.List.{map_push}
use Rattle.tenant_schema.proofs.Steps.{within, object_step, fault_step}
use Rattle.tenant_schema.proofs.deploy.planned_formulas.Goals as goal

pub bounds-objects-i : goal.bounds-objects-i
bounds-objects-i c =
    let lt : c.objects.i < length c.args.plan.now.objects = search rules in
    within c.args.plan.now c.args.objects.now c.requires c.objects.i lt

pub returns-in_err-rules : goal.returns-in_err-rules
returns-in_err-rules c =
    let lt : c.objects.i < length c.args.plan.now.objects = search rules in
    let p = c.index-as_slice-i.result in
    let is : p ≡ get_or c.args.plan.now.objects c.objects.i p = search rules in
    let e : c.from_residual.result ≡ Err c.in_err-rules.field-0.0 = search rules in
    rw e (fault_step c.args.plan.now c.args.objects.now c.requires c.objects.i lt p is c.index-objects-i.result c.index-objects-i.is (map (λ list. list.items) c.objects.all) c.in_err-rules.field-0.0 c.objects.invariant c.in_err-rules.ensures)

pub objects-preserved : goal.objects-preserved
objects-preserved c =
    let lt : c.objects.i < length c.args.plan.now.objects = search rules in
    let p = c.index-as_slice-i.result in
    let is : p ≡ get_or c.args.plan.now.objects c.objects.i p = search rules in
    let more : c.push.new.self ≡ c.objects.all ++ c.in_ok-rules.rules ∷ [] = search rules in
    rw (more, map_push) (object_step c.args.plan.now c.args.objects.now c.requires c.objects.i lt p is c.index-objects-i.result c.index-objects-i.is (map (λ list. list.items) c.objects.all) c.in_ok-rules.rules.items c.objects.invariant c.in_ok-rules.ensures)
