use Rattle.std.proofs.Common.{Err, refl, subst}
use Rattle.std.specs.Prelude.{slice_get}
use Rattle.heap_methods.specs.Methods.{outcome}
use Rattle.heap_methods.specs.Plans.{Plans, planned}
use Rattle.program_things.proofs.Called.{collects_by, ended_carried, if_ok}
use Rattle.program_things.proofs.collections.collect_on.Goals as goal

pub returns-in-Ok-clause-does : goal.returns-in-Ok-clause-does
returns-in-Ok-clause-does c =
    let before = c.args.c.now in let place = c.args.on.place in let thing = slice_get before.world.heap place in
    if_ok c.carry.result _ _ (λ r h. collects_by c.args.which c.args.on c.args.args.now before c.carry.new.c (planned c.in-Ok.plan thing) r
    (subst (λ r. Plans (outcome c.args.which place c.args.args.now before.world.heap) thing r) c.in-Ok.is c.plan_call.ensures) h) c.carry.ensures.does

pub returns-in_ok-ended-in-Err-clause-does : goal.returns-in_ok-ended-in-Err-clause-does
returns-in_ok-ended-in-Err-clause-does c =
    let before = c.args.c.now in let place = c.args.on.place in let thing = slice_get before.world.heap place in let o = outcome c.args.which place c.args.args.now before.world.heap in
    collects_by c.args.which c.args.on c.args.args.now before c.ended.new.c o (Err c.in_ok-ended-in-Err.field-0) refl
    (ended_carried o c.in-Err.end place before c.in_ok-ended-in-Err.field-0 c.ended.new.c (subst (λ r. Plans o thing r) c.in-Err.is c.plan_call.ensures) c.in_ok-ended-in-Err.ensures)
