use Rattle.std.proofs.Common.{Some, None, subst}
use Rattle.std.specs.Prelude.{slice_get}
use Rattle.apex_num.specs.declared.kind.LimitKind.TheVariants.{Alloc}
use Rattle.heap_methods.specs.Outcomes.{units_of}
use Rattle.heap_methods.specs.Plans.{planned}
use Rattle.program_things.specs.Steps.{Charges}
use Rattle.program_things.proofs.Charged.{capped_charges}
use Rattle.program_things.proofs.Called.{carried_out, carried_over}
use Rattle.program_things.proofs.collections.carry.Goals as goal

pub returns-in-Some-clause-does : goal.returns-in-Some-clause-does
returns-in-Some-clause-does c =
    let before = c.args.c.now in let place = c.args.on.place in let o = planned c.args.plan (slice_get before.world.heap place) in let n = units_of (slice_get before.world.heap place) o in
    carried_over o place before c.in-Some.moved c.charge.new.c (capped_charges n before (Some c.in-Some.moved) c.charge.new.c
    (subst (λ k. Charges Alloc k before (Some c.in-Some.moved) c.charge.new.c) c.in_ok-units.ensures (subst (λ r. Charges Alloc c.in_ok-units.units before r c.charge.new.c) c.in-Some.is c.charge.ensures)))

pub returns-in_ok-carry_out-in-None-clause-does : goal.returns-in_ok-carry_out-in-None-clause-does
returns-in_ok-carry_out-in-None-clause-does c =
    let before = c.args.c.now in let place = c.args.on.place in let o = planned c.args.plan (slice_get before.world.heap place) in let n = units_of (slice_get before.world.heap place) o in
    carried_out c.args.plan place before c.charge.new.c c.in_ok-carry_out-in-None.field-0 c.carry_out.new.heap (capped_charges n before None c.charge.new.c
    (subst (λ k. Charges Alloc k before None c.charge.new.c) c.in_ok-units.ensures (subst (λ r. Charges Alloc c.in_ok-units.units before r c.charge.new.c) c.in-None.is c.charge.ensures))) c.in_ok-carry_out-in-None.ensures
