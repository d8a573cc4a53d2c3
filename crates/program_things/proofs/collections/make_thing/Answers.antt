use Rattle.std.proofs.Common.{◌+◌, Some, None, subst}
use Rattle.apex_num.specs.declared.kind.LimitKind.TheVariants.{Alloc}
use Rattle.heap_methods.specs.Outcomes.{content}
use Rattle.program_things.specs.Steps.{Charges}
use Rattle.program_things.proofs.Charged.{capped_charges, charged_over}
use Rattle.program_things.proofs.Called.{renamed}
use Rattle.program_things.proofs.Made.{made_behind}
use Rattle.program_things.proofs.collections.make_thing.Goals as goal

pub returns-in-Some : goal.returns-in-Some
returns-in-Some c =
    let n = 32 + content c.args.thing in
    charged_over Alloc n c.args.c.now _ c.in-Some.moved c.charge.new.c (capped_charges n c.args.c.now (Some c.in-Some.moved) c.charge.new.c
    (subst (λ k. Charges Alloc k c.args.c.now (Some c.in-Some.moved) c.charge.new.c) c.thing_units.ensures (subst (λ r. Charges Alloc c.thing_units.result c.args.c.now r c.charge.new.c) c.in-Some.is c.charge.ensures)))

pub returns-in-None : goal.returns-in-None
returns-in-None c =
    let n = 32 + content c.args.thing in
    renamed c.made_next.result _ _ c.made_next.new.c (made_behind n c.args.thing c.args.c.now c.charge.new.c (capped_charges n c.args.c.now None c.charge.new.c
    (subst (λ k. Charges Alloc k c.args.c.now None c.charge.new.c) c.thing_units.ensures (subst (λ r. Charges Alloc c.thing_units.result c.args.c.now r c.charge.new.c) c.in-None.is c.charge.ensures)))) c.made_next.ensures
