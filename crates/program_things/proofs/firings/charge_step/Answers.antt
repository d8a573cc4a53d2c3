use Rattle.apex_num.specs.declared.kind.LimitKind.TheVariants.{Alloc, Steps}
use Rattle.stack_code.specs.Machine.{charged}
use Rattle.trigger_things.specs.Things.{copy_units}
use Rattle.program_things.proofs.Fired.{behind, charged_as, only, stops}
use Rattle.program_things.proofs.firings.charge_step.Goals as goal

pub returns-in-Some : goal.returns-in-Some
returns-in-Some c =
    stops (charged Steps 1) (charged Alloc (copy_units c.args.schema.now c.args.context.now)) c.args.c.now c.in-Some.moved c.charge.new.c
    (charged_as (charged Steps 1) c.args.c.now c.charge.result _ c.charge.new.c c.in-Some.is (only Steps 1 c.args.c.now c.charge.result c.charge.new.c c.charge.ensures))

pub returns-in-None : goal.returns-in-None
returns-in-None c =
    let units = copy_units c.args.schema.now c.args.context.now in
    behind (charged Steps 1) (charged Alloc units) c.args.c.now c.charge.new.c c.charge_copies.result c.charge_copies.new.c
    (charged_as (charged Steps 1) c.args.c.now c.charge.result _ c.charge.new.c c.in-None.is (only Steps 1 c.args.c.now c.charge.result c.charge.new.c c.charge.ensures))
    (only Alloc units c.charge.new.c c.charge_copies.result c.charge_copies.new.c c.charge_copies.ensures)
