use Rattle.apex_num.specs.declared.kind.LimitKind.TheVariants.{Depth}
use Rattle.stack_code.specs.Machine.{charged}
use Rattle.trigger_things.specs.Things.{copy_units}
use Rattle.program_things.specs.Firings.{step_charged}
use Rattle.program_things.proofs.Fired.{behind, charged_as, only, stops}
use Rattle.program_things.proofs.firings.charge_firing.Goals as goal

pub returns-in-Some : goal.returns-in-Some
returns-in-Some c =
    stops (charged Depth 1) (step_charged (copy_units c.args.schema.now c.args.context.now)) c.args.c.now c.in-Some.moved c.charge.new.c
    (charged_as (charged Depth 1) c.args.c.now c.charge.result _ c.charge.new.c c.in-Some.is (only Depth 1 c.args.c.now c.charge.result c.charge.new.c c.charge.ensures))

pub returns-in-None : goal.returns-in-None
returns-in-None c =
    behind (charged Depth 1) (step_charged (copy_units c.args.schema.now c.args.context.now)) c.args.c.now c.charge.new.c c.charge_step.result c.charge_step.new.c
    (charged_as (charged Depth 1) c.args.c.now c.charge.result _ c.charge.new.c c.in-None.is (only Depth 1 c.args.c.now c.charge.result c.charge.new.c c.charge.ensures))
    c.charge_step.ensures
