use Rattle.save_meaning.specs.Sites.{Site}
use Rattle.stack_code.specs.Machine.{Goes}
use Rattle.stack_code.specs.Steps.{fire_next, fired_on}
use Rattle.trigger_things.specs.Things.{copy_units}
use Rattle.program_things.specs.Firings.{firing_charged}
use Rattle.program_things.proofs.Fired.{begins_as, charged_as, over_stop, stops_as}
use Rattle.program_things.proofs.firings.fire.Goals as goal

pub returns-in-Some-clause-does : goal.returns-in-Some-clause-does
returns-in-Some-clause-does c =
    λ ticket image. (charged_as (firing_charged (copy_units c.args.schema.now c.args.context)) c.args.c.now c.charge_firing.result _ c.charge_firing.new.c c.in-Some.is c.charge_firing.ensures)
    (λ f. Goes (fired_on (record { schema = c.args.schema.now; ticket = ticket }) image c.args.places c.args.run c.args.number c.args.context f))

pub returns-in-Some-clause-behind : goal.returns-in-Some-clause-behind
returns-in-Some-clause-behind c =
    over_stop _ c.args.c.now c.charge_firing.new.c c.in-Some.moved
    ((charged_as (firing_charged (copy_units c.args.schema.now c.args.context)) c.args.c.now c.charge_firing.result _ c.charge_firing.new.c c.in-Some.is c.charge_firing.ensures) Goes)

pub returns-in-None-clause-does : goal.returns-in-None-clause-does
returns-in-None-clause-does c =
    let charges = charged_as (firing_charged (copy_units c.args.schema.now c.args.context)) c.args.c.now c.charge_firing.result _ c.charge_firing.new.c c.in-None.is c.charge_firing.ensures in
    λ ticket image. let site : Site = record { schema = c.args.schema.now; ticket = ticket } in
    begins_as (fire_next site image c.args.places c.args.run c.args.number c.args.context c.args.c.now) (Goes (fired_on site image c.args.places c.args.run c.args.number c.args.context c.charge_firing.new.c)) image c.begin.result c.begin.new.c
    (charges.0 (λ f. Goes (fired_on site image c.args.places c.args.run c.args.number c.args.context f))) (c.begin.ensures.does site image)

pub returns-in-None-clause-behind : goal.returns-in-None-clause-behind
returns-in-None-clause-behind c =
    let charges = charged_as (firing_charged (copy_units c.args.schema.now c.args.context)) c.args.c.now c.charge_firing.result _ c.charge_firing.new.c c.in-None.is c.charge_firing.ensures in
    stops_as c.args.c.now c.charge_firing.new.c charges.1.0 c.begin.result c.begin.new.c charges.1.1 c.begin.ensures.behind
