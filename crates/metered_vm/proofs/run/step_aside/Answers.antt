use Rattle.std.proofs.Common.{ap, sym, subst, ◌∙◌}
use Rattle.std.specs.Prelude.{slice_get}
use Rattle.stack_code.specs.declared.state.Mode.TheVariants as M
use Rattle.stack_code.specs.Machine.{in_mode, instrs_at}
use Rattle.stack_code.specs.Steps.{act}
use Rattle.program_things.specs.Firings.{SavesTo}
use Rattle.program_things.specs.Saves.{IsStepTo}
use Rattle.program_things.specs.Steps.{IsStep}
use Rattle.metered_vm.proofs.Once.{act_to, at_mode, is_querying, is_saving, leave_to, query_keeps, save_to}
use Rattle.metered_vm.proofs.run.step_aside.Goals as goal

pub returns-in_ok-moved-in-Running-clause-step : goal.returns-in_ok-moved-in-Running-clause-step
returns-in_ok-moved-in-Running-clause-step c =
    (act_to c.args.schema.now c.args.ticket c.args.image.now c.args.c.now c.in_ok-moved-in-Running.moved c.act.new.c (sym c.replace.ensures.value ∙ c.in-Running.is) c.requires.stands
    (subst (λ md. IsStep (act (record { schema = c.args.schema.now; ticket = c.args.ticket }) c.args.image.now (slice_get (instrs_at c.args.image.now c.args.c.now.top.body) c.args.c.now.top.pc) (in_mode c.args.c.now md)) c.in_ok-moved-in-Running.moved c.act.new.c) c.replace.ensures.after c.in_ok-moved-in-Running.ensures)).0

pub returns-in_ok-moved-in-Running-clause-keeps : goal.returns-in_ok-moved-in-Running-clause-keeps
returns-in_ok-moved-in-Running-clause-keeps c =
    (act_to c.args.schema.now c.args.ticket c.args.image.now c.args.c.now c.in_ok-moved-in-Running.moved c.act.new.c (sym c.replace.ensures.value ∙ c.in-Running.is) c.requires.stands
    (subst (λ md. IsStep (act (record { schema = c.args.schema.now; ticket = c.args.ticket }) c.args.image.now (slice_get (instrs_at c.args.image.now c.args.c.now.top.body) c.args.c.now.top.pc) (in_mode c.args.c.now md)) c.in_ok-moved-in-Running.moved c.act.new.c) c.replace.ensures.after c.in_ok-moved-in-Running.ensures)).1

pub returns-in_ok-moved-in-Leaving-clause-step : goal.returns-in_ok-moved-in-Leaving-clause-step
returns-in_ok-moved-in-Leaving-clause-step c =
    (leave_to c.args.schema.now c.args.ticket c.args.image.now c.args.c.now _ c.in-Leaving.why c.in_ok-moved-in-Leaving.moved c.leaving.new.c (sym c.replace.ensures.value ∙ c.in-Leaving.is) c.requires.stands c.in_ok-moved-in-Leaving.ensures).0

pub returns-in_ok-moved-in-Leaving-clause-keeps : goal.returns-in_ok-moved-in-Leaving-clause-keeps
returns-in_ok-moved-in-Leaving-clause-keeps c =
    (leave_to c.args.schema.now c.args.ticket c.args.image.now c.args.c.now _ c.in-Leaving.why c.in_ok-moved-in-Leaving.moved c.leaving.new.c (sym c.replace.ensures.value ∙ c.in-Leaving.is) c.requires.stands c.in_ok-moved-in-Leaving.ensures).1

pub returns-in_ok-moved-in-Querying-clause-step : goal.returns-in_ok-moved-in-Querying-clause-step
returns-in_ok-moved-in-Querying-clause-step c =
    subst (λ y. IsStepTo c.args.schema.now c.args.ticket c.args.image.now y c.in_ok-moved-in-Querying.moved c.query.new.c) (at_mode c.args.c.now (M.Querying c.in-Querying.shape c.in-Querying.run') (sym c.replace.ensures.value ∙ c.in-Querying.is)) (c.in_ok-moved-in-Querying.ensures.step c.args.image.now)

pub returns-in_ok-moved-in-Querying-clause-keeps : goal.returns-in_ok-moved-in-Querying-clause-keeps
returns-in_ok-moved-in-Querying-clause-keeps c =
    query_keeps c.args.schema.now c.args.ticket c.args.image.now c.args.c.now c.in_ok-moved-in-Querying.moved c.query.new.c (ap is_querying (sym c.replace.ensures.value ∙ c.in-Querying.is)) c.requires.stands
    (subst (λ y. IsStepTo c.args.schema.now c.args.ticket c.args.image.now y c.in_ok-moved-in-Querying.moved c.query.new.c) (at_mode c.args.c.now (M.Querying c.in-Querying.shape c.in-Querying.run') (sym c.replace.ensures.value ∙ c.in-Querying.is)) (c.in_ok-moved-in-Querying.ensures.step c.args.image.now))
    c.in_ok-moved-in-Querying.ensures.behind

pub returns-in_ok-moved-in-Saving-clause-step : goal.returns-in_ok-moved-in-Saving-clause-step
returns-in_ok-moved-in-Saving-clause-step c =
    (save_to c.args.schema.now c.args.ticket c.args.image.now c.args.c.now c.in_ok-stop-in-Saving.stop c.save.new.c c.in_ok-moved-in-Saving.moved c.enter_fired.new.c (ap is_saving (sym c.replace.ensures.value ∙ c.in-Saving.is)) c.requires.stands
    (subst (λ y. SavesTo c.args.schema.now c.args.ticket c.args.image.now y c.in_ok-stop-in-Saving.stop c.save.new.c) (at_mode c.args.c.now (M.Saving c.in-Saving.places c.in-Saving.run') (sym c.replace.ensures.value ∙ c.in-Saving.is)) c.in_ok-stop-in-Saving.ensures.step)
    c.in_ok-stop-in-Saving.ensures.behind c.in_ok-moved-in-Saving.ensures).0

pub returns-in_ok-moved-in-Saving-clause-keeps : goal.returns-in_ok-moved-in-Saving-clause-keeps
returns-in_ok-moved-in-Saving-clause-keeps c =
    (save_to c.args.schema.now c.args.ticket c.args.image.now c.args.c.now c.in_ok-stop-in-Saving.stop c.save.new.c c.in_ok-moved-in-Saving.moved c.enter_fired.new.c (ap is_saving (sym c.replace.ensures.value ∙ c.in-Saving.is)) c.requires.stands
    (subst (λ y. SavesTo c.args.schema.now c.args.ticket c.args.image.now y c.in_ok-stop-in-Saving.stop c.save.new.c) (at_mode c.args.c.now (M.Saving c.in-Saving.places c.in-Saving.run') (sym c.replace.ensures.value ∙ c.in-Saving.is)) c.in_ok-stop-in-Saving.ensures.step)
    c.in_ok-stop-in-Saving.ensures.behind c.in_ok-moved-in-Saving.ensures).1
