use Rattle.std.proofs.Common.{refl, sym, ap, subst, ◌∙◌}
use Rattle.save_moves.specs.Advances.{Advances}
use Rattle.save_stages.specs.Does.{site_of}
use Rattle.stack_code.specs.declared.state.Mode.TheVariants as M
use Rattle.request_states.specs.Statements.{name_records}
use Rattle.stack_code.specs.Machine.{in_mode, with_txn, with_heap}
use Rattle.stack_code.specs.Steps.{triggers_in}
use Rattle.program_things.specs.declared.moved.Moved.TheVariants as S
use Rattle.program_things.specs.Saves.{IsStepTo}
use Rattle.program_things.proofs.Advancing.{asks_in, ends_in, fires_in, threw_in, halted_in, over_behind}
use Rattle.program_things.proofs.Fired.{stops_as}
use Rattle.program_things.proofs.saves.save.Goals as goal

pub returns-in-Asked-clause-step : goal.returns-in-Asked-clause-step
returns-in-Asked-clause-step c =
    subst (λ x. IsStepTo c.args.schema.now c.args.ticket c.args.image.now (in_mode c.args.c.now (M.Saving c.args.places c.args.run)) (S.Asked c.in-Asked.question) x) (sym c.set_mode.ensures)
    (asks_in c.args.schema.now c.args.ticket c.args.image.now c.args.places c.args.c.now c.args.run c.args.c.now.world.txn c.in-Asked.question c.go_on.new.run c.go_on.new.txn (subst (λ s. Advances (site_of c.args.schema.now c.args.ticket) (triggers_in c.args.image.now) c.args.run c.args.c.now.world.txn s c.go_on.new.run c.go_on.new.txn) c.in-Asked.is c.in_ok-question.ensures))

pub returns-in-Fired-clause-step : goal.returns-in-Fired-clause-step
returns-in-Fired-clause-step c =
    fires_in c.args.schema.now c.args.ticket c.args.image.now c.args.places c.args.c.now c.args.run c.args.c.now.world.txn c.in-Fired.number c.in-Fired.context c.go_on.new.run c.go_on.new.txn c.fire.result c.fire.new.c
    (subst (λ s. Advances (site_of c.args.schema.now c.args.ticket) (triggers_in c.args.image.now) c.args.run c.args.c.now.world.txn s c.go_on.new.run c.go_on.new.txn) c.in-Fired.is c.in_ok-question.ensures) (c.fire.ensures.does c.args.ticket c.args.image.now)

pub returns-in-Fired-clause-behind : goal.returns-in-Fired-clause-behind
returns-in-Fired-clause-behind c = stops_as c.args.c.now (with_txn c.args.c.now c.go_on.new.txn) c.go_on.new.txn c.fire.result c.fire.new.c refl c.fire.ensures.behind

pub returns-in_ok-name_saved-in-Ended-clause-step : goal.returns-in_ok-name_saved-in-Ended-clause-step
returns-in_ok-name_saved-in-Ended-clause-step c =
    subst (λ x. IsStepTo c.args.schema.now c.args.ticket c.args.image.now (in_mode c.args.c.now (M.Saving c.args.places c.args.run)) S.Went x) (sym (c.set_mode-in-Ended.ensures ∙ ap (λ x. in_mode x M.Running) c.in_ok-name_saved-in-Ended.ensures
    ∙ ap (λ ps. in_mode (with_heap (with_txn c.args.c.now c.go_on.new.txn) (name_records ps c.as_slice-in-Ended.result.now c.args.c.now.world.heap)) M.Running) c.as_slice.ensures
    ∙ ap (λ os. in_mode (with_heap (with_txn c.args.c.now c.go_on.new.txn) (name_records c.args.places os c.args.c.now.world.heap)) M.Running) c.as_slice-in-Ended.ensures))
    (ends_in c.args.schema.now c.args.ticket c.args.image.now c.args.places c.args.c.now c.args.run c.args.c.now.world.txn c.in-Ended.outcomes c.go_on.new.run c.go_on.new.txn (subst (λ s. Advances (site_of c.args.schema.now c.args.ticket) (triggers_in c.args.image.now) c.args.run c.args.c.now.world.txn s c.go_on.new.run c.go_on.new.txn) c.in-Ended.is c.in_ok-question.ensures))

pub returns-in-Threw-clause-step : goal.returns-in-Threw-clause-step
returns-in-Threw-clause-step c =
    subst (λ x. IsStepTo c.args.schema.now c.args.ticket c.args.image.now (in_mode c.args.c.now (M.Saving c.args.places c.args.run)) S.Went x) (sym c.set_mode-in-Threw.ensures)
    (threw_in c.args.schema.now c.args.ticket c.args.image.now c.args.places c.args.c.now c.args.run c.args.c.now.world.txn c.in-Threw.thrown c.go_on.new.run c.go_on.new.txn (subst (λ s. Advances (site_of c.args.schema.now c.args.ticket) (triggers_in c.args.image.now) c.args.run c.args.c.now.world.txn s c.go_on.new.run c.go_on.new.txn) c.in-Threw.is c.in_ok-question.ensures))

pub returns-in-Halted-clause-step : goal.returns-in-Halted-clause-step
returns-in-Halted-clause-step c =
    halted_in c.args.schema.now c.args.ticket c.args.image.now c.args.places c.args.c.now c.args.run c.args.c.now.world.txn c.in-Halted.limit c.go_on.new.run c.go_on.new.txn c.limited.result (with_txn c.args.c.now c.go_on.new.txn) (subst (λ s. Advances (site_of c.args.schema.now c.args.ticket) (triggers_in c.args.image.now) c.args.run c.args.c.now.world.txn s c.go_on.new.run c.go_on.new.txn) c.in-Halted.is c.in_ok-question.ensures) c.limited.ensures

pub returns-in-Halted-clause-behind : goal.returns-in-Halted-clause-behind
returns-in-Halted-clause-behind c = over_behind _ c.args.c.now (with_txn c.args.c.now c.go_on.new.txn) c.limited.result c.limited.ensures
