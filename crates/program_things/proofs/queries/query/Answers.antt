use Rattle.std.proofs.Common.{sym, ap, subst, ◌∙◌}
use Rattle.query_meaning.specs.Queries.{Counted}
use Rattle.query_records.specs.Records.{records_made}
use Rattle.save_stages.specs.Does.{site_of}
use Rattle.soql_run.specs.Advances.{Advances}
use Rattle.stack_code.specs.Machine.{in_mode, with_txn}
use Rattle.stack_code.specs.Steps.{with_made}
use Rattle.stack_code.specs.declared.state.Mode.TheVariants as M
use Rattle.program_things.specs.declared.moved.Moved.TheVariants as S
use Rattle.program_things.specs.Saves.{IsStepTo}
use Rattle.program_things.proofs.Querying.{asks_in, counted_in, halted_in, listed_in, over_behind, threw_in}
use Rattle.program_things.proofs.queries.query.Goals as goal

pub returns-in_ok-new-in-Asked-clause-step : goal.returns-in_ok-new-in-Asked-clause-step
returns-in_ok-new-in-Asked-clause-step c =
    λ image. subst (λ x. IsStepTo c.args.schema.now c.args.ticket image (in_mode c.args.c.now (M.Querying c.args.shape c.args.run)) (S.Asked c.in-Asked.question) x) (sym c.set_mode.ensures)
    (subst (λ s. IsStepTo c.args.schema.now c.args.ticket image (in_mode c.args.c.now (M.Querying c.args.shape c.args.run)) (S.Asked c.in-Asked.question) (in_mode (with_txn c.args.c.now c.advance.new.txn) (M.Querying s c.in_ok-new-in-Asked.field-0))) (sym c.shape.view_is)
    (subst (λ r. IsStepTo c.args.schema.now c.args.ticket image (in_mode c.args.c.now (M.Querying c.args.shape c.args.run)) (S.Asked c.in-Asked.question) (in_mode (with_txn c.args.c.now c.advance.new.txn) (M.Querying c.args.shape r))) (sym c.in_ok-new-in-Asked.ensures)
    (asks_in c.args.schema.now c.args.ticket image c.args.shape c.args.c.now c.args.run c.args.c.now.world.txn c.in-Asked.question c.advance.new.run c.advance.new.txn
    (subst (λ s. Advances (site_of c.args.schema.now c.args.ticket) c.args.run c.args.c.now.world.txn s c.advance.new.run c.advance.new.txn) c.in-Asked.is
    (subst (λ r. Advances (site_of c.args.schema.now c.args.ticket) r c.args.c.now.world.txn c.in_ok-question.field-0 c.advance.new.run c.advance.new.txn) c.into_value-run.ensures c.in_ok-question.ensures)))))

pub returns-in_ok-counted-in-Counted-clause-step : goal.returns-in_ok-counted-in-Counted-clause-step
returns-in_ok-counted-in-Counted-clause-step c =
    λ image. subst (λ x. IsStepTo c.args.schema.now c.args.ticket image (in_mode c.args.c.now (M.Querying c.args.shape c.args.run)) S.Went x) (sym c.in_ok-counted-in-Counted.ensures)
    (counted_in c.args.schema.now c.args.ticket image c.args.shape c.args.c.now c.args.run c.args.c.now.world.txn c.in-Counted.n c.advance.new.run c.advance.new.txn
    (subst (λ s. Advances (site_of c.args.schema.now c.args.ticket) c.args.run c.args.c.now.world.txn s c.advance.new.run c.advance.new.txn) c.in-Counted.is
    (subst (λ r. Advances (site_of c.args.schema.now c.args.ticket) r c.args.c.now.world.txn c.in_ok-question.field-0 c.advance.new.run c.advance.new.txn) c.into_value-run.ensures c.in_ok-question.ensures)))

pub returns-in_ok-listed-in-Found-clause-step : goal.returns-in_ok-listed-in-Found-clause-step
returns-in_ok-listed-in-Found-clause-step c =
    λ image. subst (λ x. IsStepTo c.args.schema.now c.args.ticket image (in_mode c.args.c.now (M.Querying c.args.shape c.args.run)) S.Went x)
    (sym (c.in_ok-listed-in-Found.ensures
    ∙ ap (λ s. in_mode (with_made (records_made c.args.schema.now s c.as_slice.result.now c.args.c.now.world.heap) (with_txn c.args.c.now c.advance.new.txn)) M.Running) c.get.ensures
    ∙ ap (λ f. in_mode (with_made (records_made c.args.schema.now c.args.shape f c.args.c.now.world.heap) (with_txn c.args.c.now c.advance.new.txn)) M.Running) c.as_slice.ensures))
    (listed_in c.args.schema.now c.args.ticket image c.args.shape c.args.c.now c.args.run c.args.c.now.world.txn c.in-Found.found c.advance.new.run c.advance.new.txn
    (subst (λ s. Advances (site_of c.args.schema.now c.args.ticket) c.args.run c.args.c.now.world.txn s c.advance.new.run c.advance.new.txn) c.in-Found.is
    (subst (λ r. Advances (site_of c.args.schema.now c.args.ticket) r c.args.c.now.world.txn c.in_ok-question.field-0 c.advance.new.run c.advance.new.txn) c.into_value-run.ensures c.in_ok-question.ensures)))

pub returns-in-Threw-clause-step : goal.returns-in-Threw-clause-step
returns-in-Threw-clause-step c =
    λ image. subst (λ x. IsStepTo c.args.schema.now c.args.ticket image (in_mode c.args.c.now (M.Querying c.args.shape c.args.run)) S.Went x) (sym c.set_mode-in-Threw.ensures)
    (threw_in c.args.schema.now c.args.ticket image c.args.shape c.args.c.now c.args.run c.args.c.now.world.txn c.in-Threw.thrown c.advance.new.run c.advance.new.txn
    (subst (λ s. Advances (site_of c.args.schema.now c.args.ticket) c.args.run c.args.c.now.world.txn s c.advance.new.run c.advance.new.txn) c.in-Threw.is
    (subst (λ r. Advances (site_of c.args.schema.now c.args.ticket) r c.args.c.now.world.txn c.in_ok-question.field-0 c.advance.new.run c.advance.new.txn) c.into_value-run.ensures c.in_ok-question.ensures)))

pub returns-in-Halted-clause-step : goal.returns-in-Halted-clause-step
returns-in-Halted-clause-step c =
    λ image. halted_in c.args.schema.now c.args.ticket image c.args.shape c.args.c.now c.args.run c.args.c.now.world.txn c.in-Halted.limit c.advance.new.run c.advance.new.txn c.limited.result (with_txn c.args.c.now c.advance.new.txn)
    (subst (λ s. Advances (site_of c.args.schema.now c.args.ticket) c.args.run c.args.c.now.world.txn s c.advance.new.run c.advance.new.txn) c.in-Halted.is
    (subst (λ r. Advances (site_of c.args.schema.now c.args.ticket) r c.args.c.now.world.txn c.in_ok-question.field-0 c.advance.new.run c.advance.new.txn) c.into_value-run.ensures c.in_ok-question.ensures)) c.limited.ensures
