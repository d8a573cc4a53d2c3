use Rattle.save_statements.specs.declared.run.Phase.TheVariants as P
use Rattle.save_statements.specs.declared.run.Stage.TheVariants as S
use Rattle.save_statements.specs.Checks.{validate}
use Rattle.save_statements.specs.Moves.{at, behind}
use Rattle.save_stages.specs.Does.{site_of}
use Rattle.save_moves.proofs.Asking.{goes, asks}
use Rattle.save_moves.proofs.asks.validate_records.Goals as goal

pub returns-in-Wants : goal.returns-in-Wants
returns-in-Wants c =
    λ triggers. asks (site_of c.args.schema.now c.args.ticket) triggers (at c.args.run.now (S.Validate c.args.records c.args.answers)) c.args.txn.now c.args.object.now c.requires.object
    (λ overlay o. validate (site_of c.args.schema.now c.args.ticket) overlay c.args.run.now.act c.args.run.now.object o c.args.records) (behind P.Validate) c.overlay-overlay.result.now c.as_slice-told.result.now c.args.answers c.overlay-overlay.ensures c.as_slice-told.ensures (λ rs. S.Validate rs c.args.answers) c.in_ok-question.field-0 c.in-Wants.question c.args.records c.validated.new.records c.in_ok-question.ensures c.in-Wants.is

pub returns-in-Found : goal.returns-in-Found
returns-in-Found c =
    λ triggers. goes (site_of c.args.schema.now c.args.ticket) triggers (at c.args.run.now (S.Validate c.args.records c.args.answers)) c.args.txn.now c.args.object.now c.requires.object
    (λ overlay o. validate (site_of c.args.schema.now c.args.ticket) overlay c.args.run.now.act c.args.run.now.object o c.args.records) (behind P.Validate) c.overlay-overlay.result.now c.as_slice-told.result.now c.args.answers c.overlay-overlay.ensures c.as_slice-told.ensures c.in_ok-question.field-0 _ c.args.records c.validated.new.records c.in_ok-question.ensures c.in-Found.is
