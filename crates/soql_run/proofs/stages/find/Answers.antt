use Rattle.std.proofs.Common.{refl, sym, subst}
use Rattle.answer_replay.specs.declared.answers.Comes.TheVariants as C
use Rattle.query_meaning.specs.Queries.{finding}
use Rattle.query_moves.specs.Moves.{Asks, at, came}
use Rattle.query_moves.specs.declared.run.QueryStage.TheVariants as S
use Rattle.save_stages.specs.Does.{site_of}
use Rattle.soql_run.specs.Doings.{IsDone}
use Rattle.soql_run.proofs.Asking.{made}
use Rattle.soql_run.proofs.stages.find.Goals as goal

pub returns-in-Wants : goal.returns-in-Wants
returns-in-Wants c = (
  made (came (site_of c.args.schema.now c.args.ticket) (at c.args.run.now (S.Find c.args.answers)) c.args.txn.now) Asks (finding (site_of c.args.schema.now c.args.ticket) c.args.txn.now.overlay.now c.args.run.now.mode c.args.run.now.binds c.args.run.now.query)
      c.as_slice.result.now c.args.answers c.in_ok-question.field-0 (C.Wants c.in-Wants.question) c.as_slice.ensures c.in_ok-question.ensures c.in-Wants.is,
  refl,
  refl,
)

pub returns-in-Found : goal.returns-in-Found
returns-in-Found c =
    subst (λ next. IsDone (at c.args.run.now (S.Find c.args.answers)) c.args.txn.now next c.came.result c.came.new.run c.came.new.txn)
    (sym (made (came (site_of c.args.schema.now c.args.ticket) (at c.args.run.now (S.Find c.args.answers)) c.args.txn.now) Asks (finding (site_of c.args.schema.now c.args.ticket) c.args.txn.now.overlay.now c.args.run.now.mode c.args.run.now.binds c.args.run.now.query)
    c.as_slice.result.now c.args.answers c.in_ok-question.field-0 (C.Found c.in-Found.found) c.as_slice.ensures c.in_ok-question.ensures c.in-Found.is))
    (c.came.ensures c.args.ticket (at c.args.run.now (S.Find c.args.answers)))
