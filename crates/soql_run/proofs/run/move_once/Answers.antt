use Rattle.std.proofs.Common.{sym, subst, ◌∙◌}
use Rattle.std.proofs.lemmas.Result.{IfOk-weaker}
use Rattle.query_moves.specs.declared.run.QueryStage.TheVariants as S
use Rattle.save_stages.specs.Does.{site_of}
use Rattle.soql_run.specs.Doings.{Does}
use Rattle.soql_run.proofs.Goes.{at_stage}
use Rattle.soql_run.proofs.run.move_once.Goals as goal

pub returns-in-Hold : goal.returns-in-Hold
returns-in-Hold c =
    IfOk-weaker c.hold.result _ _
    (λ m h. subst (λ r. Does (site_of c.args.schema.now c.args.ticket) r c.args.txn.now m c.hold.new.run c.args.txn.now)
    (at_stage c.args.run.now (S.Hold c.in-Hold.found c.in-Hold.answers) (sym c.in-Hold.is ∙ c.replace.ensures.value)) (h c.args.schema.now c.args.txn.now)) c.hold.ensures
