use Rattle.std.proofs.Common.{sym, ap, ◌∙◌}
use Rattle.std.proofs.lemmas.Result.{IfOk-weaker}
use Rattle.std.specs.Option.{option_copied}
use Rattle.save_statements.specs.declared.run.Phase.TheVariants as P
use Rattle.save_statements.specs.declared.run.Stage.TheVariants as S
use Rattle.save_statements.specs.Inquiries.{replayed}
use Rattle.save_statements.specs.Checks.{validate}
use Rattle.save_statements.specs.Moves.{at, behind, replays}
use Rattle.save_stages.specs.Does.{site_of}
use Rattle.save_moves.proofs.Asking.{ends}
use Rattle.save_moves.proofs.asks.validate.Goals as goal

pub returns-in-None : goal.returns-in-None
returns-in-None c =
    IfOk-weaker c.without_object.result _ _
    (λ m is triggers. ends (site_of c.args.schema.now c.args.ticket) triggers (at c.args.run.now (S.Validate c.args.records c.args.answers)) c.args.txn.now (λ o. replays (replayed (validate (site_of c.args.schema.now c.args.ticket) c.args.txn.now.overlay.now c.args.run.now.act c.args.run.now.object o c.args.records) c.args.answers) (behind P.Validate) (at c.args.run.now (S.Validate c.args.records c.args.answers)) c.args.txn.now) m _ (sym c.get.ensures.value ∙ ap option_copied c.in-None.is) is) c.without_object.ensures
