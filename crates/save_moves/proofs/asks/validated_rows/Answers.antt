use Rattle.std.proofs.lemmas.Result.{IfOk-weaker}
use Rattle.save_moves.proofs.asks.validated_rows.Goals as goal

pub returns : goal.returns
returns c = IfOk-weaker c.validate_rows.result _ _ (λ comes h. h c.args.ticket) c.validate_rows.ensures
