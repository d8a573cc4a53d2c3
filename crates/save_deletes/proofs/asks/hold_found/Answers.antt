use Rattle.std.proofs.Common.{subst, List}
use Rattle.std.proofs.lemmas.Result.{IfOk-weaker}
use Rattle.apex_rows.specs.declared.row.Row.{Row}
use Rattle.answer_replay.specs.Playing.{Plays}
use Rattle.save_deletes.specs.Downward.{held_rows}
use Rattle.save_deletes.proofs.asks.hold_found.Goals as goal

pub returns : goal.returns
returns c = IfOk-weaker c.hold.result _ _ (λ comes h. subst (λ (rows : List Row). Plays (held_rows c.args.ticket rows) c.args.answers.now comes c.hold.new.answers) c.in_ok-rows.ensures h) c.hold.ensures
