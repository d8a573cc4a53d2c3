use Rattle.std.proofs.lemmas.Result.{IfOk-weaker}
use Rattle.save_statements.specs.Checks.{validate_delete}
use Rattle.save_deletes.specs.Downward.{site_of}
use Rattle.save_deletes.proofs.Down.{replays_from}
use Rattle.save_deletes.proofs.delete.validate_delete.Goals as goal

pub returns : goal.returns
returns c =
    IfOk-weaker c.play_delete.result _ _
    (λ comes h. replays_from (validate_delete (site_of c.args.schema.now c.args.ticket) c.args.overlay.now c.args.records.now) c.new-left.result c.args.answers.now _ comes c.args.records.now _ c.new-left.ensures h) c.play_delete.ensures
