use Rattle.std.proofs.Common.{subst, List}
use Rattle.std.proofs.lemmas.Result.{IfOk-weaker}
use Rattle.save_statements.specs.declared.pending.Naming.{Naming}
use Rattle.answer_replay.specs.Playing.{Plays}
use Rattle.save_statements.specs.Checks.{joined, naming_all}
use Rattle.save_statements.specs.Records.{going, rows_of}
use Rattle.std.proofs.Common.{◌++◌, ◌∙◌}
use Rattle.save_deletes.proofs.asks.naming_gone.Goals as goal

pub returns : goal.returns
returns c =
    IfOk-weaker c.naming_all.result _ _
    (λ comes h.
    subst (λ (ns : List Naming). Plays (naming_all c.args.overlay.now ns (rows_of (going c.args.records.now) ++ joined c.args.levels.now)) c.args.answers.now comes c.naming_all.new.answers) (c.as_slice.ensures ∙ c.in_ok-lookups.ensures)
    (h (rows_of (going c.args.records.now) ++ joined c.args.levels.now) c.in_ok-heads.ensures)) c.naming_all.ensures
