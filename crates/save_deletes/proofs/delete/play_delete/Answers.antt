use Rattle.std.proofs.Common.{List, refl, subst}
use Rattle.std.proofs.lemmas.Result.{IfOk-weaker}
use Rattle.apex_rows.specs.declared.row.Row.{Row}
use Rattle.answer_replay.specs.Playing.{Plays}
use Rattle.answer_replay.proofs.Composing.{wants_on}
use Rattle.save_statements.specs.declared.pending.Record.{Record}
use Rattle.save_statements.specs.Records.{going, rows_of}
use Rattle.save_statements.specs.Checks.{levels}
use Rattle.save_deletes.specs.Downward.{site_of, with_levels}
use Rattle.save_deletes.proofs.Down.{then_plays_into}
use Rattle.save_deletes.proofs.delete.play_delete.Goals as goal

pub returns-in-Found : goal.returns-in-Found
returns-in-Found c =
    IfOk-weaker c.play_with.result _ _
    (λ comes h.
    then_plays_into (levels (site_of c.args.schema.now c.args.ticket) c.args.overlay.now 3 (rows_of (going c.args.records.now))) (λ (ls : List (List Row)). with_levels c.args.schema.now c.args.overlay.now c.args.records.now ls) c.args.answers.now c.all_levels.new.answers _ c.in_ok-question.field-0 c.in-Found.levels c.in-Found.is
    (subst (λ (rs : List Record). Plays (levels (site_of c.args.schema.now c.args.ticket) c.args.overlay.now 3 (rows_of (going rs))) c.args.answers.now c.in_ok-question.field-0 c.all_levels.new.answers) c.as_slice.ensures c.in_ok-question.ensures) comes c.args.records.now _ h) c.play_with.ensures

pub returns-in-Wants : goal.returns-in-Wants
returns-in-Wants c = (
  wants_on (levels (site_of c.args.schema.now c.args.ticket) c.args.overlay.now 3 (rows_of (going c.args.records.now))) (λ (ls : List (List Row)). with_levels c.args.schema.now c.args.overlay.now c.args.records.now ls) c.args.answers.now c.all_levels.new.answers c.in_ok-question.field-0 c.in-Wants.question c.in-Wants.is
      (subst (λ (rs : List Record). Plays (levels (site_of c.args.schema.now c.args.ticket) c.args.overlay.now 3 (rows_of (going rs))) c.args.answers.now c.in_ok-question.field-0 c.all_levels.new.answers) c.as_slice.ensures c.in_ok-question.ensures),
  refl,
)
