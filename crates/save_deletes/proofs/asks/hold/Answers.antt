use Rattle.std.proofs.Common.{◌≡◌, [], List, ap, ◌∙◌}
use Rattle.apex_rows.specs.declared.row.Row.{Row}
use Rattle.save_meaning.specs.Drafts.{with_ids}
use Rattle.save_meaning.specs.Inserts.{ids_of}
use Rattle.save_deletes.proofs.Down.{hold_found, hold_wants}
use Rattle.save_deletes.proofs.asks.hold.Goals as goal

pub returns-in-Wants : goal.returns-in-Wants
returns-in-Wants c =
    let same : c.as_slice-2.result.now ≡ with_ids (ids_of c.args.rows) [] =
    c.as_slice-2.ensures ∙ c.in_ok-ids.ensures ∙ c.in_ok-set.ensures ∙ ap (λ (rows : List Row). with_ids (ids_of rows) []) c.as_slice.ensures in
    hold_wants c.args.ticket c.args.rows c.as_slice-2.result.now c.args.answers.now c.grab.new.answers c.in_ok-question.field-0 same c.in-Wants.question c.in-Wants.is c.in_ok-question.ensures

pub returns-in-Found : goal.returns-in-Found
returns-in-Found c =
    let same : c.as_slice-2.result.now ≡ with_ids (ids_of c.args.rows) [] =
    c.as_slice-2.ensures ∙ c.in_ok-ids.ensures ∙ c.in_ok-set.ensures ∙ ap (λ (rows : List Row). with_ids (ids_of rows) []) c.as_slice.ensures in
    hold_found c.args.ticket c.args.rows c.as_slice-2.result.now c.args.answers.now c.grab.new.answers c.in_ok-question.field-0 same _ c.in-Found.is c.in_ok-question.ensures
