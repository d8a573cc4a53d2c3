use Rattle.std.proofs.Common.{◌∙◌}
use Rattle.save_statements.specs.Statements.{unplaced}
use Rattle.save_loading.proofs.Parts.{rows_wants, rows_found}
use Rattle.save_loading.proofs.loading.load_old.Goals as goal

pub returns-in-Wants : goal.returns-in-Wants
returns-in-Wants c =
    rows_wants (record { schema = c.args.schema.now; ticket = c.args.ticket }) c.args.overlay.now c.args.act c.args.by c.args.object.now (unplaced c.args.rows.now) c.args.answers.now c.rows_by.new.answers
    c.args.number c.rows_by.new.answers _ c.as_slice.result.now _ c.in_ok-given_ids.ensures (c.as_slice.ensures ∙ c.in_ok-ids.ensures) c.in_ok-question.ensures c.in-Wants.question c.in-Wants.is

pub returns : goal.returns
returns c =
    rows_found (record { schema = c.args.schema.now; ticket = c.args.ticket }) c.args.overlay.now c.args.act c.args.by c.args.object.now (unplaced c.args.rows.now) c.args.answers.now c.load_found.new.answers
    c.args.number c.rows_by.new.answers _ c.as_slice.result.now _ c.in_ok-given_ids.ensures (c.as_slice.ensures ∙ c.in_ok-ids.ensures) c.in_ok-question.ensures c.in-Found.found c.load_found.result c.in-Found.is c.load_found.ensures
