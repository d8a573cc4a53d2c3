use Rattle.std.proofs.Common.{List, refl, ap, ◌∙◌}
use Rattle.apex_rows.specs.declared.row.Row.{Row}
use Rattle.row_meaning.specs.Stores.{put_all}
use Rattle.query_finding.specs.Steps.{site_of}
use Rattle.query_finding.proofs.Over.{over_found, over_wants}
use Rattle.query_finding.proofs.parents.read_over.Goals as goal

pub returns-in-Wants : goal.returns-in-Wants
returns-in-Wants c = (
  over_wants (site_of c.args.schema.now c.args.ticket) c.args.overlay.now c.args.object c.args.path.now c.args.rows.now c.args.known.now c.as_slice.result.now c.args.answers.now c.rows_by.new.answers c.in_ok-question.field-0
      (c.as_slice.ensures ∙ c.in_ok-ids.ensures) c.in_ok-question.ensures c.in-Wants.question c.in-Wants.is,
  refl,
)

pub returns : goal.returns
returns c =
    over_found (site_of c.args.schema.now c.args.ticket) c.args.overlay.now c.args.object c.args.path.now c.args.rows.now c.args.known.now c.as_slice.result.now c.args.answers.now c.rows_by.new.answers c.in_ok-question.field-0
    (c.as_slice.ensures ∙ c.in_ok-ids.ensures) c.in_ok-question.ensures c.in-Found.found c.put_all.new.self c.in-Found.is (c.in_ok-put_all-in-Found.ensures ∙ ap (λ (rs : List Row). put_all rs c.args.known.now) c.into_vec.ensures)
