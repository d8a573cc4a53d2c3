use Rattle.std.proofs.Common.{ap, ◌∙◌}
use Rattle.std.specs.Prelude.{filter}
use Rattle.apex_rows.specs.declared.row.Row.{Row}
use Rattle.row_meaning.specs.Accesses.{access}
use Rattle.row_meaning.specs.Queries.{is_visible}
use Rattle.query_finding.proofs.Seeing.{sees}
use Rattle.query_finding.proofs.sharing.seen.Goals as goal

pub returns : goal.returns
returns c =
    c.of.ensures
    ∙ sees c.args.schema.now c.args.user c.args.shares c.into_vec.result.items c.in_ok-seen_by.field-0.items c.in_ok-viewer.viewer c.in_ok-viewer.ensures c.in_ok-seen_by.ensures
    ∙ ap (filter (λ (r : Row). is_visible (access c.args.schema.now c.args.user r c.args.shares))) c.into_vec.ensures
