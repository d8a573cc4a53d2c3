use Rattle.std.proofs.Common.{List, ap}
use Rattle.apex_rows.specs.declared.row.Row.{Row}
use Rattle.query_finding.specs.Steps.{site_of}
use Rattle.query_finding.proofs.Parts.{cut_found}
use Rattle.query_finding.proofs.cuts.find_in.Goals as goal

pub returns : goal.returns
returns c =
    cut_found (site_of c.args.schema.now c.args.ticket) c.args.overlay.now c.args.mode c.args.binds.now c.args.query.now c.args.answers.now c.args.gathered c.into_parts-rows.result.0 c.into_parts-rows.result.1 c.in_ok-rows.rows
    c.with_children.new.answers c.with_children.result (ap (λ (p : List Row × List Row). p.0) c.into_parts-rows.ensures) (ap (λ (p : List Row × List Row). p.1) c.into_parts-rows.ensures) c.in_ok-rows.ensures c.with_children.ensures
