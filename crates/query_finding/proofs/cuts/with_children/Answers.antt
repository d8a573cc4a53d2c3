use Rattle.query_finding.specs.Steps.{site_of}
use Rattle.query_finding.proofs.Parts.{children_found, children_want}
use Rattle.query_finding.proofs.cuts.with_children.Goals as goal

pub returns-in-Wants : goal.returns-in-Wants
returns-in-Wants c =
    children_want (site_of c.args.schema.now c.args.ticket) c.args.overlay.now c.args.mode c.args.binds.now c.args.query.now c.args.answers.now c.args.known.now c.args.rows c.as_slice-2.result.now c.as_slice.result.now c.in_ok-ids.ids
    c.in_ok-question.field-0 c.read_all_under.new.answers c.as_slice-2.ensures c.as_slice.ensures c.in_ok-ids.ensures c.in_ok-question.ensures c.in-Wants.question c.in-Wants.is

pub returns-in_ok-found-in-Found : goal.returns-in_ok-found-in-Found
returns-in_ok-found-in-Found c =
    children_found (site_of c.args.schema.now c.args.ticket) c.args.overlay.now c.args.mode c.args.binds.now c.args.query.now c.args.answers.now c.args.known.now c.args.rows c.as_slice-2.result.now c.as_slice.result.now c.in_ok-ids.ids
    c.in_ok-question.field-0 c.read_all_under.new.answers c.as_slice-2.ensures c.as_slice.ensures c.in_ok-ids.ensures c.in_ok-question.ensures c.in-Found.under c.as_slice-in-Found.result.now c.in_ok-found-in-Found.found c.in-Found.is
    c.as_slice-in-Found.ensures c.in_ok-found-in-Found.ensures
