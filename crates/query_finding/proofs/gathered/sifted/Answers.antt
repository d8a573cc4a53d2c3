use Rattle.std.proofs.Common.{◌∙◌}
use Rattle.query_finding.specs.Steps.{site_of, test_of}
use Rattle.query_finding.proofs.Parts.{parents_found, parents_want}
use Rattle.query_finding.proofs.gathered.sifted.Goals as goal

pub returns-in-Wants : goal.returns-in-Wants
returns-in-Wants c =
    parents_want (site_of c.args.schema.now c.args.ticket) c.args.overlay.now c.args.mode c.args.binds.now c.args.query.now c.args.answers.now (test_of c.args.under c.args.ids.now) c.args.rows c.as_slice.result.now c.as_slice-2.result.now
    c.in_ok-question.field-0 c.read_parents.new.answers (c.as_slice.ensures ∙ c.in_ok-paths.ensures) c.as_slice-2.ensures c.in_ok-question.ensures c.in-Wants.question c.in-Wants.is

pub returns-in-Found : goal.returns-in-Found
returns-in-Found c =
    parents_found (site_of c.args.schema.now c.args.ticket) c.args.overlay.now c.args.mode c.args.binds.now c.args.query.now c.args.answers.now (test_of c.args.under c.args.ids.now) c.args.rows c.as_slice.result.now c.as_slice-2.result.now
    c.in_ok-question.field-0 c.read_parents.new.answers (c.as_slice.ensures ∙ c.in_ok-paths.ensures) c.as_slice-2.ensures c.in_ok-question.ensures c.in-Found.known c.sift_over.new.answers c.sift_over.result c.in-Found.is c.sift_over.ensures
