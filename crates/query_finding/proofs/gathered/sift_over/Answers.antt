use Rattle.query_finding.specs.Steps.{site_of, test_of}
use Rattle.query_finding.proofs.Parts.{seen_found, seen_wants}
use Rattle.query_finding.proofs.gathered.sift_over.Goals as goal

pub returns-in-Wants : goal.returns-in-Wants
returns-in-Wants c =
    seen_wants (site_of c.args.schema.now c.args.ticket) c.args.overlay.now c.args.mode c.args.binds.now c.args.query.now c.args.answers.now (test_of c.args.under c.args.ids.now) c.args.rows c.args.known c.in_ok-left.left c.in_ok-question.field-0
    c.shown.new.answers c.in_ok-left.ensures c.in_ok-question.ensures c.in-Wants.question c.in-Wants.is

pub returns-in-Found : goal.returns-in-Found
returns-in-Found c =
    seen_found (site_of c.args.schema.now c.args.ticket) c.args.overlay.now c.args.mode c.args.binds.now c.args.query.now c.args.answers.now (test_of c.args.under c.args.ids.now) c.args.rows c.args.known c.in_ok-left.left c.in_ok-question.field-0
    c.shown.new.answers c.in_ok-left.ensures c.in_ok-question.ensures c.in-Found.seen c.new.result c.in-Found.is c.new.ensures
