use Rattle.query_finding.specs.Steps.{site_of}
use Rattle.query_finding.proofs.Parts.{finding_found, finding_wants}
use Rattle.query_finding.proofs.cuts.finding.Goals as goal

pub returns-in-Wants : goal.returns-in-Wants
returns-in-Wants c =
    finding_wants (site_of c.args.schema.now c.args.ticket) c.args.overlay.now c.args.mode c.args.binds.now c.args.query.now c.args.answers.now c.new-none.result c.in_ok-question.field-0 c.gather.new.answers c.in_ok-question.ensures
    c.in-Wants.question c.in-Wants.is

pub returns : goal.returns
returns c =
    finding_found (site_of c.args.schema.now c.args.ticket) c.args.overlay.now c.args.mode c.args.binds.now c.args.query.now c.args.answers.now c.new-none.result c.in_ok-question.field-0 c.gather.new.answers c.in_ok-question.ensures
    c.in-Found.gathered c.find_in.new.answers c.find_in.result c.in-Found.is c.find_in.ensures
