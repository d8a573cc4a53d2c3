use Rattle.std.proofs.Common.{arith}
use Rattle.query_finding.specs.Steps.{site_of}
use Rattle.query_finding.proofs.Below.{finds_begin, finds_end, sub_found, sub_wants}
use Rattle.query_finding.proofs.under.read_all_under.Goals as goal

pub loop-sub-init : goal.loop-sub-init
loop-sub-init c = finds_begin (site_of c.args.schema.now c.args.ticket) c.args.overlay.now c.args.mode c.args.binds.now c.args.subs.now c.args.ids.now c.args.answers.now c.new-all.result c.new-all.ensures

pub returns-in-Wants : goal.returns-in-Wants
returns-in-Wants c =
    sub_wants (site_of c.args.schema.now c.args.ticket) c.args.overlay.now c.args.mode c.args.binds.now c.args.subs.now c.args.ids.now c.args.answers.now c.loop-sub.sub-index c.loop-sub.all c.loop-sub.answers c.loop-sub.invariant
    c.sub-item.result c.loop-sub-test.true c.sub-item.is c.in_ok-question.field-0 c.read_under.new.answers c.in_ok-question.ensures c.in-Wants.question c.in-Wants.is

pub loop-sub-preserved : goal.loop-sub-preserved
loop-sub-preserved c =
    sub_found (site_of c.args.schema.now c.args.ticket) c.args.overlay.now c.args.mode c.args.binds.now c.args.subs.now c.args.ids.now c.args.answers.now c.loop-sub.sub-index c.loop-sub.all c.loop-sub.answers c.loop-sub.invariant
    c.sub-item.result c.loop-sub-test.true c.sub-item.is c.in_ok-question.field-0 c.read_under.new.answers c.in_ok-question.ensures c.in-Found.found c.add.new.all c.in-Found.is c.in_ok-add-in-Found.ensures

pub returns : goal.returns
returns c =
    finds_end (site_of c.args.schema.now c.args.ticket) c.args.overlay.now c.args.mode c.args.binds.now c.args.subs.now c.args.ids.now c.args.answers.now c.loop-sub.sub-index c.loop-sub.all c.loop-sub.answers c.loop-sub.invariant (omega arith)
