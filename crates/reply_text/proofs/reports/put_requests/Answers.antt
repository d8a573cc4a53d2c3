use Rattle.std.proofs.Common.{arith}
use Rattle.reply_text.proofs.Texts.{grows, request_more}
use Rattle.reply_text.proofs.reports.put_requests.Goals as goal

pub requests-preserved : goal.requests-preserved
requests-preserved c =
    let line = c.in_ok-put_undeployed.ensures in
    let longer = grows c.requests.out.items c.put_undeployed.new.out.items c.requests.number c.args.session c.requests.i c.args.fault.now line in
    let long = c.requests.invariant.2 in
    let number = c.requests.invariant.1 in
    (request_more c.requests.out.items c.put_undeployed.new.out.items _ c.requests.number c.args.session c.requests.i c.args.fault.now c.args.requests.now c.requests-test.true line c.requests.invariant.0, omega arith, omega arith)
