use Rattle.std.proofs.Common.{◌<◌, ◌≤◌, subst}
use Rattle.txn_overlay.proofs.Undoing.{none_taken, one_taken, taken_log, taken_overlay}
use Rattle.txn_overlay.proofs.journal.take_back.Goals as goal

pub back-init : goal.back-init
back-init c = none_taken c.args.mark c.args.log.now c.args.overlay.now c.requires

pub back-preserved : goal.back-preserved
back-preserved c =
    one_taken c.args.mark c.back.log c.pop.new.self c.back.overlay c.put_back.new.self c.args.log.now c.args.overlay.now c.in-Some.was
    c.back.invariant (subst (λ n. c.args.mark < n) c.len.ensures c.back-test.true) c.in-Some.ensures c.put_back.ensures

pub returns-clause-overlay : goal.returns-clause-overlay
returns-clause-overlay c =
    taken_overlay c.args.mark c.back.log c.back.overlay c.args.log.now c.args.overlay.now c.back.invariant (subst (λ n. n ≤ c.args.mark) c.len.ensures c.back-test.false)

pub returns-clause-log : goal.returns-clause-log
returns-clause-log c =
    taken_log c.args.mark c.back.log c.back.overlay c.args.log.now c.args.overlay.now c.back.invariant (subst (λ n. n ≤ c.args.mark) c.len.ensures c.back-test.false)
