use Rattle.std.proofs.Common.{Some, sym, ap, ◌∙◌}
use Rattle.platform_errors.specs.declared.record.RecordError.TheVariants as Error
use Rattle.record_checks.proofs.Valid.{broken_on, broken_here, headless, got, nothing_there}
use Rattle.record_checks.proofs.validity.broken.Goals as goal

pub returns-in_default : goal.returns-in_default
returns-in_default c =
    headless c.args.pending.now c.loop-i.i c.args.rules.now c.args.heads.now _ (nothing_there c.loop-i.i c.args.heads.now c.in_default.ensures.lookup.3) c.loop-i.invariant

pub returns-then-holds : goal.returns-then-holds
returns-then-holds c =
    ap (λ m. Some (Error.Custom m)) c.in_ok-copy.ensures
    ∙ broken_here c.args.pending.now c.loop-i.i c.args.rules.now c.args.heads.now c.index-rules-i.result c.in-Some.head.now _ c.loop-i-test.true c.index-rules-i.is
    (got c.loop-i.i c.args.heads.now c.in-Some.head.now c.in-Some.ensures.lookup.3.0 c.in-Some.ensures.lookup.1) c.loop-i.invariant (sym c.holds.ensures ∙ c.if-holds.true)

pub loop-i-preserved : goal.loop-i-preserved
loop-i-preserved c =
    broken_on c.args.pending.now c.loop-i.i c.args.rules.now c.args.heads.now c.index-rules-i.result c.in-Some.head.now _ c.loop-i-test.true c.index-rules-i.is
    (got c.loop-i.i c.args.heads.now c.in-Some.head.now c.in-Some.ensures.lookup.3.0 c.in-Some.ensures.lookup.1) c.loop-i.invariant (sym c.holds.ensures ∙ c.if-holds.false)
