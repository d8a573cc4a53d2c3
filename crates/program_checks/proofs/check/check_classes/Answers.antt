use Rattle.std.proofs.Common.{length, refl}
use Rattle.stack_code.specs.Checked.{IsFineClass}
use Rattle.program_checks.proofs.Loops.{all_more, all_over}
use Rattle.program_checks.proofs.check.check_classes.Goals as goal

pub loop-class-preserved : goal.loop-class-preserved
loop-class-preserved c =
    all_more (IsFineClass (length c.args.classes.now)) c.args.classes.now c.loop-class.class-index c.class-item.result c.loop-class-test.true c.class-item.is (c.check_class.ensures.0 c.if-not-check_class.false) c.loop-class.invariant

pub returns : goal.returns
returns c = (λ t. all_over (IsFineClass (length c.args.classes.now)) c.args.classes.now c.loop-class.class-index c.loop-class-test.false c.loop-class.invariant, λ h. refl)
