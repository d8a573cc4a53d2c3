use Rattle.std.proofs.Common.{refl, subst}
use Rattle.stack_code.specs.Checked.{IsFine, IsFineCode}
use Rattle.program_checks.proofs.Loops.{all_more, all_over}
use Rattle.program_checks.proofs.check.check_codes.Goals as goal

pub loop-code-preserved : goal.loop-code-preserved
loop-code-preserved c =
    all_more (IsFineCode c.args.begins) c.args.codes.now c.loop-code.code-index c.code-item.result c.loop-code-test.true c.code-item.is (subst (IsFine c.args.begins) c.as_slice.ensures (c.check_code.ensures.0 c.if-not-check_code.false)) c.loop-code.invariant

pub returns : goal.returns
returns c = (λ t. all_over (IsFineCode c.args.begins) c.args.codes.now c.loop-code.code-index c.loop-code-test.false c.loop-code.invariant, λ h. refl)
