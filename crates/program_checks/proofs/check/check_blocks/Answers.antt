use Rattle.std.proofs.Common.{refl}
use Rattle.stack_code.specs.Checked.{IsFineBlock}
use Rattle.program_checks.proofs.Loops.{all_more, all_over}
use Rattle.program_checks.proofs.check.check_blocks.Goals as goal

pub loop-block-preserved : goal.loop-block-preserved
loop-block-preserved c =
    all_more IsFineBlock c.args.blocks.now c.loop-block.block-index c.block-item.result c.loop-block-test.true c.block-item.is (c.check_block.ensures.0 c.if-not-check_block.false) c.loop-block.invariant

pub returns : goal.returns
returns c = (λ t. all_over IsFineBlock c.args.blocks.now c.loop-block.block-index c.loop-block-test.false c.loop-block.invariant, λ h. refl)
