use Rattle.std.proofs.Common.{All, take}
use Rattle.stack_code.specs.Checked.{IsFineBlock}
use Rattle.program_checks.proofs.check.check_blocks.Given as goal

abbrev pub invariant-loop-block : goal.invariant-loop-block
invariant-loop-block l = All IsFineBlock (take l.block-index l.blocks)
