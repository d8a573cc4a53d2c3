use Rattle.std.proofs.Common.{◌≡◌, take, map}
use Rattle.stack_code.specs.Images.{block_of}
use Rattle.compile_unit.proofs.bodies.blocks_code.Given as goal

abbrev pub invariant-loop-block : goal.invariant-loop-block
invariant-loop-block l = l.codes ≡ map (block_of l.layout.program.now) (take l.block-index l.blocks)
