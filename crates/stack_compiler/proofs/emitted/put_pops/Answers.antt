use Rattle.stack_compiler.proofs.Grows.{popped}
use Rattle.stack_compiler.proofs.emitted.put_pops.Goals as goal

pub loop-preserved : goal.loop-preserved
loop-preserved c = popped c.loop.code.items _ c.args.code.now.items c.loop.counter c.loop.invariant c.in_ok-put.ensures
