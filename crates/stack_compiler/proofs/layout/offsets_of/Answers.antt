use Rattle.stack_compiler.specs.Offsets.{offset}
use Rattle.stack_compiler.proofs.Offsets.{one_more}
use Rattle.stack_compiler.proofs.layout.offsets_of.Goals as goal

pub loop-class-preserved : goal.loop-class-preserved
loop-class-preserved c = one_more (offset c.args.program.now) c.loop-class.all _ c.loop-class.class _ c.loop-class.invariant c.in_ok-offset_of.ensures c.in_ok-push.ensures.ok
