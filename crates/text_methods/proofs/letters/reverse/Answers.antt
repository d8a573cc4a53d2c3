use Rattle.std.proofs.Common.{string_bytes}
use Rattle.text_methods.proofs.Walks.{shorter, all_turned}
use Rattle.text_methods.proofs.letters.reverse.Goals as goal

pub loop-before-smaller : goal.loop-before-smaller
loop-before-smaller c = shorter c.loop-before.rest.now c.in-Some.before.now c.in-Some.c c.in-Some.ensures.0

pub returns : goal.returns
returns c = all_turned (string_bytes c.loop-before.out) c.args.text.now c.loop-before.rest.now c.in_default.ensures c.loop-before.invariant.1
