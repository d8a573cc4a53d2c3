use Rattle.std.proofs.Common.{arith}
use Rattle.apex_num.proofs.Checks.{small}
use Rattle.apex_num.proofs.id.check_of.Goals as goal

pub overflow_mul-number : goal.overflow_mul-number
overflow_mul-number c = let s = small c.args.five.now c.loop-i.i c.loop-i.number c.requires c.loop-i.invariant in omega arith

pub overflow_add-number : goal.overflow_add-number
overflow_add-number c = let s = small c.args.five.now c.loop-i.i c.loop-i.number c.requires c.loop-i.invariant in let b = c.capital.ensures.bit in omega arith

pub bounds-number : goal.bounds-number
bounds-number c = small c.args.five.now c.loop-i.i c.loop-i.number c.requires c.loop-i.invariant
