use Rattle.std.proofs.Common.{pos, ◌*ℤ◌, arith}
use Rattle.apex_num.proofs.HalfEven.{rounds_nearest, whole, product_size}
use Rattle.apex_num.proofs.dec.dec_mul.Goals as goal

pub rounded-requires-clause-size : goal.rounded-requires-clause-size
rounded-requires-clause-size c =
    let ra = c.millionths.ensures.range in
    let rb = c.millionths-2.ensures.range in
    let small = product_size c.args.a c.args.b ra rb in
    rw (c.millionths.ensures.value, c.millionths-2.ensures.value, whole c.args.a (omega arith), whole c.args.b (omega arith), whole (c.args.a *ℤ c.args.b) (omega arith)) small

pub returns-clause-rounded : goal.returns-clause-rounded
returns-clause-rounded c =
    let ra = c.millionths.ensures.range in
    let rb = c.millionths-2.ensures.range in
    let small = product_size c.args.a c.args.b ra rb in
    rw (c.millionths.ensures.value, c.millionths-2.ensures.value, whole c.args.a (omega arith), whole c.args.b (omega arith), whole (c.args.a *ℤ c.args.b) (omega arith)) at c.rounded.ensures.rounded

pub returns-clause-only : goal.returns-clause-only
returns-clause-only c =
    let ra = c.millionths.ensures.range in
    let rb = c.millionths-2.ensures.range in
    let small = product_size c.args.a c.args.b ra rb in
    rw (c.millionths.ensures.value, c.millionths-2.ensures.value, whole c.args.a (omega arith), whole c.args.b (omega arith), whole (c.args.a *ℤ c.args.b) (omega arith)) at c.rounded.ensures.only

pub returns-clause-nearest : goal.returns-clause-nearest
returns-clause-nearest c = rounds_nearest (c.args.a *ℤ c.args.b) (pos 1000000) c.rounded.result (returns-clause-rounded c)
