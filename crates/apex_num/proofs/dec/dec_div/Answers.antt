use Rattle.std.proofs.Common.{pos, ◌*ℤ◌, arith}
use Rattle.apex_num.specs.Decimals.{Rounds}
use Rattle.apex_num.proofs.HalfEven.{rounds_nearest, whole, product_size}
use Rattle.apex_num.proofs.dec.dec_div.Goals as goal

rounded_of : (c : goal.After-quotient) → Rounds (c.args.a *ℤ pos 1000000) c.args.b c.quotient.result
rounded_of c =
    let ra = c.millionths.ensures.range in
    let rb = c.millionths-d.ensures.range in
    let small = product_size c.args.a (pos 1000000) ra (omega arith) in
    rw (c.millionths.ensures.value, c.millionths-d.ensures.value, whole c.args.a (omega arith), whole c.args.b (omega arith), whole (c.args.a *ℤ pos 1000000) (omega arith)) at c.quotient.ensures.rounded

pub returns-clause-rounded : goal.returns-clause-rounded
returns-clause-rounded c = λ some. rounded_of c

pub returns-clause-only : goal.returns-clause-only
returns-clause-only c =
    let ra = c.millionths.ensures.range in
    let rb = c.millionths-d.ensures.range in
    let small = product_size c.args.a (pos 1000000) ra (omega arith) in
    λ q some. (rw (c.millionths.ensures.value, c.millionths-d.ensures.value, whole c.args.a (omega arith), whole c.args.b (omega arith), whole (c.args.a *ℤ pos 1000000) (omega arith)) at c.quotient.ensures.only) q

pub returns-clause-nearest : goal.returns-clause-nearest
returns-clause-nearest c = rounds_nearest (c.args.a *ℤ pos 1000000) c.args.b c.quotient.result (rounded_of c)
