use Rattle.std.proofs.Common.{arith}
use Rattle.std.specs.Int.{w128}
use Rattle.std.proofs.lemmas.Int.{ints, to_z-of_z}
use Rattle.apex_num.proofs.HalfEven.{answers_only}
use Rattle.apex_num.proofs.dec.rounded.Goals as goal

pub returns-clause-rounded : goal.returns-clause-rounded
returns-clause-rounded c =
    let nf = to_z-of_z w128 c.args.n c.ranges.n in
    let df = to_z-of_z w128 c.args.d c.ranges.d in
    let hf = to_z-of_z w128 c.half_even.result (record { sfits = c.half_even.type_inv }) in
    (c.half_even.result, (rw (nf, df) at c.half_even.ensures), (rw hf at c.within.ensures))

pub returns-clause-only : goal.returns-clause-only
returns-clause-only c =
    let nf = to_z-of_z w128 c.args.n c.ranges.n in
    let df = to_z-of_z w128 c.args.d c.ranges.d in
    let hf = to_z-of_z w128 c.half_even.result (record { sfits = c.half_even.type_inv }) in
    let p = c.requires.positive in
    answers_only c.args.n c.args.d c.half_even.result c.within.result (omega (arith, ints)) (rw (nf, df) at c.half_even.ensures) (rw hf at c.within.ensures)
