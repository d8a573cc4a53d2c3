use Rattle.std.proofs.Common.{rules, pos, ◌+ℤ◌, FitsSigned}
use Rattle.std.specs.Int.{w128}
use Rattle.std.proofs.lemmas.Int.{to_z-of_z}
use Rattle.apex_num.proofs.HalfEven.{lower, upper}
use Rattle.apex_num.proofs.dec.half_even.Goals as goal

pub returns-then-rounds_up : goal.returns-then-rounds_up
returns-then-rounds_up c =
    let nf = to_z-of_z w128 c.args.n c.ranges.n in
    let df = to_z-of_z w128 c.args.d c.ranges.d in
    let bf = to_z-of_z w128 c.div_euclid-below.result (record { sfits = c.div_euclid-below.type_inv }) in
    let rf = to_z-of_z w128 c.rem_euclid.result (record { sfits = c.rem_euclid.type_inv }) in
    let sf : FitsSigned w128 (c.div_euclid-below.result +ℤ pos 1) = search rules in
    rw bf (rw (to_z-of_z w128 (c.div_euclid-below.result +ℤ pos 1) sf) (upper c.args.n c.args.d c.div_euclid-below.result c.rem_euclid.result c.requires.positive
    (rw (nf, df) at c.div_euclid-below.ensures)
    (rw (nf, df) at c.rem_euclid.ensures.value)
    (rw df at c.rem_euclid.ensures.upper_bound)
    (rw (bf, rf, df) at c.if-rounds_up.ensures)))

pub returns-else-rounds_up : goal.returns-else-rounds_up
returns-else-rounds_up c =
    let nf = to_z-of_z w128 c.args.n c.ranges.n in
    let df = to_z-of_z w128 c.args.d c.ranges.d in
    let bf = to_z-of_z w128 c.div_euclid-below.result (record { sfits = c.div_euclid-below.type_inv }) in
    let rf = to_z-of_z w128 c.rem_euclid.result (record { sfits = c.rem_euclid.type_inv }) in
    rw bf (lower c.args.n c.args.d c.div_euclid-below.result c.rem_euclid.result c.requires.positive
    (rw (nf, df) at c.div_euclid-below.ensures)
    (rw (nf, df) at c.rem_euclid.ensures.value)
    (rw (bf, rf, df) at c.if-rounds_up.ensures))
