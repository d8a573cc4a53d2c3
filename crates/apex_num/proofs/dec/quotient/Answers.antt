use Rattle.std.proofs.Common.{arith}
use Rattle.std.specs.Int.{w128}
use Rattle.std.proofs.lemmas.Int.{to_z-of_z}
use Rattle.apex_num.proofs.HalfEven.{turned_rounds, turned_only, whole, minus}
use Rattle.apex_num.proofs.dec.quotient.Goals as goal

pub returns-then-d-lt0-clause-rounded : goal.returns-then-d-lt0-clause-rounded
returns-then-d-lt0-clause-rounded c =
    let hn = c.requires.size in
    let hd = c.requires.small in
    turned_rounds c.args.n c.args.d c.rounded.result (rw (whole c.args.n (omega arith), whole c.args.d (omega arith), minus c.args.n (omega arith), minus c.args.d (omega arith)) at c.rounded.ensures.rounded)

pub returns-then-d-lt0-clause-only : goal.returns-then-d-lt0-clause-only
returns-then-d-lt0-clause-only c =
    let hn = c.requires.size in
    let hd = c.requires.small in
    turned_only c.args.n c.args.d c.rounded.result (rw (whole c.args.n (omega arith), whole c.args.d (omega arith), minus c.args.n (omega arith), minus c.args.d (omega arith)) at c.rounded.ensures.only)

pub returns-else-d-lt0-clause-rounded : goal.returns-else-d-lt0-clause-rounded
returns-else-d-lt0-clause-rounded c =
    let nf = to_z-of_z w128 c.args.n c.ranges.n in
    let df = to_z-of_z w128 c.args.d c.ranges.d in
    rw (nf, df) at c.rounded-else-d-lt0.ensures.rounded

pub returns-else-d-lt0-clause-only : goal.returns-else-d-lt0-clause-only
returns-else-d-lt0-clause-only c =
    let nf = to_z-of_z w128 c.args.n c.ranges.n in
    let df = to_z-of_z w128 c.args.d c.ranges.d in
    rw (nf, df) at c.rounded-else-d-lt0.ensures.only
