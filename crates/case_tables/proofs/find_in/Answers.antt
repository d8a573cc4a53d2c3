use Rattle.std.proofs.Common.{◌+◌, ◌-◌, ◌/◌, ◌<◌, ℕ, length, arith}
use Rattle.std.specs.declared.cmp.Ordering.TheVariants.{Less, Equal, Greater}
use Rattle.case_tables.proofs.Found.{found, here, up_to, down_to, absent, only_one}
use Rattle.case_tables.proofs.find_in.Goals as goal

half : (low high : ℕ) → low < high → low + (high - low) / 2 < high
half low high lt = omega arith

pub loop-low-preserved-in-Less : goal.loop-low-preserved-in-Less
loop-low-preserved-in-Less g c =
    let mid = c.loop-low.low + (c.loop-low.high - c.loop-low.low) / 2 in
    let lt = half c.loop-low.low c.loop-low.high c.loop-low-test.true in
    let within : mid < length c.args.table.now = let w = c.loop-low.invariant.within in omega (arith, lt) in
    up_to g.R.Keyed.key c.args.table.now c.args.key.now c.loop-low.low c.loop-low.high mid c.requires c.loop-low.invariant lt
    (here g.R.Keyed.key c.args.table.now c.args.key.now mid c.index-table-mid.result c.cmp.result Less c.key.result.now within c.index-table-mid.is c.key.ensures c.cmp.ensures c.in-Less.is)

pub returns-in-Equal-clause-found : goal.returns-in-Equal-clause-found
returns-in-Equal-clause-found g c =
    let mid = c.loop-low.low + (c.loop-low.high - c.loop-low.low) / 2 in
    let lt = half c.loop-low.low c.loop-low.high c.loop-low-test.true in
    let within : mid < length c.args.table.now = let w = c.loop-low.invariant.within in omega (arith, lt) in
    found g.R.Keyed.key c.args.table.now c.args.key.now mid c.index-table-mid-in-Equal.result within c.index-table-mid-in-Equal.is
    (here g.R.Keyed.key c.args.table.now c.args.key.now mid c.index-table-mid.result c.cmp.result Equal c.key.result.now within c.index-table-mid.is c.key.ensures c.cmp.ensures c.in-Equal.is)

pub returns-in-Equal-clause-only : goal.returns-in-Equal-clause-only
returns-in-Equal-clause-only g c = λ other h.
    only_one g.R.Keyed.key c.args.table.now c.args.key.now c.requires other c.index-table-mid-in-Equal.result h (returns-in-Equal-clause-found g c)

pub loop-low-preserved : goal.loop-low-preserved
loop-low-preserved g c =
    let mid = c.loop-low.low + (c.loop-low.high - c.loop-low.low) / 2 in
    let lt = half c.loop-low.low c.loop-low.high c.loop-low-test.true in
    let within : mid < length c.args.table.now = let w = c.loop-low.invariant.within in omega (arith, lt) in
    down_to g.R.Keyed.key c.args.table.now c.args.key.now c.loop-low.low c.loop-low.high mid c.requires c.loop-low.invariant lt
    (here g.R.Keyed.key c.args.table.now c.args.key.now mid c.index-table-mid.result c.cmp.result Greater c.key.result.now within c.index-table-mid.is c.key.ensures c.cmp.ensures c.in-Greater.is)

pub returns-clause-none : goal.returns-clause-none
returns-clause-none g c =
    absent g.R.Keyed.key c.args.table.now c.args.key.now c.loop-low.low c.loop-low.high c.loop-low.invariant c.loop-low-test.false
