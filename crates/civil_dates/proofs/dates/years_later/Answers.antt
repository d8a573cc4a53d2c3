use Rattle.std.proofs.Common.{arith, ◌≡◌, ◌+◌, ◌*◌, pos, ◌+ℤ◌, ◌-ℤ◌, ◌*ℤ◌, to_z, of_z}
use Rattle.std.specs.Int.{w128}
use Rattle.std.proofs.lemmas.Int.{to_z-of_z, ints}
use Rattle.civil_dates.proofs.DaySteps.{months_by}
use Rattle.civil_dates.proofs.dates.years_later.Goals as goal

pub returns-in-Some : goal.returns-in-Some
returns-in-Some c =
    let fd = c.ranges.day in
    let fm = c.ranges.years in
    let date = c.in-Some.date in
    let v = simp to_z-of_z at c.in-Some.ensures.value in
    let w = c.in-Some.ensures.within in
    let a = c.from.ensures in
    let b = c.from-in-Some.ensures in
    let e = simp to_z-of_z at c.from-in-Some-2.ensures in
    let high = w.0 in
    let last = w.2 in
    let at : to_z w128 (of_z w128 (to_z w128 (of_z w128 (to_z w128 (of_z w128 (to_z w128 (of_z w128 (to_z w128 (of_z w128 c.from.result) *ℤ pos 12)) +ℤ to_z w128 (of_z w128 c.from-in-Some.result))) -ℤ pos 1)) +ℤ to_z w128 (of_z w128 (to_z w128 (of_z w128 c.from-in-Some-2.result) *ℤ pos 12)))) ≡ pos (date.year * 12 + date.month) -ℤ pos 1 +ℤ (c.args.years *ℤ pos 12) = omega (arith, ints) in
    months_by (c.args.years *ℤ pos 12) c.args.day _ date.year date.month date.day c.in_month.result v.0 v.1 v.2 v.3 c.in_month.ensures at
