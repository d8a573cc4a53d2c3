use Rattle.std.proofs.Common.{arith, sym, ◌∙◌, ap, ◌≡◌, Some, w32, to_z, of_z}
use Rattle.std.proofs.lemmas.Int.{to_z-of_z, ints}
use Rattle.civil_dates.specs.Dates.{is_day}
use Rattle.civil_dates.proofs.DaySteps.{day_then, day_else, far_from_days}
use Rattle.civil_dates.proofs.dates.day_from.Goals as goal

pub returns-then-is_day : goal.returns-then-is_day
returns-then-is_day c =
    let f = c.ranges.n in
    let i = simp to_z-of_z at c.in-Ok.ensures in
    let a = i.0 in
    let b = i.1 in
    let same : to_z w32 (of_z w32 c.in-Ok.day) ≡ c.args.n = omega (arith, ints) in
    ap Some same ∙ day_then c.args.n (ap is_day (sym same) ∙ sym c.is_day.ensures ∙ c.if-is_day.true)

pub returns-else-is_day : goal.returns-else-is_day
returns-else-is_day c =
    let f = c.ranges.n in
    let i = simp to_z-of_z at c.in-Ok.ensures in
    let a = i.0 in
    let b = i.1 in
    let same : to_z w32 (of_z w32 c.in-Ok.day) ≡ c.args.n = omega (arith, ints) in
    day_else c.args.n (ap is_day (sym same) ∙ sym c.is_day.ensures ∙ c.if-is_day.false)

pub returns-in-Err : goal.returns-in-Err
returns-in-Err c = let f = c.ranges.n in far_from_days c.args.n (simp to_z-of_z at c.in-Err.ensures)
