use Rattle.std.proofs.Common.{arith, sym}
use Rattle.std.proofs.lemmas.Int.{to_z-of_z, ints}
use Rattle.civil_dates.specs.Dates.{new_day}
use Rattle.civil_dates.proofs.DaySteps.{moment_made}
use Rattle.civil_dates.proofs.moments.new_moment.Goals as goal

pub returns-in-Some-date_of : goal.returns-in-Some-date_of
returns-in-Some-date_of c =
    let y = c.ranges.year in
    let m = c.ranges.month in
    let d = c.ranges.day in
    let h = c.ranges.hour in
    let mi = c.ranges.minute in
    let s = c.ranges.second in
    let clock = simp to_z-of_z at c.in-Some.ensures in
    let day = simp to_z-of_z at c.in-Some-date_of.ensures in
    moment_made (new_day c.args.year c.args.month c.args.day) c.args.hour c.args.minute c.args.second c.in-Some-date_of.day _ c.in-Some.seconds clock.0 clock.1 (sym day) (let a = c.from.ensures in let b = c.from-in-Some-date_of.ensures in let l = clock.2 in omega (arith, ints))
