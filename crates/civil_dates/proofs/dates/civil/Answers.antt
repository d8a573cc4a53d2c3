use Rattle.std.proofs.Common.{arith, rules, ◌≡◌, FitsSigned, w16}
use Rattle.std.proofs.lemmas.Int.{ints}
use Rattle.jiff_core.specs.Date.{epoch_day}
use Rattle.civil_dates.proofs.OneDate.{day_range, year_0, date_there}
use Rattle.civil_dates.proofs.DaySteps.{no_day, civil_there}
use Rattle.civil_dates.proofs.dates.civil.Goals as goal

pub returns-then-date-lt1-clause-value : goal.returns-then-date-lt1-clause-value
returns-then-date-lt1-clause-value c =
    let f = c.ranges.day in
    let v = c.in-Ok.ensures.value in
    let e : epoch_day c.in-Ok.date ≡ c.args.day = omega (arith, ints) in
    let y = c.in-Ok.date.year_in in
    let t = c.if-date-lt1.true in
    let fy : FitsSigned w16 c.in-Ok.date.year = search rules in
    no_day c.args.day (year_0 c.args.day c.in-Ok.date e (omega (arith, ints)))

pub returns-else-date-lt1-clause-value : goal.returns-else-date-lt1-clause-value
returns-else-date-lt1-clause-value c =
    let f = c.ranges.day in
    let v = c.in-Ok.ensures.value in
    let e : epoch_day c.in-Ok.date ≡ c.args.day = omega (arith, ints) in
    let y = c.in-Ok.date.year_in in
    let t = c.if-date-lt1.false in
    let fy : FitsSigned w16 c.in-Ok.date.year = search rules in
    civil_there c.args.day _ _ _ (date_there c.args.day c.in-Ok.date _ e (omega (arith, ints)) (omega (arith, ints)))

pub returns-in-Err-clause-value : goal.returns-in-Err-clause-value
returns-in-Err-clause-value c = no_day c.args.day (λ day.
    let f = c.ranges.day in
    let range = day_range c.args.day day in
    let low = range.0 in
    let high = range.1 in
    let s = c.in-Err.ensures.succeeds.1 in
    absurd (let k = s (omega (arith, ints), omega (arith, ints)) in search rules))
