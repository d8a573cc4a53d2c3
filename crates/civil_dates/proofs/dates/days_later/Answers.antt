use Rattle.std.proofs.Common.{arith, ◌∙◌, ap, ◌≡◌, ◌+ℤ◌, w64, to_z, of_z}
use Rattle.std.proofs.lemmas.Int.{ints}
use Rattle.civil_dates.specs.Dates.{only_day}
use Rattle.civil_dates.proofs.DaySteps.{far_from_days}
use Rattle.civil_dates.proofs.dates.days_later.Goals as goal

pub returns-in-Some : goal.returns-in-Some
returns-in-Some c =
    let same : to_z w64 (of_z w64 c.in-Some.n) ≡ c.args.day +ℤ c.args.days = let e = c.in-Some.ensures in omega (arith, ints, e.0, e.1) in
    c.day_from.ensures ∙ ap only_day same

pub returns-in-None : goal.returns-in-None
returns-in-None c = far_from_days (c.args.day +ℤ c.args.days) (λ f. c.in-None.ensures (omega (arith, ints)))
