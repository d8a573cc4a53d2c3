use Rattle.std.proofs.Common.{w32, sym, ap, ◌∙◌}
use Rattle.std.proofs.lemmas.Int.{to_z-of_z}
use Rattle.civil_dates.specs.Dates.{is_day}
use Rattle.civil_dates.proofs.dates.is_day.Goals as goal

pub returns-in-Some : goal.returns-in-Some
returns-in-Some c = sym c.in-Some.ensures.value.0 ∙ ap is_day (to_z-of_z w32 c.args.day c.ranges.day)

pub returns-in-None : goal.returns-in-None
returns-in-None c = sym c.in-None.ensures.value ∙ ap is_day (to_z-of_z w32 c.args.day c.ranges.day)
