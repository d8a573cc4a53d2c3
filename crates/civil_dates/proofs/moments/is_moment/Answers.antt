use Rattle.std.proofs.Common.{w64, sym, ap, ◌∙◌}
use Rattle.std.proofs.lemmas.Int.{to_z-of_z}
use Rattle.civil_dates.specs.Dates.{is_moment}
use Rattle.civil_dates.proofs.moments.is_moment.Goals as goal

pub returns-in-Some : goal.returns-in-Some
returns-in-Some c = sym c.in-Some.ensures.0 ∙ ap is_moment (to_z-of_z w64 c.args.moment c.ranges.moment)

pub returns-in-None : goal.returns-in-None
returns-in-None c = sym c.in-None.ensures ∙ ap is_moment (to_z-of_z w64 c.args.moment c.ranges.moment)
