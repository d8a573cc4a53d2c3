use Rattle.std.proofs.Common.{arith, ◌∙◌, ap, ◌≡◌, ◌+ℤ◌, to_z, of_z, ◌*ℤ◌, pos}
use Rattle.std.proofs.lemmas.Int.{ints}
use Rattle.std.specs.Int.{w128}
use Rattle.civil_dates.specs.Dates.{only_moment}
use Rattle.civil_dates.proofs.moments.add_days.Goals as goal

pub returns : goal.returns
returns c =
    let a = c.from.ensures in
    let b = c.from-2.ensures in
    let same : to_z w128 (of_z w128 (to_z w128 (of_z w128 c.from.result) +ℤ to_z w128 (of_z w128 (to_z w128 (of_z w128 c.from-2.result) *ℤ pos 86400)))) ≡ c.args.moment +ℤ c.args.days *ℤ pos 86400 = omega (arith, ints) in
    c.moment_from.ensures ∙ ap only_moment same
