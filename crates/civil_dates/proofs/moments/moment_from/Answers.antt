use Rattle.std.proofs.Common.{arith, sym, ◌∙◌, ap, ◌≡◌, Some, w64, to_z, of_z}
use Rattle.std.proofs.lemmas.Int.{to_z-of_z, ints}
use Rattle.civil_dates.specs.Dates.{is_moment}
use Rattle.civil_dates.proofs.DaySteps.{moment_then, moment_else, far_moment}
use Rattle.civil_dates.proofs.moments.moment_from.Goals as goal

pub returns-then-is_moment : goal.returns-then-is_moment
returns-then-is_moment c =
    let f = c.ranges.n in
    let i = simp to_z-of_z at c.in-Ok.ensures in
    let a = i.0 in
    let b = i.1 in
    let same : to_z w64 (of_z w64 c.in-Ok.moment) ≡ c.args.n = omega (arith, ints) in
    ap Some same ∙ moment_then c.args.n (ap is_moment (sym same) ∙ sym c.is_moment.ensures ∙ c.if-is_moment.true)

pub returns-else-is_moment : goal.returns-else-is_moment
returns-else-is_moment c =
    let f = c.ranges.n in
    let i = simp to_z-of_z at c.in-Ok.ensures in
    let a = i.0 in
    let b = i.1 in
    let same : to_z w64 (of_z w64 c.in-Ok.moment) ≡ c.args.n = omega (arith, ints) in
    moment_else c.args.n (ap is_moment (sym same) ∙ sym c.is_moment.ensures ∙ c.if-is_moment.false)

pub returns-in-Err : goal.returns-in-Err
returns-in-Err c = let f = c.ranges.n in far_moment c.args.n (simp to_z-of_z at c.in-Err.ensures)
