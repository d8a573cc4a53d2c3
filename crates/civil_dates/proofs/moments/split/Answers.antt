use Rattle.std.proofs.Common.{arith, subst, sym, FitsSigned, w32, w64}
use Rattle.std.proofs.lemmas.Int.{to_z-of_z, ints}
use Rattle.civil_dates.proofs.DaySteps.{far_part}
use Rattle.civil_dates.proofs.moments.split.Goals as goal

pub returns-in_default : goal.returns-in_default
returns-in_default c =
    let f = c.ranges.moment in
    let q = simp to_z-of_z at c.div_euclid.ensures in
    far_part c.args.moment (λ h.
    let r = subst (FitsSigned w32) (sym q) h in
    let wide : FitsSigned w64 c.div_euclid.result = omega (arith, ints) in
    c.in_default.ensures (subst (FitsSigned w32) (sym (to_z-of_z w64 c.div_euclid.result wide)) r))
