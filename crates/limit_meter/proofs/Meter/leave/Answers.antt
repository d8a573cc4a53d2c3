use Rattle.std.proofs.Common.{◌≡◌, ◌-◌, ◌<◌, ◌∷◌, ap, sym, subst, get_or}
use Rattle.std.proofs.Math.ListN.{set}
use Rattle.limit_meter.specs.Charges.{Counts, place_of, Left, count_of}
use Rattle.limit_meter.proofs.Counted.{counts_leave}
use Rattle.limit_meter.proofs.Meter.leave.Goals as goal

pub returns-clause-listed : goal.returns-clause-listed
returns-clause-listed c = λ es h.
    let m = c.self.inside.counts in
    let old : Counts es m = subst (λ v. Counts es v) (sym c.self.view_is) h in
    let above : 0 < count_of m c.args.kind = subst (λ v. 0 < count_of v c.args.kind) (sym c.self.view_is) c.requires.above in
    let one = counts_leave es m c.args.kind c.self.told above old in
    let same : set m (place_of c.args.kind) (count_of m c.args.kind - 1) ≡ set m c.place.result (get_or m c.place.result 0 - 1) =
    ap (λ p. set m p (get_or m p 0 - 1)) (sym c.place.ensures.place) in
    subst (λ v. Counts (Left c.args.kind ∷ es) v) same one
