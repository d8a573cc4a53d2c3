use Rattle.std.proofs.Common.{◌≡◌, ◌+◌, ◌∷◌, ◌∙◌, ap, sym, subst, get_or}
use Rattle.std.proofs.Math.ListN.{set}
use Rattle.limit_meter.specs.Charges.{Counts, place_of, Charged, count_of}
use Rattle.limit_meter.proofs.Counted.{counts_charge}
use Rattle.limit_meter.proofs.Meter.charge.Goals as goal

pub returns-clause-listed : goal.returns-clause-listed
returns-clause-listed c = λ es h.
    let m = c.self.inside.counts in
    let old : Counts es m = subst (λ v. Counts es v) (sym c.self.view_is) h in
    let one = counts_charge es m c.args.kind c.args.n c.self.told old in
    let first : set m (place_of c.args.kind) (count_of m c.args.kind + c.args.n) ≡ set m c.place-2.result (count_of m c.args.kind + c.args.n) =
    ap (λ p. set m p (count_of m c.args.kind + c.args.n)) (sym c.place-2.ensures.place) in
    let second : set m c.place-2.result (count_of m c.args.kind + c.args.n) ≡ set m c.place-2.result (get_or m c.place.result 0 + c.args.n) =
    ap (λ p. set m c.place-2.result (get_or m p 0 + c.args.n)) (sym c.place.ensures.place) in
    subst (λ v. Counts (Charged c.args.kind c.args.n ∷ es) v) (first ∙ second) one
