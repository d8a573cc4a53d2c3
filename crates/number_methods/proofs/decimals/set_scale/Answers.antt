use Rattle.std.proofs.Common.{rules, ◌-◌, ◌≡◌, ◌^◌, ◌*ℤ◌, pos, ap, sym, ◌∙◌, subst}
use Rattle.apex_num.specs.Decimals.{IsHalfEven, IsDecimal, Answers}
use Rattle.number_methods.proofs.Near.{more, fewer, share}
use Rattle.number_methods.specs.Methods.{unit}
use Rattle.number_methods.specs.Values.{half_even, scaled}
use Rattle.number_methods.proofs.Round.{half_even_is, answered, pow_pos}
use Rattle.number_methods.proofs.decimals.set_scale.Goals as goal

pub unreachable-requires : goal.unreachable-requires
unreachable-requires c =
    let r = c.in-Err.ensures.rounded in
    let range : IsDecimal c.args.d = search rules in
    let whole : c.decimal_of.result ≡ pos (10 ^ c.args.places) = c.decimal_of.ensures ∙ ap pos c.share_of.ensures in
    r.2.1 (share c.args.d r.0 c.args.places c.requires range (subst (λ s. IsHalfEven (c.args.d *ℤ s) (pos 1000000) r.0) whole r.1))

pub returns-clause-rounded : goal.returns-clause-rounded
returns-clause-rounded c =
    let r = c.in-Ok.ensures.rounded in
    let whole : c.decimal_of.result ≡ pos (10 ^ c.args.places) = c.decimal_of.ensures ∙ ap pos c.share_of.ensures in
    let half = fewer c.args.d r.0 c.args.places c.requires (subst (λ s. IsHalfEven (c.args.d *ℤ s) (pos 1000000) r.0) whole r.1) in (
      r.0,
      half,
      subst (λ u. Answers (r.0 *ℤ pos u) c.scaled.result) c.unit_of.ensures (subst (λ q. Answers (q *ℤ pos c.unit_of.result) c.scaled.result) r.2.0 c.scaled.ensures),
    )

pub returns-clause-only : goal.returns-clause-only
returns-clause-only c = λ q half.
    let whole : c.decimal_of.result ≡ pos (10 ^ c.args.places) = c.decimal_of.ensures ∙ ap pos c.share_of.ensures in
    let same = c.in-Ok.ensures.only q (subst (λ s. IsHalfEven (c.args.d *ℤ s) (pos 1000000) q) (sym whole) (more c.args.d q c.args.places c.requires half)) in
    subst (λ u. Answers (q *ℤ pos u) c.scaled.result) c.unit_of.ensures (subst (λ x. Answers (x *ℤ pos c.unit_of.result) c.scaled.result) same.0 c.scaled.ensures)

pub returns-clause-value : goal.returns-clause-value
returns-clause-value c =
    answered (scaled c.args.d c.args.places) c.scaled.result (returns-clause-only c (half_even c.args.d (unit c.args.places)) (half_even_is c.args.d (unit c.args.places) (pow_pos (6 - c.args.places))))
