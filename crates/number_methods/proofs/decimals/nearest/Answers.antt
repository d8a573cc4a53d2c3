use Rattle.std.proofs.Common.{arith, ◌*ℤ◌, rules, ◌≤◌, ◌^◌, pos, unsigned_abs, sym, ◌∙◌, subst}
use Rattle.std.proofs.lemmas.Int.{ints}
use Rattle.apex_num.specs.Decimals.{IsHalfEven, IsDecimal}
use Rattle.number_methods.proofs.Near.{more, near, once, decimal, back}
use Rattle.number_methods.specs.Values.{half_even}
use Rattle.number_methods.proofs.Round.{half_even_is}
use Rattle.number_methods.proofs.decimals.nearest.Goals as goal

pub overflow_cast-result : goal.overflow_cast-result
overflow_cast-result c =
    let r = c.in-Ok.ensures.rounded in
    let range : IsDecimal c.args.d = search rules in
    let small = near c.args.d r.0 range (once c.args.d c.decimal_of.result r.0 c.decimal_of.ensures r.1) in
    let size : unsigned_abs c.millionths.result ≤ 10 ^ 13 = subst (λ z. unsigned_abs z ≤ 10 ^ 13) (sym (c.millionths.ensures.value ∙ r.2.0)) small in
    omega (arith, ints)

pub unreachable-requires : goal.unreachable-requires
unreachable-requires c =
    let r = c.in-Err.ensures.rounded in
    let range : IsDecimal c.args.d = search rules in
    r.2.1 (decimal c.args.d r.0 range (once c.args.d c.decimal_of.result r.0 c.decimal_of.ensures r.1))

pub returns-clause-rounded : goal.returns-clause-rounded
returns-clause-rounded c =
    let r = c.in-Ok.ensures.rounded in
    let range : IsDecimal c.args.d = search rules in
    let half = once c.args.d c.decimal_of.result r.0 c.decimal_of.ensures r.1 in
    let small = near c.args.d r.0 range half in
    let is = c.millionths.ensures.value ∙ r.2.0 in
    let size : unsigned_abs c.millionths.result ≤ 10 ^ 13 = subst (λ z. unsigned_abs z ≤ 10 ^ 13) (sym is) small in
    subst (IsHalfEven c.args.d (pos 1000000)) (sym (back c.millionths.result size ∙ is)) half

pub returns-clause-only : goal.returns-clause-only
returns-clause-only c = λ q half.
    let r = c.in-Ok.ensures.rounded in
    let range : IsDecimal c.args.d = search rules in
    let small = near c.args.d r.0 range (once c.args.d c.decimal_of.result r.0 c.decimal_of.ensures r.1) in
    let is = c.millionths.ensures.value ∙ r.2.0 in
    let size : unsigned_abs c.millionths.result ≤ 10 ^ 13 = subst (λ z. unsigned_abs z ≤ 10 ^ 13) (sym is) small in
    let same = c.in-Ok.ensures.only q (subst (λ s. IsHalfEven (c.args.d *ℤ s) (pos 1000000) q) (sym c.decimal_of.ensures) (more c.args.d q 0 (omega arith) half)) in
    sym same.0 ∙ sym (back c.millionths.result size ∙ c.millionths.ensures.value)

pub returns-clause-value : goal.returns-clause-value
returns-clause-value c = sym (returns-clause-only c (half_even c.args.d 1000000) (half_even_is c.args.d 1000000 (omega arith)))
