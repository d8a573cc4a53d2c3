-- Numbers that are Decimals.
use Rattle.std.proofs.Common.{◌≡◌, ◌<◌, ◌^◌, ℤ, Bool, true, false, cond, unsigned_abs, lt-ltb, ltb-true, Option, Some, None, refl, ap, sym}
use Rattle.apex_num.specs.Decimals.{IsDecimal}
use Rattle.number_methods.specs.Values.{decimal_fits}
use Rattle.query_terms.specs.Values.{decimal_of}

pub fits : (c : ℤ) → IsDecimal c → Some c ≡ decimal_of c
fits c h = sym (ap (λ b. cond b (Some c) None) (lt-ltb (unsigned_abs c) (10 ^ 19) h))

pub none : (c : ℤ) → (IsDecimal c → ⊥) → None ≡ decimal_of c
none c h = by (decimal_fits c) refl
  where
    by : (b : Bool) → decimal_fits c ≡ b → None ≡ cond b (Some c) None
    by true e = absurd (h (ltb-true (unsigned_abs c) (10 ^ 19) e))
    by false e = refl
