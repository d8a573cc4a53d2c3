-- Tests.
use Rattle.std.proofs.Common.{◌≡◌, ℕ, ◌&&◌, Bool, true, false, eqb, refl}
use Rattle.std.proofs.lemmas.Bool.{eqb-true}

pub both : (a b : Bool) → (a && b) ≡ true → (a ≡ true) × (b ≡ true)
both true b h = (refl, h)
both false b h = cc

pub not_eqb : (a n : ℕ) → (a ≡ n → ⊥) → eqb a n ≡ false
not_eqb a n h = by (eqb a n) refl
  where
    by : (t : Bool) → eqb a n ≡ t → t ≡ false
    by true e = absurd (h (eqb-true a n e))
    by false e = refl
