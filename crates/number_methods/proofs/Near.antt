-- The nearest whole number of a Decimal is small.
use Rattle.std.proofs.Common.{arith, zero, suc, inl, inr, ◌≡◌, ◌≤◌, ◌*◌, ◌^◌, ⊎_elim, ℕ, ℤ, pos, ◌*ℤ◌, unsigned_abs, subst}
use Rattle.std.proofs.Common.{to_z, of_z}
use mir.Syntax.{w64, w128}
use Rattle.std.proofs.lemmas.Int.{ints}
use Rattle.number_methods.specs.Methods.{unit}
use Rattle.apex_num.specs.Decimals.{IsDecimal, IsHalfEven, distance}

half_of : (c q : ℤ) → IsHalfEven c (pos 1000000) q → 2 * distance c (pos 1000000) q ≤ 1000000
half_of c q h = ⊎_elim (λ low. omega arith) (λ even. let e = even.0 in omega arith) h

pub near : (c q : ℤ) → IsDecimal c → IsHalfEven c (pos 1000000) q → unsigned_abs q ≤ 10 ^ 13
near c q d h = let k = half_of c q h in omega (arith, ints)

pub once : (c s q : ℤ) → s ≡ pos 1 → IsHalfEven (c *ℤ s) (pos 1000000) q → IsHalfEven c (pos 1000000) q
once c s q is h = let e : c *ℤ s ≡ c = rw is (omega (arith, ints)) in subst (λ n. IsHalfEven n (pos 1000000) q) e h

-- it is a Decimal
pub decimal : (c q : ℤ) → IsDecimal c → IsHalfEven c (pos 1000000) q → IsDecimal q
decimal c q d h = let s = near c q d h in omega arith

-- and stays as it is in 64 bits
pub back : (q : ℤ) → unsigned_abs q ≤ 10 ^ 13 → to_z w64 (of_z w64 (to_z w128 (of_z w128 q))) ≡ q
back q h = omega (arith, ints)

-- ---- fewer digits

-- both sides so many times
pub fewer : (c q : ℤ) (p : ℕ) → p ≤ 6 → IsHalfEven (c *ℤ pos (10 ^ p)) (pos 1000000) q → IsHalfEven c (pos (unit p)) q
fewer c q zero h (inl low) = inl (omega (arith, ints))
fewer c q zero h (inr even) = inr (let e = even.0 in omega (arith, ints), even.1)
fewer c q (suc zero) h (inl low) = inl (omega (arith, ints))
fewer c q (suc zero) h (inr even) = inr (let e = even.0 in omega (arith, ints), even.1)
fewer c q (suc (suc zero)) h (inl low) = inl (omega (arith, ints))
fewer c q (suc (suc zero)) h (inr even) = inr (let e = even.0 in omega (arith, ints), even.1)
fewer c q (suc (suc (suc zero))) h (inl low) = inl (omega (arith, ints))
fewer c q (suc (suc (suc zero))) h (inr even) = inr (let e = even.0 in omega (arith, ints), even.1)
fewer c q (suc (suc (suc (suc zero)))) h (inl low) = inl (omega (arith, ints))
fewer c q (suc (suc (suc (suc zero)))) h (inr even) = inr (let e = even.0 in omega (arith, ints), even.1)
fewer c q (suc (suc (suc (suc (suc zero))))) h (inl low) = inl (omega (arith, ints))
fewer c q (suc (suc (suc (suc (suc zero))))) h (inr even) = inr (let e = even.0 in omega (arith, ints), even.1)
fewer c q (suc (suc (suc (suc (suc (suc zero)))))) h (inl low) = inl (omega (arith, ints))
fewer c q (suc (suc (suc (suc (suc (suc zero)))))) h (inr even) = inr (let e = even.0 in omega (arith, ints), even.1)
fewer c q (suc (suc (suc (suc (suc (suc (suc p))))))) h half = absurd (omega arith)

-- a rounded share is a Decimal
pub share : (c q : ℤ) (p : ℕ) → p ≤ 6 → IsDecimal c → IsHalfEven (c *ℤ pos (10 ^ p)) (pos 1000000) q → IsDecimal q
share c q zero h d half = let k = half_of (c *ℤ pos 1) q half in omega (arith, ints)
share c q (suc zero) h d half = let k = half_of (c *ℤ pos 10) q half in omega (arith, ints)
share c q (suc (suc zero)) h d half = let k = half_of (c *ℤ pos 100) q half in omega (arith, ints)
share c q (suc (suc (suc zero))) h d half = let k = half_of (c *ℤ pos 1000) q half in omega (arith, ints)
share c q (suc (suc (suc (suc zero)))) h d half = let k = half_of (c *ℤ pos 10000) q half in omega (arith, ints)
share c q (suc (suc (suc (suc (suc zero))))) h d half = let k = half_of (c *ℤ pos 100000) q half in omega (arith, ints)
share c q (suc (suc (suc (suc (suc (suc zero)))))) h d half = let k = half_of (c *ℤ pos 1000000) q half in omega (arith, ints)
share c q (suc (suc (suc (suc (suc (suc (suc p))))))) h d half = absurd (omega arith)

-- the other way round
pub more : (c q : ℤ) (p : ℕ) → p ≤ 6 → IsHalfEven c (pos (unit p)) q → IsHalfEven (c *ℤ pos (10 ^ p)) (pos 1000000) q
more c q zero h (inl low) = inl (omega (arith, ints))
more c q zero h (inr even) = inr (let e = even.0 in omega (arith, ints), even.1)
more c q (suc zero) h (inl low) = inl (omega (arith, ints))
more c q (suc zero) h (inr even) = inr (let e = even.0 in omega (arith, ints), even.1)
more c q (suc (suc zero)) h (inl low) = inl (omega (arith, ints))
more c q (suc (suc zero)) h (inr even) = inr (let e = even.0 in omega (arith, ints), even.1)
more c q (suc (suc (suc zero))) h (inl low) = inl (omega (arith, ints))
more c q (suc (suc (suc zero))) h (inr even) = inr (let e = even.0 in omega (arith, ints), even.1)
more c q (suc (suc (suc (suc zero)))) h (inl low) = inl (omega (arith, ints))
more c q (suc (suc (suc (suc zero)))) h (inr even) = inr (let e = even.0 in omega (arith, ints), even.1)
more c q (suc (suc (suc (suc (suc zero))))) h (inl low) = inl (omega (arith, ints))
more c q (suc (suc (suc (suc (suc zero))))) h (inr even) = inr (let e = even.0 in omega (arith, ints), even.1)
more c q (suc (suc (suc (suc (suc (suc zero)))))) h (inl low) = inl (omega (arith, ints))
more c q (suc (suc (suc (suc (suc (suc zero)))))) h (inr even) = inr (let e = even.0 in omega (arith, ints), even.1)
more c q (suc (suc (suc (suc (suc (suc (suc p))))))) h half = absurd (omega arith)
