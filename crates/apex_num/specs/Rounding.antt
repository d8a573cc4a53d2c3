-- When the next number is the rounded one. Only private functions cite these words.
use Rattle.std.specs.Prelude.{◌≡◌, ℕ, ◌*◌, ◌%◌, ◌<◌, ◌⊎◌, ℤ, unsigned_abs}

-- with a rest of r of d, the number below the quotient is its half-even rounding
abbrev pub Stays : ℤ → ℕ → ℕ → Type 0
Stays below r d = (2 * r < d) ⊎ ((2 * r ≡ d) × (unsigned_abs below % 2 ≡ 0))

-- and so is the next number
abbrev pub Rises : ℤ → ℕ → ℕ → Type 0
Rises below r d = (d < 2 * r) ⊎ ((2 * r ≡ d) × (unsigned_abs below % 2 ≡ 1))
