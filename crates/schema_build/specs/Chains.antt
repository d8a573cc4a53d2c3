-- Chains of parents.
use Rattle.std.specs.Prelude.{◌≡◌, ◌≤◌, ℕ, zero, suc, false, List, length, slice_get, Option, None, Some}
use Rattle.schema_plans.specs.Plans.{parent_at, ends_within}

-- so many steps lead from one to another
abbrev pub Path : List (Option ℕ) → ℕ → ℕ → ℕ → Type 0
Path ps zero from to = from ≡ to
Path ps (suc k) from to = (p : ℕ) × (parent_at ps from ≡ Some p) × Path ps k p to

-- the chain from one ends behind exactly so many steps
abbrev pub EndsIn : List (Option ℕ) → ℕ → ℕ → Type 0
EndsIn ps zero r = parent_at ps r ≡ None
EndsIn ps (suc d) r = (p : ℕ) × (parent_at ps r ≡ Some p) × EndsIn ps d p

-- where a number of steps is noted, the chain ends behind so many
pub record Known (ps notes : List (Option ℕ)) : Type 0 where
  pub by : (r d : ℕ) → slice_get notes r ≡ Some (Some d) → EndsIn ps d r

-- a chain ends within as many steps as there are roles, behind this many, or it doesn't
abbrev pub Walked : List (Option ℕ) → ℕ → Option ℕ → Type 0
Walked ps r None = ends_within ps (length ps) r ≡ false
Walked ps r (Some d) = EndsIn ps d r × (d ≤ length ps)
