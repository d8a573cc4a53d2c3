-- The Ids of users (docs/platform.md, "Ids").
use Rattle.std.specs.Prelude.{ℕ, suc, ◌+◌, ◌/◌, ◌%◌, ◌^◌, nat_lt, cond, List, [], ◌∷◌, ◌++◌, codes}

-- a digit to the base 62: 0 to 9, A to Z, a to z
abbrev pub digit : ℕ → ℕ
digit n = cond (nat_lt n 10) (48 + n) (cond (nat_lt n 36) (55 + n) (61 + n))

-- four digits of a number
abbrev pub four : ℕ → List ℕ
four n = digit (n / 62 ^ 3 % 62) ∷ digit (n / 62 ^ 2 % 62) ∷ digit (n / 62 % 62) ∷ digit (n % 62) ∷ []

-- the Id of user number u
abbrev pub user_id : ℕ → List ℕ
user_id u = codes "0050000" ++ codes "0000" ++ four (suc u)
