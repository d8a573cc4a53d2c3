-- Numbers of rows one by one.
use Rattle.std.specs.Prelude.{ℤ, int_lt, Bool, List, [], ◌∷◌, Option, None, Some}
use Rattle.row_meaning.specs.Rollups.{better}

abbrev pub listed : Option ℤ → List ℤ
listed None = []
listed (Some d) = d ∷ []

-- the greater before the lesser
abbrev pub after : ℤ → ℤ → Bool
after d e = int_lt e d

-- a number, where there is one, before what was chosen of those behind it
abbrev pub joined : (ℤ → ℤ → Bool) → Option ℤ → Option ℤ → Option ℤ
joined before None chosen = chosen
joined before (Some d) chosen = Some (better before d chosen)
