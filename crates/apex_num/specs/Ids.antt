-- Ids: fifteen letters or digits, and the three check characters behind them (docs/platform.md, "Ids").
use Rattle.std.specs.Prelude.{◌≡◌, ℕ, ◌+◌, ◌*◌, ◌≤◌, ◌⊎◌, Bool, cond, leb, eqb, ◌&&◌, ◌||◌, bytes_eq, List, [], ◌∷◌, ◌++◌, length, take, drop, slice_index, codes, All, Option, None, Some}
use Rattle.std.specs.List.{list_all}

-- a letter or a digit of ASCII
abbrev pub IsAlphanumeric : ℕ → Type 0
IsAlphanumeric c = ((48 ≤ c) × (c ≤ 57)) ⊎ ((65 ≤ c) × (c ≤ 90)) ⊎ ((97 ≤ c) × (c ≤ 122))

abbrev pub IsId : List ℕ → Type 0
IsId id = (length id ≡ 15) × All IsAlphanumeric id

-- 1 at a capital letter, and else 0
abbrev pub capital : ℕ → ℕ
capital c = cond (leb 65 c && leb c 90) 1 0

-- the number whose bit i says that character i is a capital letter
abbrev pub capitals : List ℕ → ℕ
capitals [] = 0
capitals (c ∷ cs) = capital c + 2 * capitals cs

-- the check character of five characters
abbrev pub check : List ℕ → ℕ
check five = slice_index (codes "ABCDEFGHIJKLMNOPQRSTUVWXYZ012345") (capitals five)

-- the check characters belong to the first, the second and the third five characters
abbrev pub checks : List ℕ → List ℕ
checks id = check (take 5 id) ∷ check (take 5 (drop 5 id)) ∷ check (take 5 (drop 10 id)) ∷ []

-- an Id with its check characters
abbrev pub long_id : List ℕ → List ℕ
long_id id = id ++ checks id

-- the text is an Id, with its right check characters or without any
abbrev pub Names : List ℕ → List ℕ → Type 0
Names text id = IsId id × ((text ≡ id) ⊎ (text ≡ long_id id))

-- ---- the same by tests, for definitions that compute

abbrev pub is_alphanumeric : ℕ → Bool
is_alphanumeric c = (leb 48 c && leb c 57) || ((leb 65 c && leb c 90) || (leb 97 c && leb c 122))

abbrev pub is_id : List ℕ → Bool
is_id bs = eqb (length bs) 15 && list_all is_alphanumeric bs

-- the Id that a text names
abbrev pub id_value : List ℕ → Option (List ℕ)
id_value bs = cond (is_id bs) (Some bs) (cond (is_id (take 15 bs) && bytes_eq bs (long_id (take 15 bs))) (Some (take 15 bs)) None)
