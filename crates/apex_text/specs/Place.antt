-- Lines and columns (docs/formats.md, "Tokens").
use Rattle.std.specs.Prelude.{◌≡◌, ℕ, ◌+◌, ◌⊎◌, List, [], ◌∷◌, ◌++◌, length, take, cond, eqb}

-- how many line feeds a text has
abbrev pub feeds : List ℕ → ℕ
feeds [] = 0
feeds (b ∷ bs) = cond (eqb b 10) 1 0 + feeds bs

-- what stands before a line: nothing, or text that ends with a line feed
abbrev pub EndsALine : List ℕ → Type 0
EndsALine before = (before ≡ []) ⊎ ((text : List ℕ) × (before ≡ text ++ 10 ∷ []))

-- the place `at` of a text: its line, by the line feeds before it, and its column, by the bytes of its line before it; both count from 1
pub record IsPlace (text : List ℕ) (at line column : ℕ) : Type 0 where
  pub lines : line ≡ feeds (take at text) + 1
  pub above : List ℕ
  pub front : List ℕ
  pub cut : take at text ≡ above ++ front
  pub begins : EndsALine above
  pub one_line : feeds front ≡ 0
  pub column_is : column ≡ length front + 1
