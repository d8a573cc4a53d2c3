-- How the lexer knows between which brackets a place stands: by the brackets that no bracket closes.
use Rattle.std.specs.Prelude.{◌≡◌, ℕ, zero, suc, ◌-◌, ◌<◌, ◌≤◌, Bool, true, false, List, [], ◌∷◌, ◌++◌, length, take, slice_index}
use Rattle.apex_lexer.specs.declared.brackets.Bracket.{Bracket}
use Rattle.apex_lexer.specs.declared.brackets.Bracket.TheVariants.{Opens, Closes, Neither}
use Rattle.apex_lexer.specs.declared.brackets.Part.{Part}
use Rattle.apex_lexer.specs.declared.brackets.Part.TheVariants.{Code}
use Rattle.apex_lexer.specs.declared.brackets.Brackets.{Brackets}
use Rattle.apex_lexer.specs.Brackets.{next, bracket, part_after, opened, closing}

-- the places of the open brackets behind a byte, of those that are open before it
abbrev pub noted : Bracket → ℕ → List ℕ → List ℕ
noted Opens at places = places ++ at ∷ []
noted Closes at places = take (length places - 1) places
noted Neither at places = places

-- the places of the brackets that no bracket closes, of bytes that stand at a place
abbrev pub unclosed_by : Bracket → ℕ → ℕ → List ℕ → List ℕ
unclosed_by Opens zero at more = at ∷ more
unclosed_by Opens (suc closing) at more = more
unclosed_by _ closing at more = more

abbrev pub unclosed : Part → ℕ → List ℕ → List ℕ
unclosed part at [] = []
unclosed part at (b ∷ bs) = unclosed_by (bracket part b) (closing (next part b) bs) at (unclosed (next part b) (suc at) bs)

-- so many places at the front are below this one
abbrev pub IsBelow : List ℕ → ℕ → ℕ → Type 0
IsBelow places known at = (known ≤ length places) × ((i : ℕ) → i < known → slice_index places i < at)

abbrev pub HasLooked : Bool → List ℕ → List ℕ → Type 0
HasLooked true places text = places ≡ unclosed Code 0 text
HasLooked false places text = Unit {0}

-- this is so at a place of the text
pub record IsCursor (text : List ℕ) (b : Brackets) : Type 0 where
  pub within : b.at ≤ length text
  pub part : b.part ≡ part_after Code (take b.at text)
  pub depth_is : b.depth ≡ opened Code 0 (take b.at text)
  pub places : HasLooked b.looked b.unclosed.items text
  pub passed : IsBelow b.unclosed.items b.passed b.at
