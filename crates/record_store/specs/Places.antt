-- The rows of a tenant as a table has them: a place for each Id, which may be empty (docs/platform.md, "Rows and stores").
use Rattle.std.specs.Prelude.{◌≡◌, ℕ, Bool, true, ◌++◌, List, [], ◌∷◌, Option, None, Some}
use Rattle.std.specs.List.Sorted.{IsStrictlySortedBy}
use Rattle.std.specs.Option.{is_some}
use Rattle.std.specs.Map.{keys_of, lookup}
use Rattle.std.specs.BTreeMap.{is_at}
use Rattle.apex_rows.specs.declared.query.Question.{Question}
use Rattle.apex_rows.specs.declared.query.Question.TheVariants.{Read, Grab}
use Rattle.apex_rows.specs.declared.query.Answer.{Answer}
use Rattle.apex_rows.specs.declared.query.Answer.TheVariants.{Rows, Granted}
use Rattle.apex_rows.specs.declared.row.Row.{Row}
use Rattle.row_meaning.specs.Cells.{bytes_cmp}
use Rattle.row_meaning.specs.Stores.{answer}

abbrev pub Places : Type 0
Places = List (List ℕ × Option Row)

abbrev pub row_in : Option Row → List Row
row_in None = []
row_in (Some row) = row ∷ []

-- the rows, in the order of their Ids
abbrev pub rows_of : Places → List Row
rows_of [] = []
rows_of (p ∷ ps) = row_in p.1 ++ rows_of ps

-- a row stands in the place of its Id
abbrev pub SlotFits : List ℕ → Option Row → Type 0
SlotFits id None = Unit {0}
SlotFits id (Some row) = row.id ≡ id

abbrev pub AllFit : Places → Type 0
AllFit [] = Unit {0}
AllFit (p ∷ ps) = SlotFits p.0 p.1 × AllFit ps

pub record IsKeyed (places : Places) : Type 0 where
  pub fit : AllFit places
  pub rising : IsStrictlySortedBy bytes_cmp (keys_of places)

-- there is a place for an Id
abbrev pub has_place : List ℕ → Places → Bool
has_place id places = is_some (lookup (is_at (bytes_cmp id)) places)

abbrev pub HasPlace : List ℕ → Places → Type 0
HasPlace id places = has_place id places ≡ true

-- no place is lost
abbrev pub Stay : Places → Places → Type 0
Stay before after = (id : List ℕ) → HasPlace id before → HasPlace id after

-- there is a place for each of these rows
abbrev pub HasRoom : List Row → Places → Type 0
HasRoom [] places = Unit {0}
HasRoom (row ∷ rows) places = HasPlace row.id places × HasRoom rows places

-- what a store of these rows answers
abbrev pub answer_to : List Row → Question → Answer
answer_to rows (Read object cond) = Rows (answer rows object cond)
answer_to rows (Grab ids) = Granted
