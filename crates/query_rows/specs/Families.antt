-- Rows by the rows that a field of theirs names (docs/platform.md, "Queries").
use Rattle.std.specs.Prelude.{◌≡◌, ℕ, List, [], ◌∷◌, ◌++◌, filter, slice_get, bytes_eq, Option, None, Some}
use Rattle.indexmap.specs.IndexMap.{IndexMap, get}
use Rattle.apex_rows.specs.declared.row.Row.{Row}
use Rattle.row_meaning.specs.Accesses.{is_id}
use Rattle.row_meaning.specs.Conds.{cell_of}

-- rows, and the field by which they name other rows
pub record Rows : Type 0 where
  pub lookup : ℕ
  pub rows : List Row

-- those that name this row
abbrev pub family : ℕ → List Row → List ℕ → List Row
family lookup rows id = filter (λ (c : Row). is_id (cell_of c lookup) id) rows

-- ---- as a map has them, by their places

abbrev pub or_none : Option (List ℕ) → List ℕ
or_none None = []
or_none (Some places) = places

abbrev pub places_in : {S : Type 0} → IndexMap (List ℕ) (List ℕ) S → List ℕ → List ℕ
places_in places id = or_none (get bytes_eq places id)

abbrev pub row_in : Option Row → List Row
row_in None = []
row_in (Some row) = row ∷ []

abbrev pub at_places : List Row → List ℕ → List Row
at_places rows [] = []
at_places rows (p ∷ ps) = row_in (slice_get rows p) ++ at_places rows ps

-- under each Id stand the places of the rows that name it
abbrev pub AreFamilies : {S : Type 0} → ℕ → List Row → IndexMap (List ℕ) (List ℕ) S → Type 0
AreFamilies lookup rows places = (id : List ℕ) → at_places rows (places_in places id) ≡ family lookup rows id
