-- Rows that are looked up by their Ids.
use Rattle.std.specs.Prelude.{◌≡◌, ℕ, List, slice_get, bytes_eq, Option, None, Some}
use Rattle.indexmap.specs.IndexMap.{IndexMap, get}
use Rattle.apex_rows.specs.declared.row.Row.{Row}
use Rattle.row_meaning.specs.Stores.{find}

-- the row at a place, where there is one
abbrev pub row_at : List Row → Option ℕ → Option Row
row_at rows None = None
row_at rows (Some place) = slice_get rows place

-- a table has the places of those rows among these by which Ids lead to the same as the rows themselves
abbrev pub HasPlaces : {S : Type 0} → IndexMap (List ℕ) ℕ S → List Row → List Row → Type 0
HasPlaces places rows those = (id : List ℕ) → row_at rows (get bytes_eq places id) ≡ find those id
