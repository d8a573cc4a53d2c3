-- The Ids of rows by their objects (docs/platform.md, "Saves").
use Rattle.std.specs.Prelude.{◌≡◌, ℕ, eqb, Bool, true, false, List, [], ◌∷◌, Option, None, Some}
use Rattle.indexmap.specs.IndexMap.{IndexMap, get}
use Rattle.apex_rows.specs.declared.row.Row.{Row}
use Rattle.row_meaning.specs.Stores.{of_object}
use Rattle.save_meaning.specs.Drafts.{with_ids}
use Rattle.save_meaning.specs.Inserts.{ids_of}

abbrev pub or_no_ids : Option (List (List ℕ)) → List (List ℕ)
or_no_ids None = []
or_no_ids (Some ids) = ids

abbrev pub ids_in : {S : Type 0} → IndexMap ℕ (List (List ℕ)) S → ℕ → List (List ℕ)
ids_in sets object = or_no_ids (get eqb sets object)

-- for each object, the Ids of these rows of it, rising, each once
abbrev pub AreHeads : {S : Type 0} → List Row → IndexMap ℕ (List (List ℕ)) S → Type 0
AreHeads rows sets = (object : ℕ) → ids_in sets object ≡ with_ids (ids_of (of_object object rows)) []

-- there is one
abbrev pub is_some_row : List Row → Bool
is_some_row [] = false
is_some_row (row ∷ rows) = true
