-- The rows of a level by the rows that their fields name (docs/platform.md, "Saves").
use Rattle.std.specs.Prelude.{◌≡◌, ℕ, suc, ◌&&◌, eqb, Bool, cond, List, [], ◌∷◌, ◌++◌, filter, slice_get, bytes_eq, Option, None, Some}
use Rattle.std.specs.List.{list_any}
use Rattle.indexmap.specs.IndexMap.{IndexMap, get}
use Rattle.apex_rows.specs.declared.row.Row.{Row}
use Rattle.save_meaning.specs.Inserts.{ids_of}
use Rattle.save_statements.specs.declared.pending.Naming.{Naming}
use Rattle.save_statements.specs.Records.{names_one, named_by}

-- rows, and the fields by which they name the rows above them
pub record Layer : Type 0 where
  pub namings : List Naming
  pub rows : List Row

abbrev pub layers_of : List Naming → List (List Row) → List Layer
layers_of namings [] = []
layers_of namings (rows ∷ ls) = record { namings = namings; rows = rows } ∷ layers_of namings ls

-- the Ids of the rows of a layer that name one of these
abbrev pub below : Layer → List (List ℕ) → List (List ℕ)
below layer ids = ids_of (filter (named_by layer.namings ids) layer.rows)

-- some Ids, and those of all that goes with them
abbrev pub all_below : List Layer → List (List ℕ) → List (List ℕ)
all_below [] ids = ids
all_below (layer ∷ ls) ids = ids ++ all_below ls (below layer ids)

-- ---- as a map has them, by their places

abbrev pub or_none : Option (List ℕ) → List ℕ
or_none None = []
or_none (Some places) = places

abbrev pub places_in : {S : Type 0} → IndexMap (List ℕ) (List ℕ) S → List ℕ → List ℕ
places_in places id = or_none (get bytes_eq places id)

abbrev pub has_place : List ℕ → ℕ → Bool
has_place places n = list_any (λ (p : ℕ). eqb p n) places

-- a field of a row names this one
abbrev pub names : Naming → List ℕ → Row → Bool
names naming id row = eqb naming.object row.object && names_one naming.field (id ∷ []) row

-- under each Id stand the places of the rows that name it
abbrev pub IsIndex : {S : Type 0} → List Naming → List Row → IndexMap (List ℕ) (List ℕ) S → Type 0
IsIndex namings rows places = (id : List ℕ) (n : ℕ) (row : Row) → slice_get rows n ≡ Some row → has_place (places_in places id) n ≡ named_by namings (id ∷ []) row

-- the rows whose places pass a test, counted from this one on: their places and Ids
abbrev pub marked : (ℕ → Bool) → ℕ → List Row → List (ℕ × List ℕ)
marked test n [] = []
marked test n (row ∷ rows) = cond (test n) ((n, row.id) ∷ marked test (suc n) rows) (marked test (suc n) rows)

-- the places under some Ids have one of these
abbrev pub is_under : {S : Type 0} → IndexMap (List ℕ) (List ℕ) S → List (List ℕ) → ℕ → Bool
is_under places ids n = list_any (λ (i : List ℕ). has_place (places_in places i) n) ids
