-- Answers, lists of records and lists of rows, as every save sees them (docs/platform.md, "Saves").
use Rattle.std.specs.Prelude.{ℕ, ◌+◌, ◌||◌, eqb, Bool, true, false, List, [], ◌∷◌, length, Option, None, Some}
use Rattle.std.specs.List.{list_any}
use Rattle.apex_schema.specs.declared.schema.Schema.{Schema}
use Rattle.apex_rows.specs.declared.query.Answer.{Answer}
use Rattle.apex_rows.specs.declared.query.Answer.TheVariants.{Rows, Granted}
use Rattle.apex_rows.specs.declared.row.Row.{Row}
use Rattle.row_meaning.specs.Stores.{has_id}

-- the rows that an answer has
abbrev pub rows_of_answer : Answer → List Row
rows_of_answer (Rows rows) = rows
rows_of_answer Granted = []

-- a record object stands twice in the list
abbrev pub is_double : List ℕ → Bool
is_double [] = false
is_double (k ∷ ks) = list_any (eqb k) ks || is_double ks

-- the first Id that was there before
abbrev pub or_seen : Bool → List ℕ → Option (List ℕ) → Option (List ℕ)
or_seen true id later = Some id
or_seen false id later = later

abbrev pub first_again : List (List ℕ) → List (Option (List ℕ)) → Option (List ℕ)
first_again seen [] = None
first_again seen (None ∷ ids) = first_again seen ids
first_again seen (Some id ∷ ids) = or_seen (has_id seen id) id (first_again (id ∷ seen) ids)

-- the Ids of rows
abbrev pub ids_of : List Row → List (List ℕ)
ids_of [] = []
ids_of (row ∷ rows) = row.id ∷ ids_of rows

-- RowShare stands behind the declared objects
abbrev pub is_row_share : Schema → ℕ → Bool
is_row_share schema object = eqb (object + 1) (length schema.objects)

-- the most records of a chunk
abbrev pub chunk_most : ℕ
chunk_most = 200
