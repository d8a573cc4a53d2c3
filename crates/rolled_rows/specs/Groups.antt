-- Detail rows by the rows that they name as their masters.
use Rattle.std.specs.Prelude.{◌≡◌, ℕ, ◌&&◌, eqb, Bool, false, cond, ℤ, List, [], ◌∷◌, ◌++◌, filter, slice_get, slice_set, Option, None, Some}
use Rattle.std.specs.List.{list_any}
use Rattle.indexmap.specs.IndexMap.{IndexMap, get}
use Rattle.apex_num.specs.declared.cell.Cell.{Cell}
use Rattle.apex_schema.specs.declared.schema.Field.{Field}
use Rattle.apex_schema.specs.declared.schema.Rollup.{Rollup}
use Rattle.apex_schema.specs.declared.schema.Schema.{Schema}
use Rattle.apex_rows.specs.declared.row.Row.{Row}
use Rattle.row_meaning.specs.Rollups.{cell_of_sum}
use Rattle.rolled_rows.specs.declared.groups.DetailKey.{DetailKey}
use Rattle.rolled_rows.specs.contracts.groups.DetailKeyPartialEq.TheImpl.{ghosts}
use Rattle.rolled_rows.specs.RollUps.{fields_of, master_of, rollup_of, is_under}

abbrev pub key_eq : DetailKey → DetailKey → Bool
key_eq = ghosts.eq

abbrev pub key : ℕ → ℕ → List ℕ → DetailKey
key object field id = record { object = object; field = field; id = id }

abbrev pub or_none : Option (List Row) → List Row
or_none None = []
or_none (Some rows) = rows

-- the rows under a key
abbrev pub rows_in : {S : Type 0} → IndexMap DetailKey (List Row) S → DetailKey → List Row
rows_in groups k = or_none (get key_eq groups k)

-- ---- which rows are looked up

-- a roll-up is over the rows of this object
abbrev pub is_over : ℕ → Option Rollup → Bool
is_over detail None = false
is_over detail (Some rollup) = eqb rollup.detail detail

abbrev pub has_rollup : ℕ → List Field → Bool
has_rollup detail fields = list_any (λ (f : Field). is_over detail (rollup_of f.kind)) fields

-- a field of a detail object leads to masters that have a roll-up over it
abbrev pub is_summed : Schema → ℕ → Option ℕ → Bool
is_summed schema detail None = false
is_summed schema detail (Some master) = has_rollup detail (fields_of schema master)

abbrev pub is_summed_in : Schema → ℕ → Option Field → Bool
is_summed_in schema detail None = false
is_summed_in schema detail (Some f) = is_summed schema detail (master_of f.kind)

-- a row stands under a key
abbrev pub is_at : Schema → ℕ → ℕ → List ℕ → Row → Bool
is_at schema object field id row = is_summed_in schema object (slice_get (fields_of schema object) field) && is_under object field id row

-- each key has the rows that stand under it, in their order
abbrev pub AreGroups : {S : Type 0} → Schema → List Row → IndexMap DetailKey (List Row) S → Type 0
AreGroups schema rows groups = (object field : ℕ) (id : List ℕ) → rows_in groups (key object field id) ≡ filter (is_at schema object field id) rows

-- ---- steps

-- with a row more, where something holds
abbrev pub with_row : Bool → List Row → Row → List Row
with_row holds rows row = cond holds (rows ++ row ∷ []) rows

-- with the cell of a roll-up, where a field is one
abbrev pub with_cell : (Rollup → Option ℤ) → Option Rollup → List Cell → ℕ → List Cell
with_cell value None cells n = cells
with_cell value (Some rollup) cells n = slice_set cells n (cell_of_sum (value rollup))
