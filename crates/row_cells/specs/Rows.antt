-- Which cells a written row has (docs/formats.md, "Cells").
use Rattle.std.specs.Prelude.{◌≡◌, ℕ, eqb, Bool, true, false, List, [], ◌∷◌, length, filter, slice_get, Option, None, Some, is_none}
use Rattle.std.specs.List.{list_any}
use Rattle.apex_num.specs.declared.cell.Cell.{Cell}
use Rattle.apex_text.specs.Fold.{folded}
use Rattle.schema_names.specs.Names.{place_of}
use Rattle.schema_plans.specs.Plans.{bind}
use Rattle.formula_rules.specs.Grammar.{field_names}
use Rattle.apex_schema.specs.declared.schema.Field.{Field}
use Rattle.apex_schema.specs.declared.schema.FieldKind.{FieldKind}
use Rattle.apex_schema.specs.declared.schema.FieldKind.TheVariants as Kind
use Rattle.bundle_read.specs.declared.entries.CellEntry.{CellEntry}
use Rattle.row_cells.specs.declared.rows.RowFault.{RowFault}
use Rattle.row_cells.specs.declared.rows.RowFault.TheVariants.{UnknownField, BadCell, NoMemory}
use Rattle.row_cells.specs.Cells.{IsCell}

-- a field that may be written: roll-ups aren't
abbrev pub if_written : ℕ → FieldKind → Option ℕ
if_written n (Kind.Rollup rollup) = None
if_written n _ = Some n

-- the field that an entry names
abbrev pub field_at : List Field → CellEntry → Option ℕ
field_at fields e = bind (place_of (field_names fields) (folded e.name)) (λ n. bind (slice_get fields n) (λ (f : Field). if_written n f.kind))

-- an entry names no field
abbrev pub some_unknown : List Field → List CellEntry → Bool
some_unknown fields entries = list_any (λ e. is_none (field_at fields e)) entries

-- the entries that name field n
abbrev pub is_number : ℕ → Option ℕ → Bool
is_number n None = false
is_number n (Some m) = eqb m n

abbrev pub naming : List Field → ℕ → List CellEntry → List CellEntry
naming fields n entries = filter (λ e. is_number n (field_at fields e)) entries

-- what a row knows of a field that these entries name: nothing where none does, the cell of the only one, and
-- no row has two
abbrev pub Tells : FieldKind → List CellEntry → Option Cell → Type 0
Tells kind [] known = known ≡ None
Tells kind (e ∷ []) known = (c : Cell) × (known ≡ Some c) × IsCell kind e.value c
Tells kind (e ∷ d ∷ more) known = ⊥

abbrev pub Known : Type 0
Known = List (Option Cell)

-- the cells that a row knows, one place for each field
pub record IsRow (fields : List Field) (entries : List CellEntry) (cells : Known) : Type 0 where
  pub named : some_unknown fields entries ≡ false
  pub count : length cells ≡ length fields
  pub each : (n : ℕ) (f : Field) (known : Option Cell) → slice_get fields n ≡ Some f → slice_get cells n ≡ Some known → Tells f.kind (naming fields n entries) known

-- an entry names no field; or each does, and the row has no cells; want of memory is free
abbrev pub IsRowFault : List Field → List CellEntry → RowFault → Type 0
IsRowFault fields entries UnknownField = some_unknown fields entries ≡ true
IsRowFault fields entries BadCell = (some_unknown fields entries ≡ false) × ((cells : Known) → IsRow fields entries cells → ⊥)
IsRowFault fields entries NoMemory = Unit {0}

-- these cells and no others
abbrev pub IsOnlyRow : List Field → List CellEntry → Known → Type 0
IsOnlyRow fields entries cells = IsRow fields entries cells × ((other : Known) → IsRow fields entries other → other ≡ cells)

-- ---- what calls tell

abbrev pub NotNumbered : List Field → List CellEntry → RowFault → Type 0
NotNumbered fields entries UnknownField = some_unknown fields entries ≡ true
NotNumbered fields entries BadCell = ⊥
NotNumbered fields entries NoMemory = Unit {0}

-- a cell may be put at a place
abbrev pub MayPut : List Field → Known → CellEntry → ℕ → Cell → Type 0
MayPut fields before e n c = (f : Field) × (slice_get fields n ≡ Some f) × (slice_get before n ≡ Some None) × IsCell f.kind e.value c

abbrev pub NoPut : List Field → Known → CellEntry → ℕ → RowFault → Type 0
NoPut fields before e n UnknownField = ⊥
NoPut fields before e n BadCell = (c : Cell) → MayPut fields before e n c → ⊥
NoPut fields before e n NoMemory = Unit {0}

abbrev pub IsOnlyPut : List Field → Known → CellEntry → ℕ → Cell → Type 0
IsOnlyPut fields before e n c = MayPut fields before e n c × ((other : Cell) → MayPut fields before e n other → other ≡ c)

abbrev pub NoRow : List Field → List CellEntry → RowFault → Type 0
NoRow fields entries UnknownField = ⊥
NoRow fields entries BadCell = (cells : Known) → IsRow fields entries cells → ⊥
NoRow fields entries NoMemory = Unit {0}
