-- What the cells of master rows come to over detail rows (docs/platform.md, "Roll-ups").
use Rattle.std.specs.Prelude.{ℕ, ◌^◌, ◌&&◌, not, eqb, nat_lt, Bool, true, false, ℤ, unsigned_abs, List, [], ◌∷◌, filter, slice_get, Option, None, Some}
use Rattle.std.specs.List.{position_from}
use Rattle.apex_num.specs.declared.cell.Cell.{Cell}
use Rattle.apex_schema.specs.declared.schema.Field.{Field}
use Rattle.apex_schema.specs.declared.schema.FieldKind.{FieldKind}
use Rattle.apex_schema.specs.declared.schema.FieldKind.TheVariants as Kind
use Rattle.apex_schema.specs.declared.schema.Object.{Object}
use Rattle.apex_schema.specs.declared.schema.Rollup.{Rollup}
use Rattle.apex_schema.specs.declared.schema.Schema.{Schema}
use Rattle.apex_rows.specs.declared.row.Row.{Row}
use Rattle.row_meaning.specs.Accesses.{is_id}
use Rattle.row_meaning.specs.Conds.{cell_of}
use Rattle.row_meaning.specs.Rollups.{rolled, cell_of_sum}
use Rattle.rolled_rows.specs.declared.rolled.Rolled.{Rolled}
use Rattle.rolled_rows.specs.declared.rolled.Rolled.TheVariants.{Cells, OutOfRange}

-- ---- fields

abbrev pub fields_in : Option Object → List Field
fields_in None = []
fields_in (Some o) = o.fields

-- the fields of an object; none where there is no such object
abbrev pub fields_of : Schema → ℕ → List Field
fields_of schema object = fields_in (slice_get schema.objects object)

-- the object whose rows a field names as masters of its own row
abbrev pub master_of : FieldKind → Option ℕ
master_of (Kind.MasterDetail link) = Some link.to
master_of _ = None

abbrev pub rollup_of : FieldKind → Option Rollup
rollup_of (Kind.Rollup rollup) = Some rollup
rollup_of _ = None

-- ---- the rows under a row

abbrev pub is_object : ℕ → Option ℕ → Bool
is_object object None = false
is_object object (Some o) = eqb o object

-- the field by which the rows of an object name their masters of another one: the first MasterDetail field that leads there
abbrev pub master_field : Schema → ℕ → ℕ → Option ℕ
master_field schema detail master = position_from (λ (f : Field). is_object master (master_of f.kind)) 0 (fields_of schema detail)

-- a row is of this object, and its cell of this field is the Id
abbrev pub is_under : ℕ → ℕ → List ℕ → Row → Bool
is_under detail field id row = eqb row.object detail && is_id (cell_of row field) id

abbrev pub under_by : ℕ → Option ℕ → List ℕ → List Row → List Row
under_by detail None id rows = []
under_by detail (Some field) id rows = filter (is_under detail field id) rows

-- of these rows, those of a detail object that are under a master row
abbrev pub under : Schema → ℕ → Row → List Row → List Row
under schema detail master rows = under_by detail (master_field schema detail master.object) master.id rows

-- what a roll-up of a master row comes to over these rows, in millionths; none for null
abbrev pub comes_to : Schema → List Row → Row → Rollup → Option ℤ
comes_to schema rows master rollup = rolled rollup (under schema rollup.detail master rows)

-- ---- the cells of a master row

-- null, or a Decimal
abbrev pub in_range : Option ℤ → Bool
in_range None = true
in_range (Some d) = nat_lt (unsigned_abs d) (10 ^ 19)

-- the cell of a field, which may be a roll-up; each roll-up has this value
abbrev pub new_cell : (Rollup → Option ℤ) → Option Rollup → Cell → Cell
new_cell value None cell = cell
new_cell value (Some rollup) cell = cell_of_sum (value rollup)

abbrev pub new_cells : (Rollup → Option ℤ) → List Field → List Cell → List Cell
new_cells value [] cells = cells
new_cells value (f ∷ fs) [] = []
new_cells value (f ∷ fs) (c ∷ cs) = new_cell value (rollup_of f.kind) c ∷ new_cells value fs cs

-- a roll-up is out of range
abbrev pub goes_out : (Rollup → Option ℤ) → Option Rollup → Bool
goes_out value None = false
goes_out value (Some rollup) = not (in_range (value rollup))

-- the number of the first field that is a roll-up out of range
abbrev pub first_out : (Rollup → Option ℤ) → List Field → Option ℕ
first_out value fields = position_from (λ (f : Field). goes_out value (rollup_of f.kind)) 0 fields

abbrev pub by_range : Option ℕ → List Cell → Rolled
by_range None cells = Cells cells
by_range (Some field) cells = OutOfRange field

-- a master row over these rows: its cells, each roll-up's replaced by what that comes to; or the first roll-up out of range
abbrev pub rolled_up : Schema → List Row → Row → Rolled
rolled_up schema rows master =
    by_range (first_out (comes_to schema rows master) (fields_of schema master.object)) (new_cells (comes_to schema rows master) (fields_of schema master.object) master.cells)
