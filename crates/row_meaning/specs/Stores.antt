-- One tenant's rows, and what they answer (docs/platform.md, "Rows and stores").
use Rattle.std.specs.Prelude.{◌≡◌, ℕ, ◌&&◌, eqb, Bool, true, false, cond, List, [], ◌∷◌, slice_get, bytes_eq, filter, Option, None, Some}
use Rattle.std.specs.List.{list_any}
use Rattle.std.specs.declared.cmp.Ordering.{Ordering}
use Rattle.std.specs.declared.cmp.Ordering.TheVariants.{Less, Equal, Greater}
use Rattle.apex_num.specs.declared.cell.Cell.{Cell}
use Rattle.apex_num.specs.declared.cell.Cell.TheVariants.{Null, Bool as Truth, Num, Text, Id, Day, Moment}
use Rattle.apex_schema.specs.declared.schema.FieldKind.{FieldKind}
use Rattle.apex_schema.specs.declared.schema.FieldKind.TheVariants as Kind
use Rattle.apex_schema.specs.declared.schema.Field.{Field}
use Rattle.apex_schema.specs.declared.schema.Object.{Object}
use Rattle.apex_schema.specs.declared.schema.Schema.{Schema}
use Rattle.apex_rows.specs.declared.query.Cond.{Cond}
use Rattle.apex_rows.specs.declared.row.Row.{Row}
use Rattle.apex_rows.specs.declared.row.Writes.{Writes}
use Rattle.row_meaning.specs.Cells.{bytes_cmp}
use Rattle.row_meaning.specs.Conds.{cell_of, holds_of}

-- ---- rows of a schema

-- a cell may stand in a field of this kind: a null in each
abbrev pub CellFits : FieldKind → Cell → Type 0
CellFits kind Null = Unit {0}
CellFits (Kind.Text most) (Text text) = Unit {0}
CellFits Kind.Number (Num d) = Unit {0}
CellFits Kind.Checkbox (Truth b) = Unit {0}
CellFits Kind.Date (Day n) = Unit {0}
CellFits Kind.Datetime (Moment n) = Unit {0}
CellFits Kind.Id (Id i) = Unit {0}
CellFits (Kind.Lookup link) (Id i) = Unit {0}
CellFits (Kind.MasterDetail link) (Id i) = Unit {0}
CellFits (Kind.Rollup rollup) (Num d) = Unit {0}
CellFits _ _ = ⊥

-- one cell for each field
abbrev pub CellsFit : List Field → List Cell → Type 0
CellsFit [] [] = Unit {0}
CellsFit (f ∷ fs) (c ∷ cs) = CellFits f.kind c × CellsFit fs cs
CellsFit _ _ = ⊥

-- a row of the schema, whose Id cell holds its Id
pub record IsRow (schema : Schema) (row : Row) : Type 0 where
  pub object : Object
  pub is_object : slice_get schema.objects row.object ≡ Some object
  pub cells : CellsFit object.fields row.cells
  pub id : cell_of row 0 ≡ Id row.id

-- ---- stores

-- a store is a map from Ids to rows: a list of rows in rising order of their Ids
abbrev pub Rising : List Row → Type 0
Rising [] = Unit {0}
Rising (r ∷ []) = Unit {0}
Rising (r ∷ s ∷ rows) = (bytes_cmp r.id s.id ≡ Less) × Rising (s ∷ rows)

abbrev pub AllRows : Schema → List Row → Type 0
AllRows schema [] = Unit {0}
AllRows schema (r ∷ rows) = IsRow schema r × AllRows schema rows

pub record IsStore (schema : Schema) (rows : List Row) : Type 0 where
  pub rising : Rising rows
  pub rows_are : AllRows schema rows

-- the row under an Id
abbrev pub find : List Row → List ℕ → Option Row
find [] id = None
find (r ∷ rows) id = cond (bytes_eq r.id id) (Some r) (find rows id)

-- with a row under its Id, in place of one that was there
abbrev pub put_by : Ordering → Row → Row → List Row → List Row → List Row
put_by Less row r rows more = row ∷ r ∷ rows
put_by Equal row r rows more = row ∷ rows
put_by Greater row r rows more = r ∷ more

abbrev pub put : Row → List Row → List Row
put row [] = row ∷ []
put row (r ∷ rows) = put_by (bytes_cmp row.id r.id) row r rows (put row rows)

abbrev pub put_all : List Row → List Row → List Row
put_all [] rows = rows
put_all (p ∷ ps) rows = put_all ps (put p rows)

-- an Id is one of these
abbrev pub has_id : List (List ℕ) → List ℕ → Bool
has_id ids id = list_any (λ i. bytes_eq i id) ids

abbrev pub without : List (List ℕ) → List Row → List Row
without ids rows = filter (λ (r : Row). cond (has_id ids r.id) false true) rows

-- the store after writes
abbrev pub taken : Writes → List Row → List Row
taken writes rows = without writes.drops (put_all writes.puts rows)

-- what a store answers to Read: its rows of the object for which the condition holds
abbrev pub of_object : ℕ → List Row → List Row
of_object object rows = filter (λ (r : Row). eqb r.object object) rows

abbrev pub answer : List Row → ℕ → Cond → List Row
answer rows object c = filter (λ (r : Row). eqb r.object object && holds_of c r) rows
