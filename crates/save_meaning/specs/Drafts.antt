-- The records of a save, and what is found wrong with them (docs/platform.md, "Saves").
use Rattle.std.specs.Prelude.{ℕ, zero, suc, ◌&&◌, ◌||◌, not, nat_lt, eqb, Bool, true, false, cond, List, [], ◌∷◌, ◌++◌, map, codes, bytes_eq, Option, None, Some}
use Rattle.std.specs.List.{list_any}
use Rattle.std.specs.declared.cmp.Ordering.{Ordering}
use Rattle.std.specs.declared.cmp.Ordering.TheVariants.{Less, Equal, Greater}
use Rattle.apex_num.specs.declared.cell.Cell.{Cell}
use Rattle.apex_num.specs.declared.cell.Cell.TheVariants.{Null, Bool as Truth, Text, Id}
use Rattle.platform_errors.specs.declared.record.RecordError.{RecordError}
use Rattle.platform_errors.specs.declared.record.RecordError.TheVariants as Error
use Rattle.apex_schema.specs.declared.schema.FieldKind.{FieldKind}
use Rattle.apex_schema.specs.declared.schema.FieldKind.TheVariants as Kind
use Rattle.apex_schema.specs.declared.schema.Field.{Field}
use Rattle.apex_rows.specs.declared.row.Row.{Row}
use Rattle.row_meaning.specs.Cells.{bytes_cmp}
use Rattle.row_meaning.specs.Conds.{cell_of}
use Rattle.row_meaning.specs.Overlays.{Overlay, touched_ids}
use Rattle.row_meaning.specs.Rules.{is_blank, text_length}
use Rattle.row_meaning.specs.Stores.{has_id}
use Rattle.row_meaning.specs.Users.{user_id}
use Rattle.save_meaning.specs.declared.draft.Reference.{Reference}

-- the first of two that is there
abbrev pub or_later : {A : Type 0} → Option A → Option A → Option A
or_later None later = later
or_later (Some first) later = Some first

abbrev pub when : Bool → RecordError → Option RecordError
when true e = Some e
when false e = None

-- ---- the new row of an insert

-- what a field has that the record doesn't know
abbrev pub blank_of : FieldKind → Cell
blank_of Kind.Checkbox = Truth false
blank_of _ = Null

-- the cell of field n: what the record knows, or the request's user as the owner
abbrev pub new_cell : ℕ → ℕ → Field → Option Cell → Cell
new_cell user n f (Some c) = c
new_cell user n f None = cond (eqb n 1) (Id (user_id user)) (blank_of f.kind)

abbrev pub new_cells : ℕ → ℕ → List Field → List (Option Cell) → List Cell
new_cells user n [] known = []
new_cells user n (f ∷ fs) [] = new_cell user n f None ∷ new_cells user (suc n) fs []
new_cells user n (f ∷ fs) (k ∷ ks) = new_cell user n f k ∷ new_cells user (suc n) fs ks

-- the Id of a row that has none yet
abbrev pub no_id : List ℕ
no_id = codes "000000000000000"

-- ---- references

-- the fields that lead to another object
abbrev pub reference_of : ℕ → Field → FieldKind → List Reference
reference_of n f (Kind.Lookup link) = record { field = n; to = link.to; name = f.name } ∷ []
reference_of n f (Kind.MasterDetail link) = record { field = n; to = link.to; name = f.name } ∷ []
reference_of n f _ = []

abbrev pub references : ℕ → List Field → List Reference
references n [] = []
references n (f ∷ fs) = reference_of n f f.kind ++ references (suc n) fs

abbrev pub id_in : Cell → List (List ℕ)
id_in (Id i) = i ∷ []
id_in _ = []

abbrev pub with_id_by : Ordering → List ℕ → List ℕ → List (List ℕ) → List (List ℕ) → List (List ℕ)
with_id_by Less id i is more = id ∷ i ∷ is
with_id_by Equal id i is more = i ∷ is
with_id_by Greater id i is more = i ∷ more

-- an Id among others that rise; each stands once
abbrev pub with_id : List ℕ → List (List ℕ) → List (List ℕ)
with_id id [] = id ∷ []
with_id id (i ∷ is) = with_id_by (bytes_cmp id i) id i is (with_id id is)

abbrev pub with_ids : List (List ℕ) → List (List ℕ) → List (List ℕ)
with_ids [] is = is
with_ids (id ∷ ids) is = with_ids ids (with_id id is)

-- those of these Ids that the transaction didn't touch
abbrev pub untouched : Overlay → List (List ℕ) → List (List ℕ)
untouched overlay [] = []
untouched overlay (i ∷ is) = cond (has_id (touched_ids overlay) i) (untouched overlay is) (i ∷ untouched overlay is)

-- a cell names a row that isn't among these
abbrev pub dangles : List Row → Cell → Bool
dangles rows (Id i) = not (list_any (λ (r : Row). bytes_eq r.id i) rows)
dangles rows _ = false

abbrev pub is_user : ℕ → Cell → Bool
is_user zero c = false
is_user (suc n) (Id i) = bytes_eq i (user_id n) || is_user n (Id i)
is_user (suc n) _ = false

-- the name of field n
abbrev pub name_of : Option Field → List ℕ
name_of None = []
name_of (Some f) = f.name

-- ---- validation

abbrev pub is_needed : Field → FieldKind → Bool
is_needed f (Kind.MasterDetail link) = true
is_needed f _ = f.required

-- the first field of a row that needs a value and has none
abbrev pub lacking : ℕ → List Field → Row → Option RecordError
lacking n [] row = None
lacking n (f ∷ fs) row = or_later (when (is_needed f f.kind && is_blank (cell_of row n)) (Error.Required f.name)) (lacking (suc n) fs row)

abbrev pub is_long : FieldKind → Cell → Bool
is_long (Kind.Text most) c = nat_lt most (text_length c)
is_long _ c = false

-- the first text that is longer than its field
abbrev pub too_long : ℕ → List Field → Row → Option RecordError
too_long n [] row = None
too_long n (f ∷ fs) row = or_later (when (is_long f.kind (cell_of row n)) (Error.TooLong f.name)) (too_long (suc n) fs row)

-- a level other than the two that there are; a level that is null is lacking before
abbrev pub is_bad_level : Cell → Bool
is_bad_level (Text t) = not (bytes_eq t (codes "Read") || bytes_eq t (codes "Edit"))
is_bad_level _ = false

-- ---- the row that is written

-- an empty text is kept as null
abbrev pub kept_cell : Cell → Cell
kept_cell (Text []) = Null
kept_cell c = c

abbrev pub kept_cells : List ℕ → List Cell → List Cell
kept_cells id [] = []
kept_cells id (c ∷ cs) = Id id ∷ map kept_cell cs

abbrev pub written : List ℕ → Row → Row
written id row = record row { id = id; cells = kept_cells id row.cells }
