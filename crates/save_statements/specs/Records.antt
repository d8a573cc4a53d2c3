-- The records of every save on their way: each knows the row that it was (docs/platform.md, "Saves").
use Rattle.std.specs.Prelude.{ℕ, suc, ◌&&◌, not, eqb, Bool, true, false, List, [], ◌∷◌, ◌++◌, Option, None, Some}
use Rattle.std.specs.List.{list_any}
use Rattle.apex_num.specs.declared.cell.Cell.{Cell}
use Rattle.apex_num.specs.declared.cell.Cell.TheVariants.{Id}
use Rattle.platform_errors.specs.declared.record.RecordError.{RecordError}
use Rattle.apex_schema.specs.declared.schema.FieldKind.{FieldKind}
use Rattle.apex_schema.specs.declared.schema.FieldKind.TheVariants as Kind
use Rattle.apex_schema.specs.declared.schema.Field.{Field}
use Rattle.apex_schema.specs.declared.schema.Object.{Object}
use Rattle.apex_schema.specs.declared.schema.Schema.{Schema}
use Rattle.apex_rows.specs.declared.row.Row.{Row}
use Rattle.apex_requests.specs.declared.request.Op.{Op}
use Rattle.apex_requests.specs.declared.request.Op.TheVariants as Op'
use Rattle.row_meaning.specs.Conds.{cell_of}
use Rattle.row_meaning.specs.Rules.{equals}
use Rattle.row_meaning.specs.Stores.{has_id}
use Rattle.save_statements.specs.declared.pending.Act.{Act}
use Rattle.save_statements.specs.declared.pending.Act.TheVariants.{Inserting, Updating, Deleting}
use Rattle.save_statements.specs.declared.pending.Pending.{Pending}
use Rattle.save_statements.specs.declared.pending.Record.{Record}
use Rattle.save_statements.specs.declared.pending.Record.TheVariants.{Going, Wrong}
use Rattle.save_statements.specs.declared.pending.Naming.{Naming}

abbrev pub op_of : Act → Op
op_of Inserting = Op'.Insert
op_of Updating = Op'.Update
op_of Deleting = Op'.Delete

abbrev pub pending : Row → Option Row → Pending
pending row old = record { row = row; old = old; seen = None; under = [] }

abbrev pub judged_by : Pending → Option RecordError → Record
judged_by p None = Going p
judged_by p (Some e) = Wrong e

-- each record that goes on is looked at
abbrev pub judged : (Pending → Option RecordError) → List Record → List Record
judged test [] = []
judged test (Going p ∷ rs) = judged_by p (test p) ∷ judged test rs
judged test (Wrong e ∷ rs) = Wrong e ∷ judged test rs

-- each that goes on becomes something else
abbrev pub changed_to : (Pending → Pending) → List Record → List Record
changed_to f [] = []
changed_to f (Going p ∷ rs) = Going (f p) ∷ changed_to f rs
changed_to f (Wrong e ∷ rs) = Wrong e ∷ changed_to f rs

-- those that go on, and their rows
abbrev pub going : List Record → List Pending
going [] = []
going (Going p ∷ rs) = p ∷ going rs
going (Wrong e ∷ rs) = going rs

abbrev pub rows_of : List Pending → List Row
rows_of [] = []
rows_of (p ∷ ps) = p.row ∷ rows_of ps

-- a cell is another than a row had; than no row it is another
abbrev pub is_new : ℕ → Row → Option Row → Bool
is_new field row None = true
is_new field row (Some was) = not (equals (cell_of was field) (cell_of row field))

-- in an update, a field changes
abbrev pub changes : ℕ → Row → Option Row → Bool
changes field row None = false
changes field row (Some was) = is_new field row (Some was)

-- ---- fields that name rows

abbrev pub master_to : FieldKind → Option ℕ
master_to (Kind.MasterDetail link) = Some link.to
master_to _ = None

abbrev pub lookup_to : FieldKind → Option ℕ
lookup_to (Kind.Lookup link) = Some link.to
lookup_to _ = None

abbrev pub naming_of : ℕ → ℕ → Option ℕ → List Naming
naming_of object n None = []
naming_of object n (Some to) = record { object = object; field = n; to = to } ∷ []

abbrev pub namings_in : (FieldKind → Option ℕ) → ℕ → ℕ → List Field → List Naming
namings_in leads object n [] = []
namings_in leads object n (f ∷ fs) = naming_of object n (leads f.kind) ++ namings_in leads object (suc n) fs

abbrev pub namings_from : (FieldKind → Option ℕ) → ℕ → List Object → List Naming
namings_from leads n [] = []
namings_from leads n (o ∷ os) = namings_in leads n 0 o.fields ++ namings_from leads (suc n) os

-- the MasterDetail and the Lookup fields of a schema, in its order
abbrev pub masters : Schema → List Naming
masters schema = namings_from master_to 0 schema.objects

abbrev pub lookups : Schema → List Naming
lookups schema = namings_from lookup_to 0 schema.objects

-- a cell of a row names one of these
abbrev pub is_among : List (List ℕ) → Cell → Bool
is_among ids (Id i) = has_id ids i
is_among ids _ = false

abbrev pub names_one : ℕ → List (List ℕ) → Row → Bool
names_one field ids row = is_among ids (cell_of row field)

-- one of these fields of a row names one of these
abbrev pub named_by : List Naming → List (List ℕ) → Row → Bool
named_by namings ids row = list_any (λ (n : Naming). eqb n.object row.object && names_one n.field ids row) namings
