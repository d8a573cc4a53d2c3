-- The saves that requests are (docs/formats.md, "Saves").
use Rattle.std.specs.Prelude.{◌≡◌, ◌⊎◌, ℕ, ◌+◌, List, [], ◌∷◌, ◌++◌, codes, decimal, slice_get, Option, None, Some}
use Rattle.apex_num.specs.declared.cell.Cell.{Cell}
use Rattle.apex_num.specs.declared.cell.Cell.TheVariants.{Id}
use Rattle.fault_words.specs.declared.fault.Fault.{Fault}
use Rattle.fault_words.specs.declared.fault.FaultWord.{FaultWord}
use Rattle.fault_words.specs.declared.fault.FaultWord.TheVariants as Word
use Rattle.apex_requests.specs.declared.request.SaveRow.{SaveRow}
use Rattle.apex_requests.specs.declared.request.Work.{Work}
use Rattle.apex_requests.specs.declared.request.Work.TheVariants.{Apex, Save, Refused}
use Rattle.apex_schema.specs.declared.schema.Field.{Field}
use Rattle.apex_schema.specs.declared.schema.Object.{Object}
use Rattle.apex_schema.specs.declared.schema.Schema.{Schema}
use Rattle.schema_names.specs.Names.{place_of}
use Rattle.schema_plans.specs.Plans.{bind}
use Rattle.apex_text.specs.Fold.{folded}
use Rattle.bundle_read.specs.declared.entries.RowEntry.{RowEntry}
use Rattle.bundle_read.specs.declared.entries.SaveEntry.{SaveEntry}
use Rattle.row_cells.specs.declared.rows.RowFault.{RowFault}
use Rattle.row_cells.specs.declared.rows.RowFault.TheVariants as Rows
use Rattle.row_cells.specs.Rows.{Known, IsRow, IsRowFault}
use Rattle.record_words.specs.Names.{object_names}
use Rattle.save_requests.specs.declared.records.RecordsEnd.{RecordsEnd}
use Rattle.save_requests.specs.declared.records.RecordsEnd.TheVariants.{At, NoMemory}

-- ---- records

-- the Id of a record that knows it; one that is null is none
abbrev pub id_of : Option (Option Cell) → Option (List ℕ)
id_of (Some (Some (Id id))) = Some id
id_of _ = None

-- the row with this number is this record
pub record IsRecord (fields : List Field) (number : ℕ) (row : RowEntry) (saved : SaveRow) : Type 0 where
  pub knows : IsRow fields row.cells saved.cells
  pub key : saved.key ≡ number
  pub id : saved.id ≡ id_of (slice_get saved.cells 0)

-- one record for each row; their numbers go from i on
abbrev pub AreRecords : List Field → ℕ → List RowEntry → List SaveRow → Type 0
AreRecords fields i [] saved = saved ≡ []
AreRecords fields i (r ∷ rows) [] = ⊥
AreRecords fields i (r ∷ rows) (s ∷ saved) = IsRecord fields i r s × AreRecords fields (i + 1) rows saved

-- a key of the row is the name of no field, or it has no cells
abbrev pub IsWordOf : List Field → RowEntry → FaultWord → Type 0
IsWordOf fields row word = (IsRowFault fields row.cells Rows.UnknownField × (word ≡ Word.UnknownField)) ⊎ (IsRowFault fields row.cells Rows.BadCell × (word ≡ Word.BadCell))

-- the number of the first row that something is wrong with, and what it is
abbrev pub IsFirstBad : List Field → ℕ → List RowEntry → ℕ → FaultWord → Type 0
IsFirstBad fields i [] at word = ⊥
IsFirstBad fields i (r ∷ rows) at word =
    (IsWordOf fields r word × (at ≡ i)) ⊎ (((known : Known) × IsRow fields r.cells known) × IsFirstBad fields (i + 1) rows at word)

-- ---- saves

abbrev pub object_number : Schema → SaveEntry → Option ℕ
object_number schema save = place_of (object_names schema.objects) (folded save.object)

-- the save is of this object
pub record IsOf (schema : Schema) (save : SaveEntry) (number : ℕ) (object : Object) : Type 0 where
  pub number_is : object_number schema save ≡ Some number
  pub object_is : slice_get schema.objects number ≡ Some object

abbrev pub fault_in : ℕ → FaultWord → Fault
fault_in row word = record { place = codes "request " ++ decimal row; word = word }

-- its object isn't there, or a row has a fault, the first one
abbrev pub IsSaveFault : Schema → SaveEntry → Fault → Type 0
IsSaveFault schema save fault =
    ((bind (object_number schema save) (slice_get schema.objects) ≡ None) × (fault ≡ fault_in 0 Word.UnknownObject)) ⊎
    ((number : ℕ) × (object : Object) × (row : ℕ) × (word : FaultWord) × IsOf schema save number object × IsFirstBad object.fields 0 save.rows row word × (fault ≡ fault_in row word))

pub record IsSave (schema : Schema) (save : SaveEntry) (object : ℕ) (rows : List SaveRow) : Type 0 where
  pub o : Object
  pub of : IsOf schema save object o
  pub records : AreRecords o.fields 0 save.rows rows

-- what is written is this work: the save of its rows, or a fault
abbrev pub IsWork : Schema → SaveEntry → Work → Type 0
IsWork schema save (Save op object all rows) = (op ≡ save.op) × (all ≡ save.all_or_none) × IsSave schema save object rows
IsWork schema save (Refused fault) = IsSaveFault schema save fault
IsWork schema save (Apex n) = ⊥

-- ---- what calls tell

abbrev pub OnlyRecords : List Field → List RowEntry → List SaveRow → Type 0
OnlyRecords fields rows saved = AreRecords fields 0 rows saved × ((other : List SaveRow) → AreRecords fields 0 rows other → other ≡ saved)

-- the first bad row, and there are no records; want of memory is free
abbrev pub NoRecords : List Field → List RowEntry → RecordsEnd → Type 0
NoRecords fields rows (At row word) = IsFirstBad fields 0 rows row word × ((saved : List SaveRow) → AreRecords fields 0 rows saved → ⊥)
NoRecords fields rows NoMemory = Unit {0}

abbrev pub IsOnlyRecord : List Field → ℕ → RowEntry → SaveRow → Type 0
IsOnlyRecord fields number row saved = IsRecord fields number row saved × ((other : SaveRow) → IsRecord fields number row other → other ≡ saved)

abbrev pub NoRecord : List Field → ℕ → RowEntry → RecordsEnd → Type 0
NoRecord fields number row (At at word) = (at ≡ number) × IsWordOf fields row word
NoRecord fields number row NoMemory = Unit {0}

abbrev pub end_at : ℕ → RowFault → RecordsEnd
end_at row Rows.UnknownField = At row Word.UnknownField
end_at row Rows.BadCell = At row Word.BadCell
end_at row Rows.NoMemory = NoMemory

-- the work, and no other
abbrev pub IsOnlyWork : Schema → SaveEntry → Work → Type 0
IsOnlyWork schema save work = IsWork schema save work × ((other : Work) → IsWork schema save other → other ≡ work)
