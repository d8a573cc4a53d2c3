-- The rows of a seed (docs/formats.md, "Seeds").
use Rattle.std.specs.Prelude.{◌≡◌, ◌⊎◌, ℕ, eqb, Bool, true, false, cond, List, [], ◌∷◌, ◌++◌, length, take, codes, slice_get, Option, None, Some}
use Rattle.std.specs.List.{count_by, position_from}
use Rattle.std.specs.Fmt.{decimal}
use Rattle.apex_num.specs.declared.cell.Cell.{Cell}
use Rattle.apex_num.specs.declared.cell.Cell.TheVariants.{Null, Id}
use Rattle.apex_schema.specs.declared.schema.Object.{Object}
use Rattle.apex_schema.specs.declared.schema.Schema.{Schema}
use Rattle.apex_rows.specs.declared.row.Row.{Row}
use Rattle.fault_words.specs.declared.fault.Fault.{Fault}
use Rattle.fault_words.specs.declared.fault.FaultWord.{FaultWord}
use Rattle.fault_words.specs.declared.fault.FaultWord.TheVariants as Word
use Rattle.schema_plans.specs.Plans.{bind}
use Rattle.schema_plans.specs.Schemas.{numbered}
use Rattle.row_meaning.specs.Users.{user_id}
use Rattle.bundle_read.specs.declared.entries.SeedEntry.{SeedEntry}
use Rattle.row_cells.specs.declared.rows.RowFault.TheVariants as Fault'
use Rattle.row_cells.specs.Rows.{Known, IsRow, IsRowFault, is_number}
use Rattle.seed_rows.specs.declared.fault.SeedFault.{SeedFault}
use Rattle.seed_rows.specs.declared.fault.SeedFault.TheVariants.{Wrong, NoMemory}
use Rattle.record_words.specs.Names.{object_names}
use Rattle.rolled_rows.specs.declared.rolled.Rolled.{Rolled}
use Rattle.rolled_rows.specs.declared.rolled.Rolled.TheVariants.{Cells, OutOfRange}
use Rattle.rolled_rows.specs.RollUps.{rolled_up}
use Rattle.seed_rows.specs.Written.{Written, written}
use Rattle.seed_rows.specs.Words.{word_of}

-- ---- one row

-- an owner that isn't written is the first user, and every other cell null
abbrev pub or_default : ℕ → Option Cell → Cell
or_default n (Some c) = c
or_default n None = cond (eqb n 1) (Id (user_id 0)) Null

-- the object of a row, where there is one
abbrev pub object_at : Schema → Option ℕ → Option Object
object_at schema n = bind n (slice_get schema.objects)

-- it is written as this row, whose roll-ups are null; `all` are all rows that are written, and `before` those that stand before it
pub record IsSeedRow (schema : Schema) (all : List Written) (before : List Row) (w : Written) (row : Row) : Type 0 where
  pub object : w.object ≡ Some row.object
  pub o : Object
  pub is_object : object_at schema w.object ≡ Some o
  pub known : Known
  pub knows : IsRow o.fields w.cells known
  pub faultless : word_of (length schema.users) all before o known ≡ None
  pub id : slice_get known 0 ≡ Some (Some (Id row.id))
  pub cells : row.cells ≡ numbered or_default 0 known

-- the first word of a row of an object: a name of no field, no cells, or what is wrong with them
abbrev pub IsWordOf : Schema → List Written → List Row → Object → Written → FaultWord → Type 0
IsWordOf schema all before o w word =
    (IsRowFault o.fields w.cells Fault'.UnknownField × (word ≡ Word.UnknownField)) ⊎
    ((IsRowFault o.fields w.cells Fault'.BadCell × (word ≡ Word.BadCell)) ⊎
    ((known : Known) × IsRow o.fields w.cells known × (word_of (length schema.users) all before o known ≡ Some word)))

-- the first thing that is wrong with a row
abbrev pub IsWrong : Schema → List Written → List Row → Written → FaultWord → Type 0
IsWrong schema all before w word =
    ((object_at schema w.object ≡ None) × (word ≡ Word.UnknownObject)) ⊎
    ((o : Object) × (object_at schema w.object ≡ Some o) × IsWordOf schema all before o w word)

-- ---- all rows

-- these are written as these rows, each in view of those before it
abbrev pub AreRows : Schema → List Written → List Row → List Written → List Row → Type 0
AreRows schema all before [] rows = rows ≡ []
AreRows schema all before (w ∷ ws) [] = ⊥
AreRows schema all before (w ∷ ws) (row ∷ rows) = IsSeedRow schema all before w row × AreRows schema all (before ++ row ∷ []) ws rows

-- ---- roll-ups

-- a row with what its roll-ups come to over all rows
pub record IsRolled (schema : Schema) (all : List Row) (plain row : Row) : Type 0 where
  pub object : row.object ≡ plain.object
  pub id : row.id ≡ plain.id
  pub cells : rolled_up schema all plain ≡ Cells row.cells

-- rows, each with its roll-ups
abbrev pub AreRolled : Schema → List Row → List Row → List Row → Type 0
AreRolled schema all [] rows = rows ≡ []
AreRolled schema all (p ∷ plain) [] = ⊥
AreRolled schema all (p ∷ plain) (row ∷ rows) = IsRolled schema all p row × AreRolled schema all plain rows

-- the rows that are written, each with its roll-ups over all of them
abbrev pub IsSeed : Schema → List Written → List Row → Type 0
IsSeed schema all rows = (plain : List Row) × AreRows schema all [] all plain × AreRolled schema plain plain rows

abbrev pub is_out : Rolled → Bool
is_out (Cells cells) = false
is_out (OutOfRange field) = true

-- over all rows, a roll-up of this one is out of range
abbrev pub has_out : Schema → List Row → Row → Bool
has_out schema all row = is_out (rolled_up schema all row)

-- the number of the first row that has one
abbrev pub first_out : Schema → List Row → Option ℕ
first_out schema rows = position_from (has_out schema rows) 0 rows

-- ---- the first fault

-- the number of a row among those of its object
abbrev pub row_number : List Written → Option ℕ → ℕ
row_number before None = 0
row_number before (Some object) = count_by (λ (v : Written). is_number object v.object) before

-- the name of its object: as the schema has it, and otherwise as it is written
abbrev pub name_or : List ℕ → Option Object → List ℕ
name_or name None = name
name_or name (Some o) = o.name

abbrev pub place_of_row : Schema → List Written → Written → List ℕ
place_of_row schema before w = codes "seed " ++ (name_or w.name (object_at schema w.object) ++ (codes " " ++ decimal (row_number before w.object)))

-- the rows in front of one are rows, and it is the first that something is wrong with
pub record IsFirstWrong (schema : Schema) (all : List Written) (fault : Fault) : Type 0 where
  pub front : List Written
  pub w : Written
  pub rest : List Written
  pub parts : all ≡ front ++ w ∷ rest
  pub rows : List Row
  pub before : AreRows schema all [] front rows
  pub word : FaultWord
  pub wrong : IsWrong schema all rows w word
  pub is : fault ≡ record { place = place_of_row schema front w; word = word }

-- all are rows, and it is the first one that has a roll-up out of range
pub record IsFirstOut (schema : Schema) (all : List Written) (fault : Fault) : Type 0 where
  pub rows : List Row
  pub are : AreRows schema all [] all rows
  pub number : ℕ
  pub first : first_out schema rows ≡ Some number
  pub w : Written
  pub written : slice_get all number ≡ Some w
  pub is : fault ≡ record { place = place_of_row schema (take number all) w; word = Word.BadCell }

abbrev pub IsFirstFault : Schema → List Written → Fault → Type 0
IsFirstFault schema all fault = IsFirstWrong schema all fault ⊎ IsFirstOut schema all fault

-- ---- a seed

-- the rows that are written, and no others
abbrev pub IsOnlySeed : Schema → List Written → List Row → Type 0
IsOnlySeed schema all rows = IsSeed schema all rows × ((other : List Row) → IsSeed schema all other → other ≡ rows)

-- the first fault, and there is no seed; want of memory is free
abbrev pub NoSeed : Schema → List Written → SeedFault → Type 0
NoSeed schema all (Wrong fault) = IsFirstFault schema all fault × ((rows : List Row) → IsSeed schema all rows → ⊥)
NoSeed schema all NoMemory = Unit {0}

-- all rows of these entries
abbrev pub all_written : Schema → List SeedEntry → List Written
all_written schema entries = written (object_names schema.objects) entries
