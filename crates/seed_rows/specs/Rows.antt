-- What calls tell of one row of a seed.
use Rattle.std.specs.Prelude.{◌≡◌, ℕ, Bool, true, false, List, slice_get, Option, None, Some, Result, Ok, Err}
use Rattle.apex_num.specs.declared.cell.Cell.{Cell}
use Rattle.apex_num.specs.declared.cell.Cell.TheVariants.{Id}
use Rattle.fault_words.specs.declared.fault.FaultWord.{FaultWord}
use Rattle.fault_words.specs.declared.fault.FaultWord.TheVariants.{UnknownField, BadCell}
use Rattle.row_cells.specs.declared.rows.RowFault.{RowFault}
use Rattle.row_cells.specs.declared.rows.RowFault.TheVariants as Faults
use Rattle.row_cells.specs.Rows.{Known}
use Rattle.seed_rows.specs.declared.fault.SeedFault.{SeedFault}
use Rattle.seed_rows.specs.declared.fault.SeedFault.TheVariants.{Wrong, NoMemory as NoRoom}
use Rattle.apex_schema.specs.declared.schema.Schema.{Schema}
use Rattle.apex_rows.specs.declared.row.Row.{Row}
use Rattle.seed_rows.specs.declared.row.RowEnd.{RowEnd}
use Rattle.seed_rows.specs.declared.row.RowEnd.TheVariants.{Word, NoMemory}
use Rattle.seed_rows.specs.Written.{Written}
use Rattle.seed_rows.specs.Seeds.{IsSeedRow, IsWrong}

-- this row, and no other
abbrev pub IsOnlySeedRow : Schema → List Written → List Row → Written → Row → Type 0
IsOnlySeedRow schema all before w row = IsSeedRow schema all before w row × ((other : Row) → IsSeedRow schema all before w other → other ≡ row)

-- the first thing that is wrong with it, and it is no row
abbrev pub NoSeedRow : Schema → List Written → List Row → Written → RowEnd → Type 0
NoSeedRow schema all before w (Word word) = IsWrong schema all before w word × ((row : Row) → IsSeedRow schema all before w row → ⊥)
NoSeedRow schema all before w NoMemory = Unit {0}

-- the Id of a row whose cells are known and faultless; otherwise the first thing that is wrong with it
abbrev pub IsChecked : Option FaultWord → Known → Result (List ℕ) FaultWord → Type 0
IsChecked word known (Ok id) = (word ≡ None) × (slice_get known 0 ≡ Some (Some (Id id)))
IsChecked word known (Err w) = word ≡ Some w

-- an Id that nothing is wrong with
abbrev pub IsGoodId : Bool → Option (Option Cell) → Option (List ℕ) → Type 0
IsGoodId bad cell (Some id) = (bad ≡ false) × (cell ≡ Some (Some (Id id)))
IsGoodId bad cell None = bad ≡ true

-- ---- faults

abbrev pub end_of : RowFault → RowEnd
end_of Faults.UnknownField = Word UnknownField
end_of Faults.BadCell = Word BadCell
end_of Faults.NoMemory = NoMemory

-- the fault of a row at a place
abbrev pub FaultAt : List ℕ → RowEnd → SeedFault → Type 0
FaultAt place (Word word) (Wrong fault) = fault ≡ record { place = place; word = word }
FaultAt place NoMemory (Wrong fault) = ⊥
FaultAt place end NoRoom = Unit {0}
