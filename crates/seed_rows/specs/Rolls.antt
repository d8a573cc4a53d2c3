-- What calls tell of all rows of a seed, before and with their roll-ups.
use Rattle.std.specs.Prelude.{◌≡◌, ℕ, true, List, [], take, slice_get, Option, None, Some}
use Rattle.apex_schema.specs.declared.schema.Schema.{Schema}
use Rattle.apex_rows.specs.declared.row.Row.{Row}
use Rattle.fault_words.specs.declared.fault.FaultWord.TheVariants.{BadCell}
use Rattle.seed_rows.specs.declared.fault.SeedFault.{SeedFault}
use Rattle.seed_rows.specs.declared.fault.SeedFault.TheVariants.{Wrong, NoMemory}
use Rattle.seed_rows.specs.Written.{Written}
use Rattle.seed_rows.specs.Seeds.{AreRows, IsFirstWrong, IsRolled, has_out, place_of_row}

-- the rows as they are written, and no others
abbrev pub AreOnlyRows : Schema → List Written → List Row → Type 0
AreOnlyRows schema all rows = AreRows schema all [] all rows × ((other : List Row) → AreRows schema all [] all other → other ≡ rows)

-- the first thing that is wrong with one of them, and they are no rows
abbrev pub NoRows : Schema → List Written → SeedFault → Type 0
NoRows schema all (Wrong fault) = IsFirstWrong schema all fault × ((rows : List Row) → AreRows schema all [] all rows → ⊥)
NoRows schema all NoMemory = Unit {0}

-- a row with its roll-ups; none where one of them is out of range
abbrev pub RollsTo : Schema → List Row → Row → Option Row → Type 0
RollsTo schema all plain (Some row) = IsRolled schema all plain row
RollsTo schema all plain None = has_out schema all plain ≡ true

-- the fault of the row with this number, one of whose roll-ups is out of range
abbrev pub IsOutAt : Schema → List Written → ℕ → SeedFault → Type 0
IsOutAt schema all n (Wrong fault) = (w : Written) × (slice_get all n ≡ Some w) × (fault ≡ record { place = place_of_row schema (take n all) w; word = BadCell })
IsOutAt schema all n NoMemory = Unit {0}
