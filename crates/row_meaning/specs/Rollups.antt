-- What a roll-up comes to (docs/platform.md, "Roll-ups").
use Rattle.std.specs.Prelude.{ℕ, ◌*◌, ℤ, pos, ◌+ℤ◌, int_lt, Bool, cond, List, [], ◌∷◌, ◌++◌, length, Option, None, Some}
use Rattle.apex_num.specs.declared.cell.Cell.{Cell}
use Rattle.apex_num.specs.declared.cell.Cell.TheVariants.{Null, Num}
use Rattle.apex_num.specs.Decimals.{IsDecimal}
use Rattle.apex_schema.specs.declared.schema.RollupBy.{RollupBy}
use Rattle.apex_schema.specs.declared.schema.RollupBy.TheVariants.{Count, Sum, Min, Max}
use Rattle.apex_schema.specs.declared.schema.Rollup.{Rollup}
use Rattle.apex_rows.specs.declared.row.Row.{Row}
use Rattle.row_meaning.specs.Conds.{cell_of}

abbrev pub number_of : Cell → List ℤ
number_of (Num d) = d ∷ []
number_of _ = []

abbrev pub field_number : Option ℕ → Row → List ℤ
field_number None row = []
field_number (Some field) row = number_of (cell_of row field)

-- the numbers of a field, nulls passed over
abbrev pub numbers : Option ℕ → List Row → List ℤ
numbers field [] = []
numbers field (r ∷ rows) = field_number field r ++ numbers field rows

abbrev pub total : List ℤ → ℤ
total [] = pos 0
total (d ∷ ds) = d +ℤ total ds

abbrev pub better : (ℤ → ℤ → Bool) → ℤ → Option ℤ → ℤ
better before d None = d
better before d (Some e) = cond (before e d) e d

-- the one that a test puts before the others
abbrev pub chosen : (ℤ → ℤ → Bool) → List ℤ → Option ℤ
chosen before [] = None
chosen before (d ∷ ds) = Some (better before d (chosen before ds))

abbrev pub rolled_by : RollupBy → ℕ → List ℤ → Option ℤ
rolled_by Count count numbers = Some (pos (1000000 * count))
rolled_by Sum count numbers = Some (total numbers)
rolled_by Min count numbers = chosen int_lt numbers
rolled_by Max count numbers = chosen (λ d e. int_lt e d) numbers

-- the millionths that a roll-up comes to; none for null
abbrev pub rolled : Rollup → List Row → Option ℤ
rolled rollup rows = rolled_by rollup.by (length rows) (numbers rollup.field rows)

-- the cell that a roll-up comes to, or that this is no Decimal
abbrev pub cell_of_sum : Option ℤ → Cell
cell_of_sum None = Null
cell_of_sum (Some d) = Num d

abbrev pub InRange : Option ℤ → Type 0
InRange None = Unit {0}
InRange (Some d) = IsDecimal d

abbrev pub RollsInRange : Rollup → List Row → Type 0
RollsInRange rollup rows = InRange (rolled rollup rows)
