-- What roll-ups come to.
use Rattle.std.proofs.Common.{◌≡◌, ℕ, [], ◌∷◌, Option, None, Some, refl}
use Rattle.std.specs.Prelude.{ℤ, pos, negsuc}
use Rattle.apex_num.specs.declared.cell.Cell.{Cell}
use Rattle.apex_num.specs.declared.cell.Cell.TheVariants.{Null, Num}
use Rattle.apex_rows.specs.declared.row.Row.{Row}
use Rattle.apex_schema.specs.declared.schema.RollupBy.{RollupBy}
use Rattle.apex_schema.specs.declared.schema.RollupBy.TheVariants.{Count, Sum, Min, Max}
use Rattle.row_meaning.specs.Rollups.{rolled}

-- a row with this cell alone
abbrev row : Cell → Row
row cell = record { object = 0; id = []; cells = cell ∷ [] }

-- over the numbers 2, null and -3
abbrev over : RollupBy → Option ℕ → Option ℤ
over by field = rolled (record { detail = 0; by = by; field = field }) (row (Num (pos 2000000)) ∷ row Null ∷ row (Num (negsuc 2999999)) ∷ [])

-- over no number
abbrev over_none : RollupBy → Option ℤ
over_none by = rolled (record { detail = 0; by = by; field = Some 0 }) (row Null ∷ [])

counts : over Count None ≡ Some (pos 3000000)
counts = refl

sums : over Sum (Some 0) ≡ Some (negsuc 999999)
sums = refl

least : over Min (Some 0) ≡ Some (negsuc 2999999)
least = refl

greatest : over Max (Some 0) ≡ Some (pos 2000000)
greatest = refl

sum_of_none : over_none Sum ≡ Some (pos 0)
sum_of_none = refl

least_of_none : over_none Min ≡ None
least_of_none = refl

greatest_of_none : over_none Max ≡ None
greatest_of_none = refl

-- the sum of all is a Decimal where one of its parts isn't
back_in_range :
    rolled (record { detail = 0; by = Sum; field = Some 0 }) (row (Num (pos 9999999999999999999)) ∷ row (Num (pos 9999999999999999999)) ∷ row (Num (negsuc 9999999999999999998)) ∷ [])
    ≡ Some (pos 9999999999999999999)
back_in_range = refl
