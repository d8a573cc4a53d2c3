-- Laws of rows with their roll-ups (docs/platform.md, "Roll-ups").
use Rattle.std.specs.Prelude.{◌≡◌, ◌↔◌, ℕ, true, ℤ, List, Option}
use Rattle.apex_num.specs.declared.cell.Cell.{Cell}
use Rattle.apex_schema.specs.declared.schema.Schema.{Schema}
use Rattle.apex_rows.specs.declared.row.Row.{Row}
use Rattle.row_meaning.specs.Rollups.{InRange}
use Rattle.row_meaning.specs.Stores.{IsRow}
use Rattle.rolled_rows.specs.declared.rolled.Rolled.TheVariants.{Cells}
use Rattle.rolled_rows.specs.RollUps.{in_range, rolled_up}

-- a value is in range exactly where it is null or a Decimal
abbrev pub RangeIsDecimals : Type 0
RangeIsDecimals = (value : Option ℤ) → (in_range value ≡ true) ↔ InRange value

-- a row of the schema stays one
abbrev pub RowsStayRows : Type 0
RowsStayRows = (schema : Schema) (rows : List Row) (row : Row) (cells : List Cell) → IsRow schema row → rolled_up schema rows row ≡ Cells cells → IsRow schema (record row { cells = cells })
