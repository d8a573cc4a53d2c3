-- Which cell a written value is (docs/formats.md, "Cells").
use Rattle.std.specs.Prelude.{◌≡◌, ℕ, ℤ, pos, ◌*ℤ◌, List, Option, None, Some}
use Rattle.apex_num.specs.declared.cell.Cell.{Cell}
use Rattle.apex_num.specs.declared.cell.Cell.TheVariants as Cells
use Rattle.apex_num.specs.Decimals.{IsDecimal, Spells}
use Rattle.apex_num.specs.Ids.{Names}
use Rattle.apex_schema.specs.declared.schema.FieldKind.{FieldKind}
use Rattle.apex_schema.specs.declared.schema.FieldKind.TheVariants as Kind
use Rattle.civil_dates.specs.Texts.{IsDateText, IsMomentText}
use Rattle.bundle_read.specs.declared.entries.CellValue.{CellValue}
use Rattle.bundle_read.specs.declared.entries.CellValue.TheVariants as Written

-- a text names an Id
abbrev pub IsIdCell : CellValue → Cell → Type 0
IsIdCell (Written.Text text) c = (id : List ℕ) × Names text id × (c ≡ Cells.Id id)
IsIdCell _ c = ⊥

-- a whole number, or a text that spells one, in Decimal's range
abbrev pub IsNumberCell : CellValue → Cell → Type 0
IsNumberCell (Written.Whole n) c = IsDecimal (n *ℤ pos 1000000) × (c ≡ Cells.Num (n *ℤ pos 1000000))
IsNumberCell (Written.Text text) c = (d : ℤ) × Spells text d × IsDecimal d × (c ≡ Cells.Num d)
IsNumberCell _ c = ⊥

abbrev pub IsTextCell : CellValue → Cell → Type 0
IsTextCell (Written.Text text) c = c ≡ Cells.Text text
IsTextCell _ c = ⊥

abbrev pub IsTruthCell : CellValue → Cell → Type 0
IsTruthCell (Written.Truth b) c = c ≡ Cells.Bool b
IsTruthCell _ c = ⊥

abbrev pub IsDayCell : CellValue → Cell → Type 0
IsDayCell (Written.Text text) c = (n : ℤ) × IsDateText text n × (c ≡ Cells.Day n)
IsDayCell _ c = ⊥

abbrev pub IsMomentCell : CellValue → Cell → Type 0
IsMomentCell (Written.Text text) c = (n : ℤ) × IsMomentText text n × (c ≡ Cells.Moment n)
IsMomentCell _ c = ⊥

-- of a field's type; roll-ups aren't written
abbrev pub IsOfKind : FieldKind → CellValue → Cell → Type 0
IsOfKind Kind.Id value c = IsIdCell value c
IsOfKind (Kind.Text n) value c = IsTextCell value c
IsOfKind Kind.Number value c = IsNumberCell value c
IsOfKind Kind.Checkbox value c = IsTruthCell value c
IsOfKind Kind.Date value c = IsDayCell value c
IsOfKind Kind.Datetime value c = IsMomentCell value c
IsOfKind (Kind.Lookup link) value c = IsIdCell value c
IsOfKind (Kind.MasterDetail link) value c = IsIdCell value c
IsOfKind (Kind.Rollup rollup) value c = ⊥

-- the value is this cell of a field: null, or one of the field's type
abbrev pub IsCell : FieldKind → CellValue → Cell → Type 0
IsCell kind Written.Null c = c ≡ Cells.Null
IsCell kind value c = IsOfKind kind value c

-- what a call tells of a meaning: the cell, and no other, or that there is none
abbrev pub Only : (Cell → Type 0) → Option Cell → Type 0
Only means (Some c) = means c × ((other : Cell) → means other → other ≡ c)
Only means None = (c : Cell) → means c → ⊥
