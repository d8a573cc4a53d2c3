-- The cells that the values of a formula are.
use Rattle.apex_num.specs.declared.cell.Cell.{Cell}
use Rattle.formula_rules.specs.declared.value.Value.{Value}

abbrev pub shows : Value → Cell
shows Value.Null = Cell.Null
shows (Value.Truth b) = Cell.Bool b
shows (Value.Whole n) = Cell.Whole n
shows (Value.Num c) = Cell.Num c
shows (Value.Text text) = Cell.Text text.now
shows (Value.Id id) = Cell.Id id.now
shows (Value.Day n) = Cell.Day n
shows (Value.Moment n) = Cell.Moment n
