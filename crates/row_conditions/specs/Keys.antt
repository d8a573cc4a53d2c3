-- Values that are looked up by their keys (docs/platform.md, "Conditions").
use Rattle.std.specs.Prelude.{◌≡◌, Bool, List}
use Rattle.std.specs.List.{list_any}
use Rattle.apex_text.specs.Fold.{folded}
use Rattle.apex_num.specs.declared.cell.Cell.{Cell}
use Rattle.apex_num.specs.declared.cell.Cell.TheVariants.{Text}
use Rattle.apex_num.specs.contracts.cell.CellPartialEq.TheImpl.{ghosts}
use Rattle.row_meaning.specs.Cells.{same_cell}

-- the key of a value: that of a text has small letters
abbrev pub key_of : Cell → Cell
key_of (Text t) = Text (folded t)
key_of c = c

-- two keys are one: they are of one type and have the same content
abbrev pub key_eq : Cell → Cell → Bool
key_eq = ghosts.eq

-- the key of a value is one of these
abbrev pub has : List Cell → Cell → Bool
has keys c = list_any (key_eq (key_of c)) keys

-- these keys tell what is the same as one of these values
abbrev pub AreKeysOf : List Cell → List Cell → Type 0
AreKeysOf values keys = (c : Cell) → has keys c ≡ list_any (same_cell c) values
