-- When two cells are one element or one key: they are of one kind and have the same content.
use Rattle.std.specs.Prelude.{Bool}
use Rattle.apex_num.specs.declared.cell.Cell.{Cell}
use Rattle.apex_num.specs.contracts.cell.CellPartialEq.TheImpl.{ghosts}

abbrev pub same : Cell → Cell → Bool
same = ghosts.eq
