-- Rows that are written.
use Rattle.std.proofs.Common.{ℕ, List, [], ◌∷◌, map}
use Rattle.apex_num.specs.declared.cell.Cell.{Cell}
use Rattle.save_meaning.specs.Drafts.{kept_cell, kept_cells}

-- what is left of the cells of a row, where some are kept already
abbrev pub kept_tail : List Cell → List ℕ → List Cell → List Cell
kept_tail [] id cs = kept_cells id cs
kept_tail (k ∷ ks) id cs = map kept_cell cs
