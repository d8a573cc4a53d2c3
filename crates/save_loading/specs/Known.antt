-- What records know of fields.
use Rattle.std.specs.Prelude.{ℕ, List, slice_get, Option, None, Some}
use Rattle.apex_num.specs.declared.cell.Cell.{Cell}

-- what is known, where there is a place for it
abbrev pub known_or : Option (Option Cell) → Option Cell
known_or (Some known) = known
known_or None = None

abbrev pub known_at : List (Option Cell) → ℕ → Option Cell
known_at known field = known_or (slice_get known field)
