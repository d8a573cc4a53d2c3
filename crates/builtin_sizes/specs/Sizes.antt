-- The sizes of the texts that methods answer (docs/platform.md, "Limits").
use Rattle.std.specs.Prelude.{ℕ, length, min, ◌^◌, ◌-◌, Option, None, Some}
use Rattle.apex_num.specs.declared.cell.Cell.TheVariants as Cells
use Rattle.builtin_table.specs.Answers.{Answer, Gives}

-- the bytes of the text that is given, 2^64 - 1 where there are more; none where no text is
abbrev pub sized : Answer → Option ℕ
sized (Gives (Cells.Text text)) = Some (min (length text) (2 ^ 64 - 1))
sized _ = None
