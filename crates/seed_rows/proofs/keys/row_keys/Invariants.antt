use Rattle.std.proofs.Common.{take}
use Rattle.seed_rows.specs.Keys.{HasKeys}
use Rattle.seed_rows.specs.Views.{all_as_written}
use Rattle.seed_rows.proofs.keys.row_keys.Given as goal

abbrev pub invariant-loop-row : goal.invariant-loop-row
invariant-loop-row l = HasKeys (all_as_written (take l.row-index l.all)) l.keys
