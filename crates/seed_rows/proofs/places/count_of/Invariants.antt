use Rattle.std.proofs.Common.{◌≡◌, take}
use Rattle.std.specs.List.{count_by}
use Rattle.row_cells.specs.Rows.{is_number}
use Rattle.seed_rows.specs.Written.{Written}
use Rattle.seed_rows.specs.Views.{all_as_written}
use Rattle.seed_rows.proofs.places.count_of.Given as goal

abbrev pub invariant-loop-row : goal.invariant-loop-row
invariant-loop-row l = l.count ≡ count_by (λ (v : Written). is_number l.object v.object) (all_as_written (take l.row-index l.rows))
