use Rattle.std.proofs.Common.{◌≡◌, ◌+◌, ◌<◌, ℕ}
use Rattle.std.specs.Prelude.{slice_index_or}
use Rattle.std.specs.declared.cmp.Ordering.TheVariants.{Less}
use Rattle.case_tables.specs.Tables.{bytes_cmp}
use Rattle.case_tables.proofs.Cases.new.Given as goal

abbrev pub invariant-loop-i : goal.invariant-loop-i
invariant-loop-i g l =
    (k : ℕ) (d : _) → k + 1 < l.i → bytes_cmp (g.R.Keyed.key (slice_index_or l.rows k d)) (g.R.Keyed.key (slice_index_or l.rows (k + 1) d)) ≡ Less
