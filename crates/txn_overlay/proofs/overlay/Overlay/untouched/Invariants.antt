use Rattle.std.proofs.Common.{◌≡◌, ◌++◌}
use Rattle.row_meaning.specs.Overlays.{touched_ids}
use Rattle.row_meaning.specs.Stores.{without}
use Rattle.txn_overlay.proofs.overlay.Overlay.untouched.Given as goal

abbrev pub invariant-loop-row : goal.invariant-loop-row
invariant-loop-row l = (l.rows.items ++ without (touched_ids l.self) l.row-iterator.rest.items ≡ without (touched_ids l.self) l.fn.answered.items)
