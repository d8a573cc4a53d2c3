use Rattle.std.proofs.Common.{◌≡◌, map}
use Rattle.std.specs.Map.Iter.{deref_pair}
use Rattle.row_meaning.specs.Stores.{of_object}
use Rattle.row_meaning.specs.Overlays.{overlay_rows}
use Rattle.txn_overlay.specs.Changes.{plain}
use Rattle.txn_overlay.proofs.overlay.Overlay.rows_of.Given as goal

abbrev pub invariant-loop-change : goal.invariant-loop-change
invariant-loop-change l = l.rows.items ≡ of_object l.object (overlay_rows (plain (map deref_pair l.yielded)))
