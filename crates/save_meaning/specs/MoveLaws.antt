-- How the state that moves change stands for the one that a save sees.
use Rattle.std.specs.Prelude.{◌≡◌, List, length}
use Rattle.limit_meter.specs.Charges.{Counts}
use Rattle.row_meaning.specs.Overlays.{Overlay}
use Rattle.save_meaning.specs.Transactions.{Txn}
use Rattle.save_meaning.specs.declared.run.TxnState.{TxnState}

-- a state that the moves change stands for one that a save sees: its meter has the counters of the charges, and the
-- statements outside this one are these
pub record Alike (saved : List Overlay) (w : TxnState) (t : Txn) : Type 0 where
  pub overlay : w.overlay ≡ record { now = t.overlay; saved = saved }
  pub minted : w.minted ≡ t.minted
  pub counts : Counts t.charges w.meter
  pub eight : length w.meter ≡ 8
