-- A statement on its way to where it stops.
use Rattle.std.specs.Prelude.{ℕ}
use Rattle.save_meaning.specs.Sites.{Site}
use Rattle.save_meaning.specs.declared.run.TxnState.{TxnState}
use Rattle.save_statements.specs.declared.run.SaveRun.{SaveRun}
use Rattle.save_measures.specs.Paid.{IsPaid}
use Rattle.save_measures.specs.Measure.{Triggers}
use Rattle.save_moves.specs.Advances.{GoesOn}

-- some moves went on from the first to the last of these
pub record Gone (site : Site) (triggers : Triggers) (run : SaveRun) (w : TxnState) (last : SaveRun) (v : TxnState) : Type 0 where
  pub moves : ℕ
  pub goes : GoesOn site triggers moves run w last v
  pub paid : IsPaid v
