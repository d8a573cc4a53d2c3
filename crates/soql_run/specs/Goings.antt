-- A query on its way to where it stops.
use Rattle.std.specs.Prelude.{ℕ}
use Rattle.query_moves.specs.declared.run.QueryRun.{QueryRun}
use Rattle.query_moves.specs.declared.run.QueryStage.{QueryStage}
use Rattle.query_moves.specs.declared.run.QueryStage.TheVariants as S
use Rattle.save_meaning.specs.Sites.{Site}
use Rattle.save_meaning.specs.declared.run.TxnState.{TxnState}
use Rattle.save_measures.specs.Paid.{IsPaid}
use Rattle.soql_run.specs.Advances.{GoesOn}

-- so many moves may go on from a stage
abbrev pub left : QueryStage → ℕ
left S.Begin = 2
left (S.Find answers) = 1
left (S.Hold found answers) = 0

-- some moves went on from the first to the last of these
pub record Gone (site : Site) (run : QueryRun) (w : TxnState) (last : QueryRun) (v : TxnState) : Type 0 where
  pub moves : ℕ
  pub goes : GoesOn site moves run w last v
  pub paid : IsPaid v
