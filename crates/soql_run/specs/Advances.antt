-- From where a query stands to its next question or its end (docs/platform.md, "Queries").
use Rattle.std.specs.Prelude.{◌≡◌, ℕ, zero, suc}
use Rattle.query_meaning.specs.Queries.{Counted, Listed}
use Rattle.query_moves.specs.Moves.{Move, Goes, Asks, Ends, Throws, Halts, move}
use Rattle.query_moves.specs.declared.run.QueryRun.{QueryRun}
use Rattle.save_meaning.specs.Sites.{Site}
use Rattle.save_meaning.specs.declared.run.TxnState.{TxnState}
use Rattle.save_measures.specs.Paid.{IsPaid}
use Rattle.soql_run.specs.declared.run.Stopped.{Stopped}
use Rattle.soql_run.specs.declared.run.Stopped.TheVariants as E

-- from a run and a state, the next move, what was said of it, and the run and the state behind it; where it asks, both are as they
-- were
abbrev pub IsMove : QueryRun → TxnState → Move → Stopped → QueryRun → TxnState → Type 0
IsMove run w next (E.Asked q) r v = (next ≡ Asks q) × (r ≡ run) × (v ≡ w)
IsMove run w next (E.Counted n) r v = next ≡ Ends (Counted n) v
IsMove run w next (E.Found found) r v = next ≡ Ends (Listed found) v
IsMove run w next (E.Threw why) r v = next ≡ Throws why v
IsMove run w next (E.Halted limit) r v = next ≡ Halts limit.kind limit.number v

module _ (site : Site) where
  -- so many moves go on, from the first to the last of these
  abbrev pub GoesOn : ℕ → QueryRun → TxnState → QueryRun → TxnState → Type 0
  GoesOn zero run w last v = (run ≡ last) × (w ≡ v)
  GoesOn (suc n) run w last v = (mid : QueryRun) × (u : TxnState) × (move site run w ≡ Goes mid u) × GoesOn n mid u last v

  -- some moves go on, and the one behind them stops: where it asks, the query and the state stay as they are before it. What the
  -- state has stays paid for
  pub record Advances (run : QueryRun) (w : TxnState) (stopped : Stopped) (r : QueryRun) (v : TxnState) : Type 0 where
    pub moves : ℕ
    pub last : QueryRun
    pub before : TxnState
    pub goes : GoesOn moves run w last before
    pub stops : IsMove last before (move site last before) stopped r v
    pub paid : IsPaid v
