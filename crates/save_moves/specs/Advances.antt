-- From where a statement stands to its next question, its next firing or its end (docs/platform.md, "Saves").
use Rattle.std.specs.Prelude.{◌≡◌, ℕ, zero, suc}
use Rattle.save_meaning.specs.Sites.{Site}
use Rattle.save_meaning.specs.declared.run.TxnState.{TxnState}
use Rattle.save_statements.specs.declared.run.SaveRun.{SaveRun}
use Rattle.save_statements.specs.Moves.{Goes, move}
use Rattle.save_measures.specs.Paid.{IsPaid}
use Rattle.save_measures.specs.Measure.{Triggers}
use Rattle.save_stages.specs.declared.moved.Moved.{Moved}
use Rattle.save_stages.specs.declared.moved.Moved.TheVariants as M
use Rattle.save_stages.specs.Does.{IsMove}
use Rattle.save_moves.specs.declared.run.Stopped.{Stopped}
use Rattle.save_moves.specs.declared.run.Stopped.TheVariants as E

-- the move that stopped it
abbrev pub moved_of : Stopped → Moved
moved_of (E.Asked q) = M.Asked q
moved_of (E.Fired n c) = M.Fired n c
moved_of (E.Ended outcomes) = M.Ended outcomes
moved_of (E.Threw why) = M.Threw why
moved_of (E.Halted limit) = M.Halted limit

module _ (site : Site) (triggers : Triggers) where
  -- so many moves go on, from the first to the last of these
  abbrev pub GoesOn : ℕ → SaveRun → TxnState → SaveRun → TxnState → Type 0
  GoesOn zero run w last v = (run ≡ last) × (w ≡ v)
  GoesOn (suc n) run w last v = (mid : SaveRun) × (u : TxnState) × (move site triggers run w ≡ Goes mid u) × GoesOn n mid u last v

  -- some moves go on, and the one behind them stops: where it asks or fires, the statement and the state stay as they are before
  -- it. What the state has stays paid for
  pub record Advances (run : SaveRun) (w : TxnState) (stopped : Stopped) (r : SaveRun) (v : TxnState) : Type 0 where
    pub moves : ℕ
    pub last : SaveRun
    pub before : TxnState
    pub goes : GoesOn moves run w last before
    pub stops : IsMove last before (move site triggers last before) (moved_of stopped) r v
    pub paid : IsPaid v
