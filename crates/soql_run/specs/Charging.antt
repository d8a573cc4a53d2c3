-- Charges on the way of a move (docs/platform.md, "Limits").
use Rattle.std.specs.Prelude.{◌≡◌, Result, Ok, Err}
use Rattle.limit_meter.specs.declared.Limit.{Limit}
use Rattle.query_moves.specs.Moves.{Move, Halts}
use Rattle.save_meaning.specs.declared.run.TxnState.{TxnState}

-- what came of charges: whatever comes behind them goes on with this state, or a limit is passed with this one
abbrev pub Charges : ((TxnState → Move) → Move) → Result (Unit {0}) Limit → TxnState → Type 0
Charges next (Ok u) v = (go : TxnState → Move) → next go ≡ go v
Charges next (Err limit) v = (go : TxnState → Move) → next go ≡ Halts limit.kind limit.number v
