-- What is said of a move (docs/platform.md, "Queries").
use Rattle.std.specs.Prelude.{◌≡◌}
use Rattle.query_moves.specs.Moves.{Move, Goes, move}
use Rattle.query_moves.specs.declared.run.QueryRun.{QueryRun}
use Rattle.save_meaning.specs.Sites.{Site}
use Rattle.save_meaning.specs.declared.run.TxnState.{TxnState}
use Rattle.soql_run.specs.declared.moved.Moved.{Moved}
use Rattle.soql_run.specs.declared.moved.Moved.TheVariants as M
use Rattle.soql_run.specs.Advances.{IsMove}

-- from a run and a state, the next move, what was said of it, and the run and the state behind it
abbrev pub IsDone : QueryRun → TxnState → Move → Moved → QueryRun → TxnState → Type 0
IsDone run w next M.Went r v = next ≡ Goes r v
IsDone run w next (M.Stops s) r v = IsMove run w next s r v

-- it is the move that a query of this request makes
abbrev pub Does : Site → QueryRun → TxnState → Moved → QueryRun → TxnState → Type 0
Does site run w m r v = IsDone run w (move site run w) m r v
