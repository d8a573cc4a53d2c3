-- What is to be shown of the measure of moves.
use Rattle.std.specs.Prelude.{◌≡◌, ◌<◌}
use Rattle.apex_rows.specs.declared.query.Answer.{Answer}
use Rattle.save_meaning.specs.Sites.{Site}
use Rattle.save_meaning.specs.declared.run.TxnState.{TxnState}
use Rattle.save_statements.specs.declared.firing.Fired.{Fired}
use Rattle.save_statements.specs.declared.run.SaveRun.{SaveRun}
use Rattle.save_statements.specs.Moves.{Move, Goes, Asks, Fires, Ends, Throws, Halts, move, given, came_back}
use Rattle.save_measures.specs.Paid.{IsPaid}
use Rattle.save_measures.specs.Measure.{Triggers, weight}

-- fewer moves may come behind a move that goes on, and behind what a firing came to; as many behind an answer
abbrev pub Lowers : Triggers → SaveRun → Move → Type 0
Lowers triggers run (Goes next w) = weight triggers next < weight triggers run
Lowers triggers run (Asks q) = (a : Answer) → weight triggers (given run a) ≡ weight triggers run
Lowers triggers run (Fires n c) = (f : Fired) → weight triggers (came_back run f) < weight triggers run
Lowers triggers run _ = Unit {0}

abbrev pub MovesEnd : Type 0
MovesEnd = (site : Site) (triggers : Triggers) (run : SaveRun) (w : TxnState) → Lowers triggers run (move site triggers run w)

-- what a move leaves is paid for
abbrev pub Pays : Move → Type 0
Pays (Goes next w) = IsPaid w
Pays (Asks q) = Unit {0}
Pays (Fires n c) = Unit {0}
Pays (Ends outcomes w) = IsPaid w
Pays (Throws why w) = IsPaid w
Pays (Halts k n w) = IsPaid w

abbrev pub MovesPay : Type 0
MovesPay = (site : Site) (triggers : Triggers) (run : SaveRun) (w : TxnState) → IsPaid w → Pays (move site triggers run w)
