-- What is to be shown of moves.
use Rattle.std.specs.Prelude.{◌≡◌, ℕ, zero, suc, Bool, List, [], ◌∷◌, Option, None, Some}
use Rattle.platform_errors.specs.declared.thrown.Thrown.{Thrown}
use Rattle.apex_rows.specs.declared.query.Question.{Question}
use Rattle.apex_rows.specs.declared.query.Answer.{Answer}
use Rattle.apex_requests.specs.declared.request.Context.{Context}
use Rattle.apex_requests.specs.declared.request.Op.{Op}
use Rattle.apex_requests.specs.declared.request.SaveRow.{SaveRow}
use Rattle.row_meaning.specs.Overlays.{Overlay}
use Rattle.save_meaning.specs.Sites.{Site}
use Rattle.save_meaning.specs.Results.{Finish, Halts as Halting, Needs, Leaves, Closes, Res, Gives, Stops}
use Rattle.save_meaning.specs.Transactions.{Txn}
use Rattle.save_meaning.specs.Laws.{alone}
use Rattle.save_meaning.specs.MoveLaws.{Alike}
use Rattle.save_meaning.specs.declared.run.TxnState.{TxnState}
use Rattle.save_statements.specs.declared.pending.Act.{Act}
use Rattle.save_statements.specs.declared.pending.Manner.{Manner}
use Rattle.save_statements.specs.declared.pending.Record.{Record}
use Rattle.save_statements.specs.declared.firing.Trigger.{Trigger}
use Rattle.save_statements.specs.declared.firing.Fired.{Fired}
use Rattle.save_statements.specs.declared.statement.RecordOutcome.{RecordOutcome}
use Rattle.save_statements.specs.declared.run.SaveRun.{SaveRun}
use Rattle.save_statements.specs.Phases.{Code}
use Rattle.save_statements.specs.Statements.{save}
use Rattle.save_statements.specs.Moves.{Move, Goes, Asks, Fires, Ends, Throws, Halts, move, given, came_back, first_run}

-- how a statement or a firing ends: with a value and the answers that are left; it leaves with something; or an end comes that
-- nothing sees
pub data Ending (E A : Type 0) : Type 0 where
  Gave : A → TxnState → List Answer → Ending E A
  LeftWith : E → TxnState → Ending E A
  Closed : Finish → TxnState → Ending E A

-- an ending is what a meaning comes to: the same value or end, and a state that stands for the meaning's
abbrev pub IsEnd : {E A : Type 0} → List Overlay → Res Txn E A → Ending E A → Type 0
IsEnd saved (Gives a t) (Gave found w tape) = (found ≡ a) × Alike saved w t × (tape ≡ t.tape)
IsEnd saved (Stops (Leaves e) t) (LeftWith found w) = (found ≡ e) × Alike saved w t
IsEnd saved (Stops (Closes f) t) (Closed found w) = (found ≡ f) × (inner : List Overlay) × Alike inner w t
IsEnd saved _ _ = ⊥

-- what fires a trigger of a number, on a state and the answers that are left
abbrev pub Firing : Type 0
Firing = ℕ → Context → TxnState → List Answer → Ending ⊥ Fired

module _ (site : Site) (triggers : ℕ → Act → Bool → List Trigger) (firing : Firing) where
  abbrev pub answered : (SaveRun → List Answer → Option (Ending Thrown (List RecordOutcome))) → Question → SaveRun → TxnState → List Answer → Option (Ending Thrown (List RecordOutcome))
  answered more q run w [] = Some (Closed (Needs q) w)
  answered more q run w (a ∷ tape) = more (given run a) tape

  abbrev pub after_firing : (SaveRun → TxnState → List Answer → Option (Ending Thrown (List RecordOutcome))) → SaveRun → Ending ⊥ Fired → Option (Ending Thrown (List RecordOutcome))
  after_firing more run (Gave f v tape) = more (came_back run f) v tape
  after_firing more run (LeftWith e v) = None
  after_firing more run (Closed f v) = Some (Closed f v)

  abbrev pub onward : (SaveRun → TxnState → List Answer → Option (Ending Thrown (List RecordOutcome))) → Move → SaveRun → TxnState → List Answer → Option (Ending Thrown (List RecordOutcome))
  onward more (Goes next v) run w tape = more next v tape
  onward more (Asks q) run w tape = answered (λ r. more r w) q run w tape
  onward more (Fires n c) run w tape = after_firing more run (firing n c w tape)
  onward more (Ends outcomes v) run w tape = Some (Gave outcomes v tape)
  onward more (Throws why v) run w tape = Some (LeftWith why v)
  onward more (Halts k n v) run w tape = Some (Closed (Halting k n) v)

  -- what at most so many moves come to on a tape
  abbrev pub moves : ℕ → SaveRun → TxnState → List Answer → Option (Ending Thrown (List RecordOutcome))
  moves zero run w tape = None
  moves (suc n) run w tape = onward (moves n) (move site triggers run w) run w tape

-- triggers fire as the code says that they do
abbrev pub Agrees : Code Txn → Firing → Type 0
Agrees code firing = (saved : List Overlay) (n : ℕ) (c : Context) (t : Txn) (w : TxnState) → Alike saved w t → IsEnd saved (code.fire n c t) (firing n c w t.tape)

-- no record has roll-ups
abbrev pub HasNoRollUps : Code Txn → Type 0
HasNoRollUps code = (object : ℕ) (rs : List Record) (t : Txn) → code.roll_up object rs t ≡ Gives rs t

-- on every tape the moves of a statement come to what it means, where its triggers fire as the code says
abbrev pub MovesSave : Type 0
MovesSave =
    (site : Site) (code : Code Txn) (firing : Firing) (op : Op) (by : Manner) (object : ℕ) (all : Bool) (rows : List SaveRow) (saved : List Overlay) (t : Txn) (w : TxnState) →
    Agrees code firing → HasNoRollUps code → Alike saved w t →
    (n : ℕ) × (e : Ending Thrown (List RecordOutcome)) × (moves site code.triggers firing n (first_run op by object all rows) w t.tape ≡ Some e) × IsEnd saved (save alone site code op by object all rows t) e
