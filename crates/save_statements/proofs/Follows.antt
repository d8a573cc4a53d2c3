-- On every tape the moves of a statement come to what it means.
use Rattle.std.proofs.Common.{◌≡◌, refl, ap, subst, ◌∙◌, ℕ, suc, List, Some}
use Rattle.apex_rows.specs.declared.query.Answer.{Answer}
use Rattle.apex_requests.specs.declared.request.Context.{Context}
use Rattle.platform_errors.specs.declared.thrown.Thrown.{Thrown}
use Rattle.row_meaning.specs.Overlays.{Overlay}
use Rattle.save_meaning.specs.Sites.{Site}
use Rattle.save_meaning.specs.Results as Result
use Rattle.save_meaning.specs.Results.{Stop, Leaves, Closes, Res, Gives, Stops, leaves_as, Holds}
use Rattle.save_meaning.specs.Transactions.{Txn, IsKept}
use Rattle.save_meaning.specs.Laws.{alone}
use Rattle.save_meaning.specs.MoveLaws.{Alike}
use Rattle.save_meaning.specs.declared.run.TxnState.{TxnState}
use Rattle.save_statements.specs.declared.firing.Fired.{Fired}
use Rattle.save_statements.specs.declared.statement.RecordOutcome.{RecordOutcome}
use Rattle.save_statements.specs.declared.run.SaveRun.{SaveRun}
use Rattle.save_statements.specs.Phases.{Code}
use Rattle.save_statements.specs.Statements.{save}
use Rattle.save_statements.specs.Moves.{Move, Goes, Asks, Fires, Ends, Throws, Halts, move, given, came_back}
use Rattle.save_statements.specs.MoveLaws.{Ending, Gave, LeftWith, Closed, IsEnd, Firing, answered, after_firing, onward, moves, Agrees, MovesSave}
use Rattle.save_statements.proofs.Driving.{Drives}
use Rattle.save_statements.proofs.Attempts.{Ended, Finished}
use Rattle.save_statements.proofs.Saving.{save_at}

keeping : IsKept alone
keeping = record { same = λ t s. refl; twice = λ t u s. refl; itself = λ s. refl }

module _ (site : Site) (code : Code Txn) (firing : Firing) (agrees : Agrees code firing) (outer : List Overlay) (result : Res Txn Thrown (List RecordOutcome)) where
  abbrev Comes : SaveRun → TxnState → List Answer → Type 0
  Comes run w tape = (n : ℕ) × (e : Ending Thrown (List RecordOutcome)) × (moves site code.triggers firing n run w tape ≡ Some e) × IsEnd outer result e

  abbrev Runs : SaveRun → TxnState → Txn → Type 0
  Runs run w t = Comes run w t.tape

  abbrev ok : List RecordOutcome → TxnState → Txn → Type 0
  ok outcomes w t = IsEnd outer result (Gave outcomes w t.tape)

  abbrev end : Stop Thrown → TxnState → Txn → Type 0
  end (Closes f) w t = IsEnd outer result (Closed f w)
  end (Leaves why) w t = IsEnd outer result (LeftWith why w)

  -- one move more
  onto : (run : SaveRun) (w : TxnState) (tape : List Answer) (m : Move) (n : ℕ) (e : Ending Thrown (List RecordOutcome)) → move site code.triggers run w ≡ m →
      onward site code.triggers firing (moves site code.triggers firing n) m run w tape ≡ Some e → IsEnd outer result e → Comes run w tape
  onto run w tape m n e is h good = (suc n, e, ap (λ x. onward site code.triggers firing (moves site code.triggers firing n) x run w tape) is ∙ h, good)

  same_tape : (run : SaveRun) (w : TxnState) (a b : List Answer) → a ≡ b → Comes run w a → Comes run w b
  same_tape run w a b e h = subst (λ tape. Comes run w tape) e h

  -- a firing comes back, or ends all
  fired_on : (saved : List Overlay) (run : SaveRun) (w : TxnState) (tape : List Answer) (n : ℕ) (c : Context) (r : Res Txn ⊥ Fired) (e : Ending ⊥ Fired) → move site code.triggers run w ≡ Fires n c → firing n c w tape ≡ e →
      IsEnd saved r e →
      Holds (λ f s1. (v : TxnState) → Alike saved v s1 → Runs (came_back run f) v s1) (λ why s1. (inner : List Overlay) (v : TxnState) → Alike inner v s1 → end (leaves_as (λ x. absurd x) why) v s1) r → Comes run w tape
  fired_on saved run w tape n c (Gives f s1) (Gave g v more) is e i h =
      let k = h v i.1 in
      onto run w tape (Fires n c) k.0 k.1 is
      (ap (after_firing site code.triggers firing (moves site code.triggers firing k.0) run) e ∙ ap (λ x. moves site code.triggers firing k.0 (came_back run x) v more) i.0 ∙ ap (λ x. moves site code.triggers firing k.0 (came_back run f) v x) i.2 ∙ k.2) k.3
  fired_on saved run w tape n c (Gives f s1) (LeftWith x v) is e i h = absurd i
  fired_on saved run w tape n c (Gives f s1) (Closed x v) is e i h = absurd i
  fired_on saved run w tape n c (Stops (Leaves x) s1) y is e i h = absurd x
  fired_on saved run w tape n c (Stops (Closes f) s1) (Gave g v more) is e i h = absurd i
  fired_on saved run w tape n c (Stops (Closes f) s1) (LeftWith x v) is e i h = absurd i
  fired_on saved run w tape n c (Stops (Closes f) s1) (Closed g v) is e i h =
      onto run w tape (Fires n c) 0 (Closed f v) is (ap (after_firing site code.triggers firing (moves site code.triggers firing 0) run) e ∙ ap (λ x. Some (Closed x v)) i.0) (h i.1 v i.2)

  drives : Drives alone site code
  drives = record {
    Runs = Runs;
    ok = ok;
    end = end;
    goes = λ run next w v s t is tape h. let g = same_tape next v t.tape s.tape tape h in onto run w s.tape (Goes next v) g.0 g.1 is g.2 g.3;
    asks = λ run w s q a more t is tape later h.
        let g = same_tape (given run a) w t.tape more later h in
        onto run w s.tape (Asks q) g.0 g.1 is (ap (λ x. answered site code.triggers firing (λ r. moves site code.triggers firing g.0 r w) q run w x) tape ∙ g.2) g.3;
    needs = λ run w s q is tape h. onto run w s.tape (Asks q) 0 (Closed (Result.Needs q) w) is (ap (λ x. answered site code.triggers firing (λ r. moves site code.triggers firing 0 r w) q run w x) tape) h;
    fires = λ saved run w s n c is a h. fired_on saved run w s.tape n c (code.fire n c s) (firing n c w s.tape) is refl (agrees saved n c s w a) h;
    ends = λ run w v s outcomes t is tape h. onto run w s.tape (Ends outcomes v) 0 (Gave outcomes v s.tape) is refl (subst (λ x. IsEnd outer result (Gave outcomes v x)) tape h);
    throws = λ run w v s why t is tape h. onto run w s.tape (Throws why v) 0 (LeftWith why v) is refl h;
    halts = λ run w s k n is h. onto run w s.tape (Halts k n w) 0 (Closed (Result.Halts k n) w) is refl h;
  }

pub moves_save : MovesSave
unfolding drives
moves_save site code firing op by object all rows saved t w agrees none a =
    save_at alone keeping site code (drives site code firing agrees saved result) none saved op by object rows all t (outermost result refl) w a where
      result : Res Txn Thrown (List RecordOutcome)
      result = save alone site code op by object all rows t

      outermost : (r : Res Txn Thrown (List RecordOutcome)) → r ≡ result →
          Holds (Finished alone keeping site code (drives site code firing agrees saved result) none saved op by object) (Ended alone keeping site code (drives site code firing agrees saved result) none saved op by object) r
      outermost (Gives outcomes u) e = λ v b. subst (λ x. IsEnd saved x (Gave outcomes v u.tape)) e (refl, b, refl)
      outermost (Stops (Closes f) u) e = λ inner v b. subst (λ x. IsEnd saved x (Closed f v)) e (refl, inner, b)
      outermost (Stops (Leaves why) u) e = λ v b. subst (λ x. IsEnd saved x (LeftWith why v)) e (refl, b)
