-- What is said of a statement on its way is passed back from each move to the one before.
use Rattle.std.proofs.Common.{◌≡◌, refl, ap, sym, subst, ◌∙◌, ℕ, ◌+◌, Bool, true, false, List, [], ◌∷◌, ◌++◌, append_assoc, append-nil}
use Rattle.std.specs.Prelude.{leb}
use Rattle.std.proofs.lemmas.List.{length-set}
use Rattle.apex_num.specs.declared.kind.LimitKind.{LimitKind}
use Rattle.limit_meter.specs.Charges.{Charged, limit_of, fits, count_of, with_count}
use Rattle.limit_meter.proofs.Counted.{counts_charge}
use Rattle.platform_errors.specs.declared.thrown.Thrown.{Thrown}
use Rattle.apex_rows.specs.declared.query.Question.{Question}
use Rattle.apex_rows.specs.declared.query.Answer.{Answer}
use Rattle.apex_requests.specs.declared.request.Context.{Context}
use Rattle.row_meaning.specs.Overlays.{Overlay}
use Rattle.txn_overlay.specs.Journals.{Layers}
use Rattle.save_meaning.specs.Sites.{Site}
use Rattle.save_meaning.specs.Results as Result
use Rattle.save_meaning.specs.Results.{Finish, Stop, Leaves, Closes, Res, Gives, Stops, bind, leaves_as, Holds}
use Rattle.save_meaning.specs.Transactions.{Txn, Keeps, IsKept, charge_if, charge, answered}
use Rattle.save_meaning.specs.MoveLaws.{Alike}
use Rattle.save_meaning.specs.declared.run.TxnState.{TxnState}
use Rattle.store_inquiries.specs.Inquiries.{Inquiry, Found, Asked, inquire}
use Rattle.save_statements.specs.declared.pending.Record.{Record}
use Rattle.save_statements.specs.declared.statement.RecordOutcome.{RecordOutcome}
use Rattle.save_statements.specs.declared.run.Replayed.{Replayed}
use Rattle.save_statements.specs.declared.run.Replayed.TheVariants.{Came, Wants}
use Rattle.save_statements.specs.declared.run.Stage.{Stage}
use Rattle.save_statements.specs.declared.run.SaveRun.{SaveRun}
use Rattle.save_statements.specs.Inquiries.{replayed}
use Rattle.save_statements.specs.Phases.{Code}
use Rattle.save_statements.specs.Moves.{Move, Goes, Asks, Fires, Ends, Throws, Halts, charged_if, charged, at, replays, move, given, came_back}

-- a charge more on both sides
pub alike_charged : (saved : List Overlay) (w : TxnState) (t : Txn) (k : LimitKind) (n : ℕ) → Alike saved w t →
    Alike saved (record w { meter = with_count w.meter k (count_of w.meter k + n) }) (record t { charges = Charged k n ∷ t.charges })
alike_charged saved w t k n a = record {
  overlay = a.overlay;
  minted = a.minted;
  counts = counts_charge t.charges w.meter k n a.eight a.counts;
  eight = length-set w.meter _ _ ∙ a.eight;
}

module _ {S : Type 0} (keeps : Keeps S) (site : Site) (code : Code S) where
  -- what is said of a run (Runs), of its end with what came of its records (ok), and of another end
  pub record Drives : Type 1 where
    pub Runs : SaveRun → TxnState → S → Type 0
    pub ok : List RecordOutcome → TxnState → S → Type 0
    pub end : Stop Thrown → TxnState → S → Type 0
    pub goes : (run next : SaveRun) (w v : TxnState) (s : S) (t : Txn) → move site code.triggers run w ≡ Goes next v → t.tape ≡ (keeps.txn s).tape → Runs next v (keeps.with_txn t s) → Runs run w s
    pub asks : (run : SaveRun) (w : TxnState) (s : S) (q : Question) (a : Answer) (more : List Answer) (t : Txn) → move site code.triggers run w ≡ Asks q → (keeps.txn s).tape ≡ a ∷ more → t.tape ≡ more →
        Runs (given run a) w (keeps.with_txn t s) → Runs run w s
    pub needs : (run : SaveRun) (w : TxnState) (s : S) (q : Question) → move site code.triggers run w ≡ Asks q → (keeps.txn s).tape ≡ [] → end (Closes (Result.Needs q)) w s → Runs run w s
    pub fires : (saved : List Overlay) (run : SaveRun) (w : TxnState) (s : S) (n : ℕ) (c : Context) → move site code.triggers run w ≡ Fires n c → Alike saved w (keeps.txn s) →
        Holds (λ f s1. (v : TxnState) → Alike saved v (keeps.txn s1) → Runs (came_back run f) v s1)
        (λ why s1. (inner : List Overlay) (v : TxnState) → Alike inner v (keeps.txn s1) → end (leaves_as (λ e. absurd e) why) v s1) (code.fire n c s) → Runs run w s
    pub ends : (run : SaveRun) (w v : TxnState) (s : S) (outcomes : List RecordOutcome) (t : Txn) → move site code.triggers run w ≡ Ends outcomes v → t.tape ≡ (keeps.txn s).tape → ok outcomes v (keeps.with_txn t s) → Runs run w s
    pub throws : (run : SaveRun) (w v : TxnState) (s : S) (why : Thrown) (t : Txn) → move site code.triggers run w ≡ Throws why v → t.tape ≡ (keeps.txn s).tape → end (Leaves why) v (keeps.with_txn t s) → Runs run w s
    pub halts : (run : SaveRun) (w : TxnState) (s : S) (k : LimitKind) (n : ℕ) → move site code.triggers run w ≡ Halts k n w → end (Closes (Result.Halts k n)) w s → Runs run w s

-- a state of a request that only this part of another differs from, with the answers that are left there
pub record Leads {S : Type 0} (keeps : Keeps S) (s later : S) : Type 0 where
  pub by : Txn
  pub is : later ≡ keeps.with_txn by s
  pub tape : by.tape ≡ (keeps.txn s).tape

module _ {S : Type 0} (keeps : Keeps S) (keeping : IsKept keeps) where
  pub leads_self : (s : S) → Leads keeps s s
  leads_self s = record { by = keeps.txn s; is = sym (keeping.itself s); tape = refl }

  pub leads_on : (s s1 : S) (t : Txn) → Leads keeps s s1 → t.tape ≡ (keeps.txn s1).tape → Leads keeps s (keeps.with_txn t s1)
  leads_on s s1 t l e = record {
    by = t;
    is = ap (λ x. keeps.with_txn t x) l.is ∙ keeping.twice t l.by s;
    tape = e ∙ ap (λ x. (keeps.txn x).tape) l.is ∙ ap (λ (x : Txn). x.tape) (keeping.same l.by s) ∙ l.tape;
  }

  -- a part that a state keeps is what was put there
  pub alike_kept : (saved : List Overlay) (w : TxnState) (t : Txn) (s : S) → Alike saved w t → Alike saved w (keeps.txn (keeps.with_txn t s))
  alike_kept saved w t s a = subst (λ x. Alike saved w x) (sym (keeping.same t s)) a

module _ {S : Type 0} (keeps : Keeps S) (keeping : IsKept keeps) (site : Site) (code : Code S) (d : Drives keeps site code) where
  -- the statement goes on from here, with these overlays to go back to
  abbrev pub Next : List Overlay → SaveRun → S → Type 0
  Next saved run s = (w : TxnState) → Alike saved w (keeps.txn s) → d.Runs run w s

  abbrev pub Closed : Finish → S → Type 0
  Closed f s = (inner : List Overlay) (w : TxnState) → Alike inner w (keeps.txn s) → d.end (Closes f) w s

  -- a part that throws nothing stops
  abbrev pub Stopped : Stop ⊥ → S → Type 0
  Stopped (Leaves e) s = Unit {0}
  Stopped (Closes f) s = Closed f s

  -- a move to a state that only this part differs from
  pub goes_to : (run next : SaveRun) (w v : TxnState) (s later : S) → Leads keeps s later → move site code.triggers run w ≡ Goes next v → d.Runs next v later → d.Runs run w s
  goes_to run next w v s later l is h = d.goes run next w v s l.by is l.tape (subst (λ z. d.Runs next v z) l.is h)

  pub stays : (run next : SaveRun) (w v : TxnState) (s : S) → move site code.triggers run w ≡ Goes next v → d.Runs next v s → d.Runs run w s
  stays run next w v s is h = goes_to run next w v s s (leads_self keeps keeping s) is h

  -- a move that changes nothing else
  pub plain : (saved : List Overlay) (run next : SaveRun) (s : S) → ((w : TxnState) → move site code.triggers run w ≡ Goes next w) → Next saved next s → Next saved run s
  plain saved run next s is h w a = stays run next w w s (is w) (h w a)

  -- ---- charges

  abbrev pub after_charge : LimitKind → ℕ → S → S
  after_charge k n s = keeps.with_txn (record (keeps.txn s) { charges = Charged k n ∷ (keeps.txn s).charges }) s

  pub leads_charge : (k : LimitKind) (n : ℕ) (s : S) → Leads keeps s (after_charge k n s)
  leads_charge k n s = leads_on keeps keeping s s _ (leads_self keeps keeping s) refl

  -- both charge: the meter has room exactly where the list of charges has
  pub charge_then : {E : Type 0} (stop : Stop E → S → Type 0) → ((f : Finish) (s1 : S) → stop (Closes f) s1 → Closed f s1) → (After : S → Type 0) →
      (saved : List Overlay) (k : LimitKind) (n : ℕ) (run : SaveRun) (s : S) (go : TxnState → Move) → ((w : TxnState) → move site code.triggers run w ≡ charged k n w go) →
      ((w v : TxnState) → move site code.triggers run w ≡ go v → Alike saved v (keeps.txn (after_charge k n s)) → After (after_charge k n s) → d.Runs run w s) →
      Holds (λ u s1. After s1) stop (charge keeps {E = E} k n s) → Next saved run s
  charge_then {E = E} stop closed After saved k n run s go is then post w a =
      by (fits k n (keeps.txn s).charges) (ap (λ c. leb (c + n) (limit_of k)) (a.counts.each k)) post where
        by : (b : Bool) → leb (count_of w.meter k + n) (limit_of k) ≡ b → Holds (λ u s1. After s1) stop (charge_if keeps {E = E} b k n s) → d.Runs run w s
        by true e h =
            then w (record w { meter = with_count w.meter k (count_of w.meter k + n) }) (is w ∙ ap (λ b. charged_if b k n w go) e)
            (alike_kept keeps keeping saved _ _ s (alike_charged saved w (keeps.txn s) k n a)) h
        by false e h = d.halts run w s k (limit_of k + 1) (is w ∙ ap (λ b. charged_if b k n w go) e) (closed _ s h saved w a)

  -- and what follows is the next move, on a state that may be changed so
  pub charge_next : {E : Type 0} (stop : Stop E → S → Type 0) → ((f : Finish) (s1 : S) → stop (Closes f) s1 → Closed f s1) →
      (saved after : List Overlay) (change : TxnState → TxnState) (k : LimitKind) (n : ℕ) (run next : SaveRun) (s : S) →
      ((w : TxnState) → move site code.triggers run w ≡ charged k n w (λ v. Goes next (change v))) →
      ((v : TxnState) → Alike saved v (keeps.txn (after_charge k n s)) → Alike after (change v) (keeps.txn (after_charge k n s))) →
      Holds (λ u s1. Next after next s1) stop (charge keeps {E = E} k n s) → Next saved run s
  charge_next stop closed saved after change k n run next s is changes post =
      charge_then stop closed (λ s1. Next after next s1) saved k n run s (λ v. Goes next (change v)) is
      (λ w v e a h. goes_to run next w (change v) s (after_charge k n s) (leads_charge k n s) e (h (change v) (changes v a))) post

  -- ---- questions: an inquiry is made again on all its answers, each time one more is there

  module _ (saved : List Overlay) (r : SaveRun) (stage : List Answer → Stage) (then : List Record → Stage) (q : Overlay → Inquiry (List Record)) (v : Overlay) where
    abbrev on : List Answer → SaveRun
    on answers = at r (stage answers)

    module _ (is : (w : TxnState) (answers : List Answer) → move site code.triggers (on answers) w ≡ replays (replayed (q w.overlay.now) answers) then (on answers) w)
        (takes : (answers : List Answer) (a : Answer) → given (on answers) a ≡ on (answers ++ a ∷ [])) where
      -- what the inquiry comes to on some answers, where it is known what it comes to on the tape's
      comes : (answers : List Answer) (s : S) (w : TxnState) (x : Replayed) → replayed (q v) (answers ++ []) ≡ x → (keeps.txn s).overlay ≡ v → Alike saved w (keeps.txn s) →
          move site code.triggers (on answers) w ≡ replays x then (on answers) w
      comes answers s w x e o a =
          is w answers
          ∙ ap (λ z. replays (replayed (q z) answers) then (on answers) w) (ap (λ (j : Layers). j.now) a.overlay ∙ o)
          ∙ ap (λ z. replays z then (on answers) w) (ap (λ z. replayed (q v) z) (sym (append-nil answers)) ∙ e)

      one_more : (question : Question) (answers : List Answer) (s : S) (next : Answer → Inquiry (List Record)) →
          replayed (q v) (answers ++ []) ≡ Wants question → (keeps.txn s).overlay ≡ v →
          ((a : Answer) (s1 : S) → (keeps.txn s1).overlay ≡ v → Holds (λ rs s2. Next saved (at r (then rs)) s2) Stopped (inquire keeps (next a) s1) → Next saved (on (answers ++ a ∷ [])) s1) →
          Holds (λ rs s1. Next saved (at r (then rs)) s1) Stopped (inquire keeps (Asked question next) s) → Next saved (on answers) s
      one_more question answers s next e o rec post w a = by (keeps.txn s).tape refl post where
        by : (tape : List Answer) → (keeps.txn s).tape ≡ tape →
            Holds (λ rs s1. Next saved (at r (then rs)) s1) Stopped (bind (answered keeps question tape s) (λ b s1. inquire keeps (next b) s1)) → d.Runs (on answers) w s
        by [] f h = d.needs (on answers) w s question (comes answers s w (Wants question) e o a) f (h saved w a)
        by (b ∷ more) f h =
            d.asks (on answers) w s question b more (record (keeps.txn s) { tape = more }) (comes answers s w (Wants question) e o a) f refl
            (subst (λ z. d.Runs z w (keeps.with_txn (record (keeps.txn s) { tape = more }) s)) (sym (takes answers b))
            (rec b (keeps.with_txn (record (keeps.txn s) { tape = more }) s) (ap (λ (t : Txn). t.overlay) (keeping.same _ s) ∙ o) h w
            (alike_kept keeps keeping saved w (record (keeps.txn s) { tape = more }) s (record { overlay = a.overlay; minted = a.minted; counts = a.counts; eight = a.eight }))))

      pub replay_next : (rest : Inquiry (List Record)) (answers : List Answer) (s : S) → ((more : List Answer) → replayed (q v) (answers ++ more) ≡ replayed rest more) → (keeps.txn s).overlay ≡ v →
          Holds (λ rs s1. Next saved (at r (then rs)) s1) Stopped (inquire keeps rest s) → Next saved (on answers) s
      replay_next (Found rs) answers s e o post = λ w a. stays (on answers) (at r (then rs)) w w s (comes answers s w (Came rs) (e []) o a) (post w a)
      replay_next (Asked question next) answers s e o post =
          one_more question answers s next (e []) o
          (λ a s1 f h. replay_next (next a) (answers ++ a ∷ []) s1 (λ more. ap (λ z. replayed (q v) z) (append_assoc answers (a ∷ []) more) ∙ e (a ∷ more)) f h) post
