-- The moves of a statement come to what it means.
use Rattle.std.proofs.Math.Dec.{eqb-suc-zero}
use Rattle.std.proofs.Common.{◌≡◌, refl, ap, subst, ◌∙◌, ℕ, zero, suc, Bool, true, false, List, [], ◌∷◌, ◌++◌, length, Option, None, Some}
use Rattle.std.specs.Prelude.{eqb, pos, slice_get, slice_set}
use Rattle.apex_num.specs.declared.kind.LimitKind.TheVariants.{Steps}
use Rattle.platform_errors.specs.declared.record.RecordError.{RecordError}
use Rattle.platform_errors.specs.declared.thrown.Thrown.{Thrown}
use Rattle.platform_errors.specs.declared.thrown.Thrown.TheVariants as Throw
use Rattle.apex_schema.specs.declared.schema.Object.{Object}
use Rattle.apex_requests.specs.declared.request.Op.{Op}
use Rattle.row_meaning.specs.Overlays.{Overlay}
use Rattle.txn_overlay.specs.Journals.{kept, undone, saved_again}
use Rattle.save_meaning.specs.Sites.{Site}
use Rattle.save_meaning.specs.Results.{Stop, Leaves, Closes, Res, Gives, Stops, leaving, Holds}
use Rattle.save_meaning.specs.Transactions.{Txn, Keeps, IsKept, set_overlay}
use Rattle.save_meaning.specs.MoveLaws.{Alike}
use Rattle.save_meaning.specs.declared.run.TxnState.{TxnState}
use Rattle.save_statements.specs.declared.pending.Act.{Act}
use Rattle.save_statements.specs.declared.pending.Manner.{Manner}
use Rattle.save_statements.specs.declared.pending.Record.{Record}
use Rattle.save_statements.specs.declared.statement.Placed.{Placed}
use Rattle.save_statements.specs.declared.statement.RecordOutcome.{RecordOutcome}
use Rattle.save_statements.specs.declared.statement.Told.{Told}
use Rattle.save_statements.specs.declared.statement.Chunk.{Chunk}
use Rattle.save_statements.specs.declared.run.Stage.{Stage}
use Rattle.save_statements.specs.declared.run.Stage.TheVariants as St
use Rattle.save_statements.specs.declared.run.SaveRun.{SaveRun}
use Rattle.save_statements.specs.Phases.{Code, save_chunk}
use Rattle.save_statements.specs.Statements as Save
use Rattle.save_statements.specs.Statements.{placed, unplaced, chunks, told, first_failed, failed_in, left_over, given_up, in_order}
use Rattle.save_statements.specs.Moves.{Ends, Throws, marked, unmarked, taken_back, noted, known, settled, retried, move}
use Rattle.save_meaning.proofs.Holding.{bound, weaken}
use Rattle.save_statements.proofs.Driving.{Drives, Leads, leads_self, leads_on, alike_kept, Next, Closed, Stopped, goes_to, stays, plain, after_charge}
use Rattle.save_statements.proofs.Chunks.{chunk_at}

noted_append : (ts more : List Told) (results : List (Option RecordOutcome)) → noted (ts ++ more) results ≡ noted more (noted ts results)
noted_append [] more results = refl
noted_append (t ∷ ts) more results = noted_append ts more (slice_set results t.place (Some t.outcome))

pub both : {S E A : Type 0} (ok good : A → S → Type 0) (end free : Stop E → S → Type 0) (res : Res S E A) → Holds ok end res → Holds good free res → Holds (λ a s. ok a s × good a s) end res
both ok good end free (Gives a s) h g = (h, g)
both ok good end free (Stops why s) h g = h

module _ {S : Type 0} (keeps : Keeps S) (keeping : IsKept keeps) (site : Site) (code : Code S) (d : Drives keeps site code) (none : (n : ℕ) (rs : List Record) (s : S) → code.roll_up n rs s ≡ Gives rs s)
    (outer : List Overlay) (op : Op) (by : Manner) (object : ℕ) where
  abbrev pub Ended : Stop Thrown → S → Type 0
  Ended (Leaves t) s = (w : TxnState) → Alike outer w (keeps.txn s) → d.end (Leaves t) w s
  Ended (Closes f) s = Closed keeps keeping site code d f s

  abbrev pub Finished : List RecordOutcome → S → Type 0
  Finished outcomes s = (w : TxnState) → Alike outer w (keeps.txn s) → d.ok outcomes w s

  -- what came of the records, at their places
  abbrev Noted : List (Option RecordOutcome) → List Told → S → Type 0
  Noted results ts s = Finished (known (noted ts results)) s

  -- a chunk throws nothing
  chunk_part : (ok : List Record → S → Type 0) (res : Res S ⊥ (List Record)) → Holds ok Ended (leaving (λ e. absurd e) res) → Holds ok (Stopped keeps keeping site code d) res
  chunk_part ok (Gives a s) h = h
  chunk_part ok (Stops (Leaves e) s) h = absurd e
  chunk_part ok (Stops (Closes f) s) h = h

  pub throws_to : (run : SaveRun) (w v : TxnState) (s later : S) (why : Thrown) → Leads keeps s later → move site code.triggers run w ≡ Throws why v → d.end (Leaves why) v later → d.Runs run w s
  throws_to run w v s later why l is h = d.throws run w v s why l.by is l.tape (subst (λ z. d.end (Leaves why) v z) l.is h)

  pub ends_to : (run : SaveRun) (w v : TxnState) (s later : S) (outcomes : List RecordOutcome) → Leads keeps s later → move site code.triggers run w ≡ Ends outcomes v → d.ok outcomes v later → d.Runs run w s
  ends_to run w v s later outcomes l is h = d.ends run w v s outcomes l.by is l.tape (subst (λ z. d.ok outcomes v z) l.is h)

  abbrev pub run_of : Bool → List Chunk → Act → List Placed → ℕ → List (Option RecordOutcome) → Stage → SaveRun
  run_of all cs act rows left results stage =
      record { op = op; by = by; object = object; all = all; chunks = cs; act = act; rows = rows; left = left; results = results; stage = stage }

  -- the next chunk comes, whatever the last one was
  abbrev AtNext : Bool → List Chunk → List Overlay → List (Option RecordOutcome) → S → Type 0
  AtNext all cs saved results s = (act : Act) (rows : List Placed) (left : ℕ) → Next keeps keeping site code d saved (run_of all cs act rows left results St.Next) s

  -- what stays, and what is undone
  alike_unmarked : (start : Overlay) (w : TxnState) (t : Txn) → Alike (start ∷ outer) w t → Alike outer (unmarked true w) t
  alike_unmarked start w t a = record { overlay = ap kept a.overlay; minted = a.minted; counts = a.counts; eight = a.eight }

  alike_back : (start : Overlay) (w : TxnState) (s : S) → Alike (start ∷ outer) w (keeps.txn s) → Alike outer (taken_back w) (keeps.txn (set_overlay keeps start s))
  alike_back start w s a = alike_kept keeps keeping outer _ _ s (record { overlay = ap undone a.overlay; minted = a.minted; counts = a.counts; eight = a.eight })

  leads_back : (start : Overlay) (s : S) → Leads keeps s (set_overlay keeps start s)
  leads_back start s = leads_on keeps keeping s s _ (leads_self keeps keeping s) refl

  module _ (o : Object) (here : slice_get site.schema.objects object ≡ Some o) where
    -- ---- all or none

    module _ (start : Overlay) where
      whole_settles : (cs : List Chunk) (act : Act) (rows : List Placed) (left : ℕ) (results : List (Option RecordOutcome)) (rs : List Record) (s : S) (later : S → Res S Thrown (List Told)) →
          ((s1 : S) → Holds (Noted (noted (told rows rs) results)) Ended (later s1) → AtNext true cs (start ∷ outer) (noted (told rows rs) results) s1) →
          Holds (Noted results) Ended (Save.settle keeps site code op by object (first_failed (told rows rs)) start (told rows rs) later s) →
          Next keeps keeping site code d (start ∷ outer) (run_of true cs act rows left results (St.Settle rs)) s
      whole_settles cs act rows left results rs s later on post = cases (first_failed (told rows rs)) refl post where
        run : SaveRun
        run = run_of true cs act rows left results (St.Settle rs)

        ts : List Told
        ts = told rows rs

        cases : (f : Option (ℕ × RecordError)) → first_failed ts ≡ f → Holds (Noted results) Ended (Save.settle keeps site code op by object f start ts later s) → Next keeps keeping site code d (start ∷ outer) run s
        cases (Some f) e h =
            λ w a. throws_to run w (taken_back w) s (set_overlay keeps start s) (Throw.Dml op (pos f.0) f.1) (leads_back start s) (ap (λ x. settled x ts run w) e) (h (taken_back w) (alike_back start w s a))
        cases None e h =
            plain keeps keeping site code d (start ∷ outer) run (run_of true cs act rows left (noted ts results) St.Next) s (λ w. ap (λ x. settled x ts run w) e)
            (on s (weaken _ _ Ended (later s) (λ more s1 g. subst (λ x. Finished (known x) s1) (noted_append ts more results) g) (bound (Noted results) Ended (later s) (λ more s1. Gives (ts ++ more) s1) h)) act rows left)

      pub whole_at : (cs : List Chunk) (results : List (Option RecordOutcome)) (s : S) → Holds (Noted results) Ended (Save.all_or_none keeps site code op by object o start cs s) → AtNext true cs (start ∷ outer) results s
      whole_at [] results s post =
          λ act rows left w a.
          ends_to (run_of true [] act rows left results St.Next) w (unmarked true w) s s (known results) (leads_self keeps keeping s) refl (post (unmarked true w) (alike_unmarked start w (keeps.txn s) a))
      whole_at (c ∷ cs) results s post =
          λ act rows left.
          plain keeps keeping site code d (start ∷ outer) (run_of true (c ∷ cs) act rows left results St.Next) (run_of true cs c.act c.rows 2 results St.Begin) s (λ w. refl)
          (chunk_at keeps keeping site code d object o here (run_of true cs c.act c.rows 2 results St.Begin) refl (start ∷ outer) none (start ∷ outer) s (λ w. refl) (λ v a. a)
          (weaken _ _ (Stopped keeps keeping site code d) (save_chunk keeps site code c.act by object o (unplaced c.rows) s)
          (λ rs s1 h. whole_settles cs c.act c.rows 2 results rs s1 (Save.all_or_none keeps site code op by object o start cs) (λ s2 g. whole_at cs (noted (told c.rows rs) results) s2 g) h)
          (chunk_part _ (save_chunk keeps site code c.act by object o (unplaced c.rows) s) (bound (Noted results) Ended (Save.chunk keeps site code op by object c.act o (unplaced c.rows) s) _ post))))

    -- ---- in part

    module _ (cs : List Chunk) (act : Act) where
      -- what comes behind the attempts at a chunk
      abbrev Tried : List (Option RecordOutcome) → List Told → S → Type 0
      Tried results ts s = AtNext false cs outer (noted ts results) s

      module _ (rows : List Placed) (results : List (Option RecordOutcome)) (start : Overlay) (ds : List Record) (s : S) where
        abbrev settling : ℕ → SaveRun
        settling left = run_of false cs act rows left results (St.Settle ds)

        -- after the last attempt
        last_settles : (again : List Placed → S → Res S Thrown (List Told)) (fs : List Told) → failed_in (told rows ds) ≡ fs →
            Holds (Tried results) Ended (Save.after keeps site code op by object fs true again start rows (told rows ds) s) → Next keeps keeping site code d (start ∷ outer) (settling 0) s
        last_settles again [] e h =
            λ w a.
            stays keeps keeping site code d (settling 0) (run_of false cs act rows 0 (noted (told rows ds) results) St.Next) w (unmarked true w) s
            (ap (λ x. retried x 0 (told rows ds) (settling 0) w) e) (h act rows 0 (unmarked true w) (alike_unmarked start w (keeps.txn s) a))
        last_settles again (f ∷ fs) e h =
            λ w a.
            goes_to keeps keeping site code d (settling 0) (run_of false cs act rows 0 (noted (given_up (told rows ds)) results) St.Next) w (taken_back w) s (set_overlay keeps start s) (leads_back start s)
            (ap (λ x. retried x 0 (told rows ds) (settling 0) w) e) (h act rows 0 (taken_back w) (alike_back start w s a))

        -- after another one
        more_settles : (n : ℕ) (again : List Placed → S → Res S Thrown (List Told)) (fs : List Told) → failed_in (told rows ds) ≡ fs →
            ((qs : List Placed) (others : List (Option RecordOutcome)) (s1 : S) → Holds (Tried others) Ended (again qs s1) → Next keeps keeping site code d outer (run_of false cs act qs n others St.Begin) s1) →
            Holds (Tried results) Ended (Save.after keeps site code op by object fs false again start rows (told rows ds) s) → Next keeps keeping site code d (start ∷ outer) (settling (suc n)) s
        more_settles n again [] e rec h =
            λ w a.
            stays keeps keeping site code d (settling (suc n)) (run_of false cs act rows (suc n) (noted (told rows ds) results) St.Next) w (unmarked true w) s
            (ap (λ x. retried x (suc n) (told rows ds) (settling (suc n)) w) e) (h act rows (suc n) (unmarked true w) (alike_unmarked start w (keeps.txn s) a))
        more_settles n again (f ∷ fs) e rec h =
            λ w a.
            goes_to keeps keeping site code d (settling (suc n)) (run_of false cs act rest n (noted (f ∷ fs) results) St.Begin) w (taken_back w) s back (leads_back start s)
            (ap (λ x. retried x (suc n) (told rows ds) (settling (suc n)) w) e)
            (rec rest (noted (f ∷ fs) results) back
            (weaken _ _ Ended (again rest back) (λ more s1 g. subst (λ x. AtNext false cs outer x s1) (noted_append (f ∷ fs) more results) g) (bound (Tried results) Ended (again rest back) (λ more s1. Gives ((f ∷ fs) ++ more) s1) h))
            (taken_back w) (alike_back start w s a)) where
              rest : List Placed
              rest = left_over rows (told rows ds)

              back : S
              back = set_overlay keeps start s

      -- an attempt at these records
      attempt_at : (n : ℕ) (row : Placed) (more : List Placed) (results : List (Option RecordOutcome)) (s : S) →
          ((ds : List Record) (s1 : S) → Holds (Tried results) Ended (Save.after keeps site code op by object (failed_in (told (row ∷ more) ds)) (eqb n 0) (Save.attempts keeps site code op by object n act o) (keeps.txn s).overlay (row ∷ more) (told (row ∷ more) ds) s1) →
          Next keeps keeping site code d ((keeps.txn s).overlay ∷ outer) (run_of false cs act (row ∷ more) n results (St.Settle ds)) s1) →
          Holds (Tried results) Ended (Save.attempts keeps site code op by object (suc n) act o (row ∷ more) s) →
          Next keeps keeping site code d outer (run_of false cs act (row ∷ more) n results St.Begin) s
      attempt_at n row more results s settles post =
          chunk_at keeps keeping site code d object o here (run_of false cs act (row ∷ more) n results St.Begin) refl ((keeps.txn s).overlay ∷ outer) none outer s (λ w. refl) marks
          (weaken _ _ (Stopped keeps keeping site code d) (save_chunk keeps site code act by object o (unplaced (row ∷ more)) s) settles
          (chunk_part _ (save_chunk keeps site code act by object o (unplaced (row ∷ more)) s) (bound (Tried results) Ended (Save.chunk keeps site code op by object act o (unplaced (row ∷ more)) s) _ post))) where
            charged_s : S
            charged_s = after_charge keeps keeping site code d Steps (length (unplaced (row ∷ more))) s

            marks : (v : TxnState) → Alike outer v (keeps.txn charged_s) → Alike ((keeps.txn s).overlay ∷ outer) (marked true v) (keeps.txn charged_s)
            marks v a = record {
              overlay = ap saved_again a.overlay ∙ ap (λ x. record { now = (keeps.txn charged_s).overlay; saved = x ∷ outer }) (ap (λ (t : Txn). t.overlay) (keeping.same _ s));
              minted = a.minted;
              counts = a.counts;
              eight = a.eight;
            }

      attempts_at : (n : ℕ) (rows : List Placed) (results : List (Option RecordOutcome)) (s : S) → Holds (Tried results) Ended (Save.attempts keeps site code op by object (suc n) act o rows s) →
          Next keeps keeping site code d outer (run_of false cs act rows n results St.Begin) s
      attempts_at n [] results s post = plain keeps keeping site code d outer (run_of false cs act [] n results St.Begin) (run_of false cs act [] n results St.Next) s (λ w. refl) (post act [] n)
      attempts_at zero (row ∷ more) results s post =
          attempt_at 0 row more results s (λ ds s1 h. last_settles (row ∷ more) results (keeps.txn s).overlay ds s1 (Save.attempts keeps site code op by object 0 act o) (failed_in (told (row ∷ more) ds)) refl h) post
      attempts_at (suc n) (row ∷ more) results s post =
          attempt_at (suc n) row more results s
          (λ ds s1 h.
          more_settles (row ∷ more) results (keeps.txn s).overlay ds s1 n (Save.attempts keeps site code op by object (suc n) act o) (failed_in (told (row ∷ more) ds)) refl (λ qs others s2 g. attempts_at n qs others s2 g)
          (subst (λ last. Holds (Tried results) Ended (Save.after keeps site code op by object (failed_in (told (row ∷ more) ds)) last (Save.attempts keeps site code op by object (suc n) act o) (keeps.txn s).overlay (row ∷ more) (told (row ∷ more) ds) s1)) (eqb-suc-zero n) h)) post

    pub part_at : (cs : List Chunk) (results : List (Option RecordOutcome)) (s : S) → Holds (Noted results) Ended (Save.in_part keeps site code op by object o cs s) → AtNext false cs outer results s
    part_at [] results s post = λ act rows left w a. ends_to (run_of false [] act rows left results St.Next) w w s s (known results) (leads_self keeps keeping s) refl (post w a)
    part_at (c ∷ cs) results s post =
        λ act rows left.
        plain keeps keeping site code d outer (run_of false (c ∷ cs) act rows left results St.Next) (run_of false cs c.act c.rows 2 results St.Begin) s (λ w. refl)
        (attempts_at cs c.act 2 c.rows results s
        (weaken _ _ Ended (Save.attempts keeps site code op by object 3 c.act o c.rows s)
        (λ ts s1 h.
        part_at cs (noted ts results) s1
        (weaken _ _ Ended (Save.in_part keeps site code op by object o cs s1) (λ more s2 g. subst (λ x. Finished (known x) s2) (noted_append ts more results) g)
        (bound (Noted results) Ended (Save.in_part keeps site code op by object o cs s1) (λ more s2. Gives (ts ++ more) s2) h)))
        (bound (Noted results) Ended (Save.attempts keeps site code op by object 3 c.act o c.rows s) _ post)))
