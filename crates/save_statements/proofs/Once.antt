-- What came of a record is told once at the most, whatever a statement comes to.
use Rattle.std.specs.Prelude.{eqb}
use Rattle.std.proofs.Common.{◌≡◌, refl, ap, sym, subst, ◌∙◌, arith, ℕ, zero, suc, ◌+◌, ◌≤◌, Bool, true, false, List, [], ◌∷◌, ◌++◌, Option, None, Some}
use Rattle.platform_errors.specs.declared.record.RecordError.{RecordError}
use Rattle.platform_errors.specs.declared.thrown.Thrown.{Thrown}
use Rattle.apex_schema.specs.declared.schema.Object.{Object}
use Rattle.apex_requests.specs.declared.request.Op.{Op}
use Rattle.row_meaning.specs.Overlays.{Overlay}
use Rattle.save_meaning.specs.Sites.{Site}
use Rattle.save_meaning.specs.Results.{Stop, Res, Gives, Stops, bind, Holds}
use Rattle.save_meaning.specs.Transactions.{Keeps, set_overlay}
use Rattle.save_statements.specs.declared.pending.Act.{Act}
use Rattle.save_statements.specs.declared.pending.Manner.{Manner}
use Rattle.save_statements.specs.declared.pending.Record.{Record}
use Rattle.save_statements.specs.declared.statement.Placed.{Placed}
use Rattle.save_statements.specs.declared.statement.Told.{Told}
use Rattle.save_statements.specs.declared.statement.Chunk.{Chunk}
use Rattle.save_statements.specs.Phases.{Code}
use Rattle.save_statements.specs.Statements as St
use Rattle.save_statements.specs.Statements.{unplaced, told, first_failed, failed_in, left_over, given_up, most_attempts}
use Rattle.save_statements.proofs.Places.{times, places_told, places_of, places_in, times_append, told_append, told_le, parted_le, given_up_places}

module _ {S : Type 0} (keeps : Keeps S) (site : Site) (code : Code S) (op : Op) (by : Manner) (object : ℕ) where
  -- what is told has no place more often than these
  abbrev Within : List ℕ → List Told → S → Type 0
  Within ps ts s = (n : ℕ) → times n (places_told ts) ≤ times n ps

  abbrev Free : Stop Thrown → S → Type 0
  Free why s = Unit {0}

  any_then : {A B : Type 0} (ok : B → S → Type 0) (res : Res S Thrown A) (go : A → S → Res S Thrown B) → ((a : A) (s : S) → Holds ok Free (go a s)) → Holds ok Free (bind res go)
  any_then ok (Gives a s) go h = h a s
  any_then ok (Stops why s) go h = tt

  then_told : (ps qs : List ℕ) (ts : List Told) (res : Res S Thrown (List Told)) → ((n : ℕ) → times n (places_told ts) + times n ps ≤ times n qs) → Holds (Within ps) Free res →
      Holds (Within qs) Free (bind res (λ more s1. Gives (ts ++ more) s1))
  then_told ps qs ts (Gives more s) e h =
      λ n.
      let x : times n (places_told (ts ++ more)) ≡ times n (places_told ts) + times n (places_told more) = ap (times n) (told_append ts more) ∙ times_append n (places_told ts) (places_told more) in
      let y = e n in let z = h n in omega arith
  then_told ps qs ts (Stops why s) e h = tt

  once_settled : (f : Option (ℕ × RecordError)) (start : Overlay) (ts : List Told) (ps qs : List ℕ) (later : S → Res S Thrown (List Told)) (s : S) →
      ((n : ℕ) → times n (places_told ts) + times n ps ≤ times n qs) → ((s1 : S) → Holds (Within ps) Free (later s1)) → Holds (Within qs) Free (St.settle keeps site code op by object f start ts later s)
  once_settled (Some f) start ts ps qs later s e h = tt
  once_settled None start ts ps qs later s e h = then_told ps qs ts (later s) e (h s)

  once_whole : (o : Object) (start : Overlay) (cs : List Chunk) (s : S) → Holds (Within (places_in cs)) Free (St.all_or_none keeps site code op by object o start cs s)
  once_whole o start [] s = λ n. omega arith
  once_whole o start (c ∷ cs) s =
      any_then (Within (places_in (c ∷ cs))) (St.chunk keeps site code op by object c.act o (unplaced c.rows) s) _
      (λ rs s1.
      once_settled (first_failed (told c.rows rs)) start (told c.rows rs) (places_in cs) (places_in (c ∷ cs)) (St.all_or_none keeps site code op by object o start cs) s1
      (λ n. let x = told_le c.rows rs n in let y = times_append n (places_of c.rows) (places_in cs) in omega arith) (λ s2. once_whole o start cs s2))

  once_after : (fs : List Told) (n : ℕ) (act : Act) (o : Object) (start : Overlay) (rs : List Placed) (ds : List Record) (s : S) → failed_in (told rs ds) ≡ fs →
      ((qs : List Placed) (s1 : S) → Holds (Within (places_of qs)) Free (St.attempts keeps site code op by object n act o qs s1)) → (last : Bool) →
      Holds (Within (places_of rs)) Free (St.after keeps site code op by object fs last (St.attempts keeps site code op by object n act o) start rs (told rs ds) s)
  once_after [] n act o start rs ds s e again last = told_le rs ds
  once_after (f ∷ fs) n act o start rs ds s e again true = λ k. subst (λ ps. times k ps ≤ times k (places_of rs)) (sym (given_up_places (told rs ds))) (told_le rs ds k)
  once_after (f ∷ fs) n act o start rs ds s e again false =
      then_told (places_of (left_over rs (told rs ds))) (places_of rs) (f ∷ fs) (St.attempts keeps site code op by object n act o (left_over rs (told rs ds)) (set_overlay keeps start s))
      (λ k. subst (λ ts. times k (places_told ts) + times k (places_of (left_over rs (told rs ds))) ≤ times k (places_of rs)) e (parted_le rs ds k))
      (again (left_over rs (told rs ds)) (set_overlay keeps start s))

  once_attempts : (n : ℕ) (act : Act) (o : Object) (rs : List Placed) (s : S) → Holds (Within (places_of rs)) Free (St.attempts keeps site code op by object n act o rs s)
  once_attempts zero act o rs s = λ k. omega arith
  once_attempts (suc n) act o [] s = λ k. omega arith
  once_attempts (suc n) act o (r ∷ rs) s =
      any_then (Within (places_of (r ∷ rs))) (St.chunk keeps site code op by object act o (unplaced (r ∷ rs)) s) _
      (λ ds s1. once_after (failed_in (told (r ∷ rs) ds)) n act o (keeps.txn s).overlay (r ∷ rs) ds s1 refl (λ qs s2. once_attempts n act o qs s2) (eqb n 0))

  once_both : (ps qs : List ℕ) (res : Res S Thrown (List Told)) (go : S → Res S Thrown (List Told)) → Holds (Within ps) Free res → ((s : S) → Holds (Within qs) Free (go s)) →
      Holds (Within (ps ++ qs)) Free (bind res (λ ts s1. bind (go s1) (λ more s2. Gives (ts ++ more) s2)))
  once_both ps qs (Gives ts s) go h f = then_told qs (ps ++ qs) ts (go s) (λ n. let x = h n in let y = times_append n ps qs in omega arith) (f s)
  once_both ps qs (Stops why s) go h f = tt

  once_part : (o : Object) (cs : List Chunk) (s : S) → Holds (Within (places_in cs)) Free (St.in_part keeps site code op by object o cs s)
  once_part o [] s = λ n. omega arith
  once_part o (c ∷ cs) s =
      once_both (places_of c.rows) (places_in cs) (St.attempts keeps site code op by object most_attempts c.act o c.rows s) (λ s1. St.in_part keeps site code op by object o cs s1)
      (once_attempts most_attempts c.act o c.rows s) (λ s1. once_part o cs s1)

  pub once : (all : Bool) (o : Object) (cs : List Chunk) (s : S) → Holds (λ ts s1. (n : ℕ) → times n (places_told ts) ≤ times n (places_in cs)) (λ why s1. Unit {0}) (St.in_chunks keeps site code op by object all o cs s)
  once true o cs s = once_whole o (keeps.txn s).overlay cs s
  once false o cs s = once_part o cs s
