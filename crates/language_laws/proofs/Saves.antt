-- Saves keep a request in order.
use Rattle.std.proofs.Common.{ℕ, zero, suc, Bool, true, false, List, [], ◌∷◌, ◌++◌, length, Option, None, Some, refl}
use Rattle.std.specs.Prelude.{eqb, slice_get}
use Rattle.apex_num.specs.declared.kind.LimitKind.TheVariants.{Dml, Saved}
use Rattle.apex_schema.specs.declared.schema.Object.{Object}
use Rattle.apex_requests.specs.declared.request.Op.{Op}
use Rattle.apex_requests.specs.declared.request.SaveRow.{SaveRow}
use Rattle.platform_errors.specs.declared.record.RecordError.{RecordError}
use Rattle.platform_errors.specs.declared.thrown.Thrown.{Thrown}
use Rattle.platform_errors.specs.declared.thrown.Thrown.TheVariants.{NullObject}
use Rattle.row_meaning.specs.Overlays.{Overlay}
use Rattle.save_meaning.specs.Results as R
use Rattle.save_meaning.specs.Results.{Gives, bind}
use Rattle.save_meaning.specs.Sites.{Site}
use Rattle.save_meaning.specs.Transactions.{charge, set_overlay}
use Rattle.save_statements.specs.Phases.{Code}
use Rattle.save_statements.specs.Statements as S
use Rattle.save_statements.specs.Statements.{given_up, left_over, unplaced}
use Rattle.save_statements.specs.declared.pending.Act.{Act}
use Rattle.save_statements.specs.declared.pending.Manner.{Manner}
use Rattle.save_statements.specs.declared.pending.Manner.TheVariants.{ByCode}
use Rattle.save_statements.specs.declared.statement.Chunk.{Chunk}
use Rattle.save_statements.specs.declared.statement.Placed.{Placed}
use Rattle.save_statements.specs.declared.statement.RecordOutcome.{RecordOutcome}
use Rattle.save_statements.specs.declared.statement.Told.{Told}
use Rattle.request_states.specs.States.{State, keeps, saved, thrown, with_heap}
use Rattle.request_states.specs.Statements.{name_records, rows_in, save_at, save_these}
use Rattle.typed_program.specs.declared.program.Program.{Program}
use Rattle.language_laws.proofs.Paid.{Paid, paid_gives, paid_puts, paid_bind, paid_before, freely, paid_charge, paid_leaving, paid_throws}
use Rattle.language_laws.proofs.Phases.{Orderly, paid_chunk}
use Rattle.language_laws.proofs.Worlds.{Sound, Later, later_same, later_kept}

-- ---- saves with whatever code around them that keeps a request in order

module _ (program : Program) (site : Site) (n : ℕ) (code : Code State) (orderly : Orderly program n code) (op : Op) (by : Manner) (object : ℕ) where
  abbrev SaveRes : Type 0 → Type 0
  SaveRes A = R.Res State Thrown A

  set_later : (start : Overlay) (s : State) → Sound s.world.txn.charges → Later program s.world (set_overlay keeps start s).world
  set_later start s h = later_kept program s.world _ h refl refl refl

  chunk : (act : Act) (o : Object) (rows : List SaveRow) → Paid program n (S.chunk keeps site code op by object act o rows)
  chunk act o rows = paid_leaving program n (λ e. absurd e) _ (paid_chunk program n site code orderly act by object o rows)

  -- ---- all or none

  settle : (w : Option (ℕ × RecordError)) (start : Overlay) (ts : List Told) (later : State → SaveRes (List Told)) → Paid program n later → Paid program n (S.settle keeps site code op by object w start ts later)
  settle (Some w) start ts later h = record { at = λ st k lt. record { holds = set_later start st k } }
  settle None start ts later h = paid_bind program n later (λ more s1. Gives (ts ++ more) s1) h (λ more. paid_gives program n (λ s. ts ++ more))

  all_or_none : (o : Object) (start : Overlay) (cs : List Chunk) → Paid program n (S.all_or_none keeps site code op by object o start cs)
  all_or_none o start [] = paid_gives program n (λ s. [])
  all_or_none o start (c ∷ cs) = paid_bind program n _ _ (chunk c.act o (unplaced c.rows)) (λ rs. settle _ start _ _ (all_or_none o start cs))

  -- ---- in part

  after : (failed : List Told) (last : Bool) (again : List Placed → State → SaveRes (List Told)) (start : Overlay) (rs : List Placed) (ts : List Told) →
      ((qs : List Placed) → Paid program n (again qs)) → Paid program n (S.after keeps site code op by object failed last again start rs ts)
  after [] last again start rs ts h = paid_gives program n (λ s. ts)
  after (f ∷ fs) true again start rs ts h = paid_puts program n (λ s. given_up ts) (set_overlay keeps start) (set_later start)
  after (f ∷ fs) false again start rs ts h =
      paid_bind program n (λ s. again (left_over rs ts) (set_overlay keeps start s)) (λ more s1. Gives ((f ∷ fs) ++ more) s1)
      (paid_before program n (set_overlay keeps start) (again (left_over rs ts)) (set_later start) (h (left_over rs ts)))
      (λ more. paid_gives program n (λ s. (f ∷ fs) ++ more))

  attempts : (m : ℕ) (act : Act) (o : Object) (rs : List Placed) → Paid program n (S.attempts keeps site code op by object m act o rs)
  attempts zero act o rs = paid_gives program n (λ s. [])
  attempts (suc m) act o [] = paid_gives program n (λ s. [])
  attempts (suc m) act o (r ∷ rs) = record {
    at = λ st h lt.
        (paid_bind program n (S.chunk keeps site code op by object act o (unplaced (r ∷ rs))) (λ ds s1.
        S.after keeps site code op by object (S.failed_in (S.told (r ∷ rs) ds)) (eqb m 0) (S.attempts keeps site code op by object m act o) st.world.txn.overlay (r ∷ rs) (S.told (r ∷ rs) ds) s1)
        (chunk act o (unplaced (r ∷ rs)))
        (λ ds. after _ (eqb m 0) _ st.world.txn.overlay (r ∷ rs) _ (attempts m act o))).at st h lt;
  }

  in_part : (o : Object) (cs : List Chunk) → Paid program n (S.in_part keeps site code op by object o cs)
  in_part o [] = paid_gives program n (λ s. [])
  in_part o (c ∷ cs) =
      paid_bind program n _ _ (attempts S.most_attempts c.act o c.rows)
      (λ ts. paid_bind program n (S.in_part keeps site code op by object o cs) (λ more s2. Gives (ts ++ more) s2) (in_part o cs) (λ more. paid_gives program n (λ s. ts ++ more)))

  -- ---- the statement

  in_chunks : (all : Bool) (o : Object) (cs : List Chunk) → Paid program n (S.in_chunks keeps site code op by object all o cs)
  in_chunks true o cs = record { at = λ st h lt. (all_or_none o st.world.txn.overlay cs).at st h lt }
  in_chunks false o cs = in_part o cs

  of_object : (all : Bool) (o : Option Object) (rows : List SaveRow) → Paid program n (S.of_object keeps site code op by object all o rows)
  of_object all None rows = paid_gives program n (λ s. [])
  of_object all (Some o) rows = paid_bind program n _ (λ ts s1. Gives (S.in_order 0 rows ts) s1) (in_chunks all o (S.chunks op (S.placed 0 rows))) (λ ts. paid_gives program n (λ s. S.in_order 0 rows ts))

  without_double : (b : Bool) (again : Option (List ℕ)) (go : State → SaveRes (List RecordOutcome)) → Paid program n go → Paid program n (S.without_double keeps site code op by object b again go)
  without_double true again go h = record { at = λ st k lt. record { holds = later_same program st.world k } }
  without_double false (Some id) go h = record { at = λ st k lt. record { holds = later_same program st.world k } }
  without_double false None go h = h

  paid_save : (all : Bool) (rows : List SaveRow) → Paid program n (S.save keeps site code op by object all rows)
  paid_save all rows =
      paid_bind program n (charge keeps Dml 1) _ (paid_charge program n Dml 1 (λ ones. refl))
      (λ u. paid_bind program n (charge keeps Saved (length rows)) _ (paid_charge program n Saved (length rows) (freely program))
      (λ v. without_double _ _ _ (of_object all (slice_get site.schema.objects object) rows)))

module _ (program : Program) (site : Site) (n : ℕ) (code : Code State) (orderly : Orderly program n code) where
  -- ---- saves of a program

  paid_save_at : (op : Op) (object : ℕ) (ps : List ℕ) → Paid program n (save_at site code op object ps)
  paid_save_at op object ps = record {
    at = λ st h lt.
        (paid_bind program n (λ s. saved (S.save keeps site code op (ByCode st.here.mode) object true (rows_in st.world.heap ps) s)) (λ outcomes s. Gives tt (with_heap (name_records ps outcomes s.world.heap) s))
        (paid_leaving program n thrown _ (paid_save program site n code orderly op (ByCode st.here.mode) object true (rows_in st.world.heap ps)))
        (λ outcomes. paid_puts program n (λ s. tt) (λ s. with_heap (name_records ps outcomes s.world.heap) s) (λ s k. later_kept program s.world _ k refl refl refl))).at st h lt;
  }

  pub paid_save_these : (op : Op) (r : Option (ℕ × List ℕ)) → Paid program n (save_these site code op r)
  paid_save_these op None = paid_throws program n NullObject
  paid_save_these op (Some r) = paid_save_at op r.0 r.1
