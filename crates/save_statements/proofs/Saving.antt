-- The moves of a whole statement come to what it means.
use Rattle.std.proofs.Common.{◌≡◌, refl, ap, sym, subst, arith, ℕ, ◌≤◌, Bool, true, false, List, [], length, map, Option, None, Some}
use Rattle.std.specs.Prelude.{slice_get}
use Rattle.apex_num.specs.declared.kind.LimitKind.TheVariants.{Dml, Saved}
use Rattle.platform_errors.specs.declared.thrown.Thrown.TheVariants as Throw
use Rattle.apex_schema.specs.declared.schema.Object.{Object}
use Rattle.apex_requests.specs.declared.request.Op.{Op}
use Rattle.apex_requests.specs.declared.request.SaveRow.{SaveRow}
use Rattle.row_meaning.specs.Overlays.{Overlay}
use Rattle.txn_overlay.specs.Journals.{saved_again}
use Rattle.save_meaning.specs.Sites.{Site}
use Rattle.save_meaning.specs.Results.{Stop, Gives, bind, Holds}
use Rattle.platform_errors.specs.declared.thrown.Thrown.{Thrown}
use Rattle.save_statements.specs.declared.statement.RecordOutcome.{RecordOutcome}
use Rattle.save_meaning.specs.Transactions.{Keeps, IsKept, charge}
use Rattle.save_meaning.specs.Inserts.{is_double, first_again}
use Rattle.save_meaning.specs.MoveLaws.{Alike}
use Rattle.save_meaning.specs.declared.run.TxnState.{TxnState}
use Rattle.save_statements.specs.declared.pending.Act.TheVariants.{Inserting}
use Rattle.save_statements.specs.declared.pending.Manner.{Manner}
use Rattle.save_statements.specs.declared.pending.Record.{Record}
use Rattle.save_statements.specs.declared.statement.Chunk.{Chunk}
use Rattle.save_statements.specs.declared.statement.Told.{Told}
use Rattle.save_statements.specs.declared.run.Stage.TheVariants as St
use Rattle.save_statements.specs.declared.run.SaveRun.{SaveRun}
use Rattle.save_statements.specs.Phases.{Code}
use Rattle.save_statements.specs.Statements as Save
use Rattle.save_statements.specs.Statements.{placed, chunks, in_order}
use Rattle.save_statements.specs.Moves.{marked, none_yet, noted, known, at, begun, without_double, move, first_run}
use Rattle.save_meaning.proofs.Holding.{bound, weaken}
use Rattle.save_statements.proofs.Driving.{Drives, Leads, Next, goes_to, after_charge, leads_charge, charge_then, charge_next}
use Rattle.save_statements.proofs.Places.{times, places_told, places_in, noted_in_order, chunks_le, placed_once}
use Rattle.save_statements.proofs.Once.{once}
use Rattle.save_statements.proofs.Attempts.{both, Ended, Finished, run_of, throws_to, ends_to, whole_at, part_at}

module _ {S : Type 0} (keeps : Keeps S) (keeping : IsKept keeps) (site : Site) (code : Code S) (d : Drives keeps site code) (none : (n : ℕ) (rs : List Record) (s : S) → code.roll_up n rs s ≡ Gives rs s)
    (outer : List Overlay) (op : Op) (by : Manner) (object : ℕ) (rows : List SaveRow) where
  abbrev Ends : Stop Thrown → S → Type 0
  Ends why s = Ended keeps keeping site code d none outer op by object why s

  abbrev Whole : List RecordOutcome → S → Type 0
  Whole outcomes s = Finished keeps keeping site code d none outer op by object outcomes s

  abbrev cs : List Chunk
  cs = chunks op (placed 0 rows)

  -- what came of the records, at their places, is what came of them in their order
  at_places : (all : Bool) (o : Object) (s : S) → Holds Whole Ends (bind (Save.in_chunks keeps site code op by object all o cs s) (λ ts s1. Gives (in_order 0 rows ts) s1)) →
      Holds (λ ts s1. Whole (known (noted ts (none_yet rows))) s1) Ends (Save.in_chunks keeps site code op by object all o cs s)
  at_places all o s post =
      weaken _ _ Ends (Save.in_chunks keeps site code op by object all o cs s) ordered
      (both _ _ Ends (λ why s1. Unit {0}) (Save.in_chunks keeps site code op by object all o cs s)
      (bound Whole Ends (Save.in_chunks keeps site code op by object all o cs s) (λ ts s1. Gives (in_order 0 rows ts) s1) post)
      (once keeps site code op by object all o cs s)) where
        ordered : (ts : List Told) (s1 : S) → Whole (in_order 0 rows ts) s1 × ((n : ℕ) → times n (places_told ts) ≤ times n (places_in cs)) → Whole (known (noted ts (none_yet rows))) s1
        ordered ts s1 h = subst (λ x. Whole x s1) (sym (noted_in_order rows ts (λ n. let x = h.1 n in let y = chunks_le op (placed 0 rows) n in let z = placed_once 0 rows n in omega arith))) h.0

  -- the chunks, from the first one on
  begun_at : (all : Bool) (o : Object) → slice_get site.schema.objects object ≡ Some o → (s : S) → Holds Whole Ends (Save.of_object keeps site code op by object all (Some o) rows s) → (w : TxnState) → Alike outer w (keeps.txn s) →
      d.Runs (run_of keeps keeping site code d none outer op by object all cs Inserting [] 0 (none_yet rows) St.Next) (marked all w) s
  begun_at true o here s post w a =
      whole_at keeps keeping site code d none outer op by object o here (keeps.txn s).overlay cs (none_yet rows) s (at_places true o s post) Inserting [] 0 (marked true w)
      (record { overlay = ap saved_again a.overlay; minted = a.minted; counts = a.counts; eight = a.eight })
  begun_at false o here s post w a = part_at keeps keeping site code d none outer op by object o here cs (none_yet rows) s (at_places false o s post) Inserting [] 0 w a

  module _ (all : Bool) where
    abbrev charging : SaveRun
    charging = first_run op by object all rows

    abbrev counting : SaveRun
    counting = at charging (St.Count rows)

    -- the records are looked at, and the statement begins
    looks_at : (double : Bool) (again : Option (List ℕ)) (there : Option Object) (w v : TxnState) (s later : S) → slice_get site.schema.objects object ≡ there → Leads keeps s later →
        move site code.triggers counting w ≡ without_double double again v (begun there rows counting v) → Alike outer v (keeps.txn later) →
        Holds Whole Ends (Save.without_double keeps site code op by object double again (Save.of_object keeps site code op by object all there rows) later) → d.Runs counting w s
    looks_at true again there w v s later found l e a post = throws_to keeps keeping site code d none outer op by object counting w v s later Throw.DuplicateRecord l e (post v a)
    looks_at false (Some id) there w v s later found l e a post = throws_to keeps keeping site code d none outer op by object counting w v s later (Throw.DuplicateId id) l e (post v a)
    looks_at false None None w v s later found l e a post = ends_to keeps keeping site code d none outer op by object counting w v s later [] l e (post v a)
    looks_at false None (Some o) w v s later found l e a post =
        goes_to keeps keeping site code d counting (run_of keeps keeping site code d none outer op by object all cs Inserting [] 0 (none_yet rows) St.Next) w (marked all v) s later l e (begun_at all o found later post v a)

    abbrev double : Bool
    double = is_double (map (λ (r : SaveRow). r.key) rows)

    abbrev again : Option (List ℕ)
    again = first_again [] (map (λ (r : SaveRow). r.id) rows)

    abbrev there : Option Object
    there = slice_get site.schema.objects object

    count_at : (s : S) → Holds Whole Ends (bind (charge keeps Saved (length rows) s) (λ v s2. Save.without_double keeps site code op by object double again (Save.of_object keeps site code op by object all there rows) s2)) →
        Next keeps keeping site code d outer counting s
    count_at s post =
        charge_then keeps keeping site code d Ends (λ f s1 g. g) (λ s1. Holds Whole Ends (Save.without_double keeps site code op by object double again (Save.of_object keeps site code op by object all there rows) s1)) outer Saved (length rows) counting s
        (λ v. without_double double again v (begun there rows counting v)) (λ w. refl)
        (λ w v e a h. looks_at double again there w v s (after_charge keeps keeping site code d Saved (length rows) s) refl (leads_charge keeps keeping site code d Saved (length rows) s) e a h)
        (bound Whole Ends (charge keeps Saved (length rows) s) _ post)

    -- what holds behind the statement, wherever it comes to its end, holds of its moves
    pub save_at : (s : S) → Holds Whole Ends (Save.save keeps site code op by object all rows s) → Next keeps keeping site code d outer charging s
    save_at s post =
        charge_next keeps keeping site code d Ends (λ f s1 g. g) outer outer (λ v. v) Dml 1 charging counting s (λ w. refl) (λ v a. a)
        (weaken _ _ Ends (charge keeps Dml 1 s) (λ u s1 h. count_at s1 h) (bound Whole Ends (charge keeps Dml 1 s) _ post))
