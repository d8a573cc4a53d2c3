-- A save charges, and leaves no more to charge.
use Rattle.std.proofs.Common.{◌≡◌, ℕ, zero, suc, ◌+◌, ◌<◌, ◌≤◌, Bool, true, false, List, [], ◌∷◌, length, map, Option, Some, None, refl, ap, ◌∙◌, arith, le_refl, length-set}
use Rattle.std.specs.Prelude.{not, leb, slice_get}
use Rattle.apex_num.specs.declared.kind.LimitKind.{LimitKind}
use Rattle.apex_num.specs.declared.kind.LimitKind.TheVariants.{Alloc, Dml, Saved, Steps}
use Rattle.apex_requests.specs.declared.request.SaveRow.{SaveRow}
use Rattle.apex_schema.specs.declared.schema.Object.{Object}
use Rattle.limit_meter.specs.Charges.{count_of, limit_of, place_of, with_count}
use Rattle.platform_errors.specs.declared.record.RecordError.{RecordError}
use Rattle.save_meaning.specs.Inserts.{first_again, is_double}
use Rattle.save_meaning.specs.Sites.{Site}
use Rattle.save_meaning.specs.declared.run.TxnState.{TxnState}
use Rattle.save_measures.specs.Measure.{Triggers}
use Rattle.save_statements.specs.Checks.{refer, validate}
use Rattle.save_statements.specs.Inquiries.{replayed}
use Rattle.save_statements.specs.Loading.{load}
use Rattle.save_statements.specs.Moves.{Move, Goes, Asks, Fires, Ends, Throws, Halts, begin, begun, behind, charged, charged_if, entered, fire, marked, move_in, next, replays, retried, settle, settled, started, unmarked, with_object, without_double, write, write_one}
use Rattle.save_statements.specs.Records.{going}
use Rattle.save_statements.specs.Statements.{failed_in, first_failed, told, unplaced}
use Rattle.save_statements.specs.declared.firing.Entry.{Entry}
use Rattle.save_statements.specs.declared.firing.Trigger.{Trigger}
use Rattle.save_statements.specs.declared.pending.Act.{Act}
use Rattle.save_statements.specs.declared.pending.Act.TheVariants.{Inserting, Updating, Deleting}
use Rattle.save_statements.specs.declared.pending.Pending.{Pending}
use Rattle.save_statements.specs.declared.pending.Record.{Record}
use Rattle.save_statements.specs.declared.pending.Record.TheVariants.{Going, Wrong}
use Rattle.save_statements.specs.declared.run.Phase.{Phase}
use Rattle.save_statements.specs.declared.run.Phase.TheVariants as P
use Rattle.save_statements.specs.declared.run.Replayed.{Replayed}
use Rattle.save_statements.specs.declared.run.Replayed.TheVariants.{Came, Wants}
use Rattle.save_statements.specs.declared.run.SaveRun.{SaveRun}
use Rattle.save_statements.specs.declared.run.Stage.{Stage}
use Rattle.save_statements.specs.declared.run.Stage.TheVariants as S
use Rattle.save_statements.specs.declared.statement.Chunk.{Chunk}
use Rattle.save_statements.specs.declared.statement.Placed.{Placed}
use Rattle.save_statements.specs.declared.statement.Told.{Told}
use Rattle.program_weights.proofs.Lefts.{grows, place_small}

-- no less is charged
pub record More (w v : TxnState) : Type 0 where
  pub eight : length v.meter ≡ 8
  pub steps : count_of w.meter Steps ≤ count_of v.meter Steps
  pub alloc : count_of w.meter Alloc ≤ count_of v.meter Alloc

pub more_same : (w : TxnState) → length w.meter ≡ 8 → More w w
more_same w e = record { eight = e; steps = le_refl (count_of w.meter Steps); alloc = le_refl (count_of w.meter Alloc) }

pub more_more : (u v w : TxnState) → More u v → More v w → More u w
more_more u v w g h =
    let a = g.steps in
    let b = g.alloc in
    let c = h.steps in
    let d = h.alloc in record { eight = h.eight; steps = omega arith; alloc = omega arith }

abbrev charging : LimitKind → ℕ → TxnState → TxnState
charging k n w = record w { meter = with_count w.meter k (count_of w.meter k + n) }

pub more_charged : (k : LimitKind) (n : ℕ) (w : TxnState) → length w.meter ≡ 8 → More w (charging k n w)
more_charged k n w e =
    let s = place_small k in
    let lt : place_of k < length w.meter = omega arith in record { eight = length-set w.meter _ _ ∙ e; steps = grows w.meter k Steps n lt; alloc = grows w.meter k Alloc n lt }

-- where the move goes on or ends, no less is charged
abbrev pub Charged : TxnState → Move → Type 0
Charged w (Goes r v) = More w v
Charged w (Asks q) = Unit {0}
Charged w (Fires n c) = Unit {0}
Charged w (Ends outcomes v) = More w v
Charged w (Throws t v) = More w v
Charged w (Halts k n v) = Unit {0}

-- behind what is charged already
charged_on : (w v : TxnState) (m : Move) → More w v → Charged v m → Charged w m
charged_on w v (Goes r u) g h = more_more w v u g h
charged_on w v (Asks q) g h = tt
charged_on w v (Fires n c) g h = tt
charged_on w v (Ends outcomes u) g h = more_more w v u g h
charged_on w v (Throws t u) g h = more_more w v u g h
charged_on w v (Halts k n u) g h = tt

charged_more : (k : LimitKind) (n : ℕ) (w : TxnState) (go : TxnState → Move) → length w.meter ≡ 8 → ((v : TxnState) → length v.meter ≡ 8 → Charged v (go v)) → Charged w (charged k n w go)
charged_more k n w go e h = by_room (leb (count_of w.meter k + n) (limit_of k))
  where
    by_room : (b : Bool) → Charged w (charged_if b k n w go)
    by_room true = let g = more_charged k n w e in charged_on w (charging k n w) (go (charging k n w)) g (h (charging k n w) g.eight)
    by_room false = tt

-- another overlay, and more Ids, charge nothing
same : (w v : TxnState) → v.meter ≡ w.meter → length w.meter ≡ 8 → More w v
same w v e g = record {
  eight = ap length e ∙ g;
  steps = let x : count_of v.meter Steps ≡ count_of w.meter Steps = ap (λ m. count_of m Steps) e in omega arith;
  alloc = let x : count_of v.meter Alloc ≡ count_of w.meter Alloc = ap (λ m. count_of m Alloc) e in omega arith;
}

marked_more : (b : Bool) (w : TxnState) → length w.meter ≡ 8 → More w (marked b w)
marked_more true w e = same w _ refl e
marked_more false w e = more_same w e

unmarked_more : (b : Bool) (w : TxnState) → length w.meter ≡ 8 → More w (unmarked b w)
unmarked_more true w e = same w _ refl e
unmarked_more false w e = more_same w e

-- ---- how a statement and its chunks begin

begun_more : (o : Option Object) (rows : List SaveRow) (run : SaveRun) (w : TxnState) → length w.meter ≡ 8 → Charged w (begun o rows run w)
begun_more None rows run w e = more_same w e
begun_more (Some o) rows run w e = marked_more run.all w e

double_more : (b : Bool) (again : Option (List ℕ)) (w : TxnState) (go : Move) → length w.meter ≡ 8 → Charged w go → Charged w (without_double b again w go)
double_more true again w go e h = more_same w e
double_more false (Some id) w go e h = more_same w e
double_more false None w go e h = h

next_more : (cs : List Chunk) (run : SaveRun) (w : TxnState) → length w.meter ≡ 8 → Charged w (next cs run w)
next_more [] run w e = unmarked_more run.all w e
next_more (c ∷ cs) run w e = more_same w e

started_more : (run : SaveRun) (w : TxnState) → length w.meter ≡ 8 → Charged w (started run w)
started_more run w e = charged_more Steps (length run.rows) w _ e (λ v g. marked_more (not run.all) v g)

begin_more : (all : Bool) (rows : List Placed) (run : SaveRun) (w : TxnState) → length w.meter ≡ 8 → Charged w (begin all rows run w)
begin_more false [] run w e = more_same w e
begin_more false (r ∷ rows) run w e = started_more run w e
begin_more true [] run w e = started_more run w e
begin_more true (r ∷ rows) run w e = started_more run w e

-- ---- the phases

replays_more : (r : Replayed) (then : List Record → Stage) (run : SaveRun) (w : TxnState) → length w.meter ≡ 8 → Charged w (replays r then run w)
replays_more (Came rs) then run w e = more_same w e
replays_more (Wants q) then run w e = tt

fire_more : (before : Bool) (ts : List Trigger) (es : List Entry) (run : SaveRun) (w : TxnState) → length w.meter ≡ 8 → Charged w (fire before ts es run w)
fire_more before [] es run w e = more_same w e
fire_more before (t ∷ ts) es run w e = tt

-- ---- how an attempt ends

settled_more : (f : Option (ℕ × RecordError)) (ts : List Told) (run : SaveRun) (w : TxnState) → length w.meter ≡ 8 → Charged w (settled f ts run w)
settled_more (Some f) ts run w e = same w _ refl e
settled_more None ts run w e = more_same w e

retried_more : (fs : List Told) (left : ℕ) (ts : List Told) (run : SaveRun) (w : TxnState) → length w.meter ≡ 8 → Charged w (retried fs left ts run w)
retried_more [] left ts run w e = unmarked_more true w e
retried_more (f ∷ fs) zero ts run w e = same w _ refl e
retried_more (f ∷ fs) (suc left) ts run w e = same w _ refl e

settle_more : (all : Bool) (ts : List Told) (run : SaveRun) (w : TxnState) → length w.meter ≡ 8 → Charged w (settle all ts run w)
settle_more true ts run w e = settled_more (first_failed ts) ts run w e
settle_more false ts run w e = retried_more (failed_in ts) run.left ts run w e

module _ (site : Site) (triggers : Triggers) where
  object_more : (o : Option Object) (go : Object → Move) (run : SaveRun) (w : TxnState) → length w.meter ≡ 8 → ((x : Object) → Charged w (go x)) → Charged w (with_object site triggers o go run w)
  object_more None go run w e h = more_same w e
  object_more (Some o) go run w e h = h o

  entered_more : (ps : List Pending) (phase : Phase) (rs : List Record) (run : SaveRun) (w : TxnState) → length w.meter ≡ 8 → Charged w (entered site triggers ps phase rs run w)
  entered_more [] phase rs run w e = more_same w e
  entered_more (p ∷ ps) phase rs run w e = charged_more Steps (length (p ∷ ps)) w _ e (λ v g. more_same v g)

  write_one_more : (act : Act) (p : Pending) (before rs : List Record) (o : Object) (run : SaveRun) (w : TxnState) → length w.meter ≡ 8 → Charged w (write_one site triggers act p before rs o run w)
  write_one_more Inserting p before rs o run w e = charged_more Alloc _ w _ e (λ v g. same v _ refl g)
  write_one_more Updating p before rs o run w e = charged_more Alloc _ w _ e (λ v g. same v _ refl g)
  write_one_more Deleting p before rs o run w e = same w _ refl e

  write_more : (before rs : List Record) (o : Object) (run : SaveRun) (w : TxnState) → length w.meter ≡ 8 → Charged w (write site triggers before rs o run w)
  write_more before [] o run w e = more_same w e
  write_more before (Wrong x ∷ rs) o run w e = more_same w e
  write_more before (Going p ∷ rs) o run w e = write_one_more run.act p before rs o run w e

  -- ---- the moves

  pub move_more : (stage : Stage) (run : SaveRun) (w : TxnState) → length w.meter ≡ 8 → Charged w (move_in site triggers stage run w)
  move_more (S.Charge rows) run w e = charged_more Dml 1 w _ e (λ v g. more_same v g)
  move_more (S.Count rows) run w e =
      charged_more Saved (length rows) w _ e (λ v g.
      double_more (is_double (map (λ (r : SaveRow). r.key) rows)) (first_again [] (map (λ (r : SaveRow). r.id) rows)) v _ g (begun_more (slice_get site.schema.objects run.object) rows run v g))
  move_more S.Next run w e = next_more run.chunks run w e
  move_more S.Begin run w e = begin_more run.all run.rows run w e
  move_more (S.Load answers) run w e =
      object_more (slice_get site.schema.objects run.object) _ run w e (λ o. replays_more (replayed (load site w.overlay.now run.act run.by run.object o (unplaced run.rows)) answers) (S.Enter P.Refer) run w e)
  move_more (S.Enter phase rs) run w e = entered_more (going rs) phase rs run w e
  move_more (S.Refer rs answers) run w e =
      object_more (slice_get site.schema.objects run.object) _ run w e (λ o. replays_more (replayed (refer site w.overlay.now run.act o rs) answers) (behind P.Refer) run w e)
  move_more (S.Fire before ts es) run w e = fire_more before ts es run w e
  move_more (S.Validate rs answers) run w e =
      object_more (slice_get site.schema.objects run.object) _ run w e (λ o. replays_more (replayed (validate site w.overlay.now run.act run.object o rs) answers) (behind P.Validate) run w e)
  move_more (S.Write before rs) run w e = object_more (slice_get site.schema.objects run.object) _ run w e (λ o. write_more before rs o run w e)
  move_more (S.Settle rs) run w e = settle_more run.all (told run.rows rs) run w e
