-- What a statement that saves comes to.
use Rattle.std.proofs.Common.{◌≡◌, ◌≢◌, ℕ, zero, suc, ◌+◌, ◌≤◌, Bool, true, false, List, [], ◌∷◌, ◌++◌, length, map, drop, Option, Some, None, refl, sym, ap, ◌∙◌, subst, get_or-set_other, arith}
use Rattle.std.specs.Prelude.{not, leb, slice_get}
use Rattle.activations.specs.declared.abrupt.Abrupt.TheVariants.{Throws, Returns, Breaks, Continues}
use Rattle.activations.specs.declared.here.Here.{Here}
use Rattle.apex_meaning.specs.Exceptions.{kind_of, message_told}
use Rattle.apex_meaning.specs.Firings.{code_of, comes_out, fire, fires_on}
use Rattle.apex_meaning.specs.Meanings.{Again, Trigger as TriggerBody}
use Rattle.apex_requests.specs.declared.request.Context.{Context}
use Rattle.request_states.specs.Refusals.{no_writes, not_yet, refusal}
use Rattle.request_states.specs.States as S
use Rattle.request_states.specs.States.{State, Res, keeps}
use Rattle.request_states.specs.Runs.{Setting, site_of}
use Rattle.request_states.specs.Statements as D
use Rattle.apex_num.specs.declared.kind.LimitKind.{LimitKind}
use Rattle.apex_num.specs.declared.kind.LimitKind.TheVariants as K
use Rattle.apex_requests.specs.declared.reply.Outcome.TheVariants as O
use Rattle.apex_requests.specs.declared.request.Op.{Op}
use Rattle.apex_requests.specs.declared.request.SaveRow.{SaveRow}
use Rattle.apex_rows.specs.declared.query.Answer.{Answer}
use Rattle.apex_schema.specs.declared.schema.Object.{Object}
use Rattle.limit_meter.specs.Charges.{place_of, limit_of, count_of, with_count}
use Rattle.platform_errors.specs.declared.record.RecordError.{RecordError}
use Rattle.platform_errors.specs.declared.thrown.Thrown.{Thrown}
use Rattle.save_meaning.specs.Inserts.{is_double, first_again}
use Rattle.save_meaning.specs.Results as Result
use Rattle.row_meaning.specs.Overlays.{Overlay}
use Rattle.save_firings.specs.Tables.{all_listed}
use Rattle.save_firings.specs.declared.table.Listing.{Listing}
use Rattle.save_meaning.proofs.Holding.{bound}
use Rattle.save_meaning.specs.MoveLaws.{Alike}
use Rattle.save_meaning.specs.Results.{Finish, Halts, Needs, Unfinished, Unbuilt, Stop, Leaves, Closes, Gives, Stops, bind, leaves_as, Holds}
use Rattle.save_meaning.specs.Transactions as SaveTxn
use Rattle.save_meaning.specs.Sites.{Site}
use Rattle.save_meaning.specs.declared.run.TxnState.{TxnState}
use Rattle.save_statements.proofs.Attempts.{Ended, Finished}
use Rattle.save_statements.proofs.Driving.{Drives}
use Rattle.save_statements.proofs.Saving.{save_at as saves}
use Rattle.save_statements.specs.Checks.{refer, validate}
use Rattle.save_statements.specs.Inquiries.{replayed}
use Rattle.save_statements.specs.Loading.{load}
use Rattle.save_statements.specs.Moves as Moves
use Rattle.save_statements.specs.Moves.{Move, behind}
use Rattle.save_statements.specs.Phases.{Code, row_units}
use Rattle.save_statements.specs.Records.{going}
use Rattle.save_statements.specs.Statements.{save, told, unplaced, first_failed, failed_in}
use Rattle.save_statements.specs.declared.firing.Entry.{Entry}
use Rattle.save_statements.specs.declared.firing.Fired.{Fired}
use Rattle.save_statements.specs.declared.firing.Fired.TheVariants.{Threw}
use Rattle.save_statements.specs.declared.firing.Trigger.{Trigger}
use Rattle.save_statements.specs.declared.pending.Act.{Act}
use Rattle.save_statements.specs.declared.pending.Act.TheVariants.{Inserting, Updating, Deleting}
use Rattle.save_statements.specs.declared.pending.Manner.TheVariants.{ByCode}
use Rattle.save_statements.specs.declared.pending.Pending.{Pending}
use Rattle.save_statements.specs.declared.pending.Record.{Record}
use Rattle.save_statements.specs.declared.pending.Record.TheVariants.{Going, Wrong}
use Rattle.save_statements.specs.declared.run.Phase.{Phase}
use Rattle.save_statements.specs.declared.run.Phase.TheVariants as P
use Rattle.save_statements.specs.declared.run.Replayed.{Replayed}
use Rattle.save_statements.specs.declared.run.Replayed.TheVariants.{Came, Wants}
use Rattle.save_statements.specs.declared.run.SaveRun.{SaveRun}
use Rattle.save_statements.specs.declared.run.Stage.{Stage}
use Rattle.save_statements.specs.declared.run.Stage.TheVariants as St
use Rattle.save_statements.specs.declared.statement.Chunk.{Chunk}
use Rattle.save_statements.specs.declared.statement.Placed.{Placed}
use Rattle.save_statements.specs.declared.statement.RecordOutcome.{RecordOutcome}
use Rattle.save_statements.specs.declared.statement.Told.{Told}
use Rattle.tenant_trails.specs.Runs as Trail
use Rattle.trigger_things.specs.Lefts.{lefts}
use Rattle.trigger_things.specs.Things.{at, copy_units, own_rows, things, this_place}
use Rattle.txn_heap.specs.declared.thing.Value.{Value}
use Rattle.typed_program.specs.declared.stmt.Saved.{Saved}
use Rattle.stack_code.specs.Code.{Instrs}
use Rattle.stack_code.specs.Machine as Next
use Rattle.stack_code.specs.Machine.{instrs_at, in_mode, reply_of, with_heap}
use Rattle.stack_code.specs.Runs.{drive, steps}
use Rattle.stack_code.specs.Steps as Steps
use Rattle.stack_code.specs.declared.code.Instr.TheVariants as I
use Rattle.stack_code.specs.declared.image.Image.{Image}
use Rattle.stack_code.specs.declared.state.After.TheVariants as A
use Rattle.stack_code.specs.declared.state.Config.{Config}
use Rattle.stack_code.specs.declared.state.Firing.{Firing}
use Rattle.stack_code.specs.declared.state.Mode.TheVariants as M
use Rattle.stack_code.specs.declared.state.Waiting.{Waiting}
use Rattle.program_simulation.proofs.Classes.{IsImage}
use Rattle.program_simulation.proofs.Frames.{Ground, waits, Follows, Given, Gone, Handed, ran, threw}
use Rattle.program_simulation.proofs.OfThings.{name_same}
use Rattle.program_simulation.proofs.Simulates as T
use Rattle.program_simulation.proofs.Simulates.{Around, Under, over, config, world, Stands, stands_as, stands_fired, closing, calls_in, firings_in, keeping, same_reply}

-- ---- a save opens and closes no calls, and no firings by its moves

-- how many calls and firings are open
abbrev calls : TxnState → ℕ × ℕ
calls w = (count_of w.meter K.Calls, count_of w.meter K.Depth)

-- behind a move so many are open
abbrev Open : ℕ × ℕ → Move → Type 0
Open c (Moves.Goes run w) = calls w ≡ c
Open c (Moves.Asks q) = Unit {0}
Open c (Moves.Fires n fires) = Unit {0}
Open c (Moves.Ends outcomes w) = calls w ≡ c
Open c (Moves.Throws why w) = calls w ≡ c
Open c (Moves.Halts k n w) = Unit {0}

-- where another counter changes
open_charged : (c : ℕ × ℕ) (k : LimitKind) (n : ℕ) (w : TxnState) (go : TxnState → Move) → 7 ≢ place_of k → 4 ≢ place_of k → calls w ≡ c → ((v : TxnState) → calls v ≡ c → Open c (go v)) → Open c (Moves.charged k n w go)
open_charged c k n w go other another e f = by (leb (count_of w.meter k + n) (limit_of k)) where
  still : calls (record w { meter = with_count w.meter k (count_of w.meter k + n) }) ≡ calls w
  still =
      ap (λ x. (x, count_of (with_count w.meter k (count_of w.meter k + n)) K.Depth)) (get_or-set_other w.meter (place_of k) 7 (count_of w.meter k + n) 0 other)
      ∙ ap (λ x. (count_of w.meter K.Calls, x)) (get_or-set_other w.meter (place_of k) 4 (count_of w.meter k + n) 0 another)

  by : (b : Bool) → Open c (Moves.charged_if b k n w go)
  by true = f (record w { meter = with_count w.meter k (count_of w.meter k + n) }) (still ∙ e)
  by false = tt

-- overlays are none of it
open_marked : (b : Bool) (w : TxnState) → calls (Moves.marked b w) ≡ calls w
open_marked true w = refl
open_marked false w = refl

open_unmarked : (b : Bool) (w : TxnState) → calls (Moves.unmarked b w) ≡ calls w
open_unmarked true w = refl
open_unmarked false w = refl

open_begun : (c : ℕ × ℕ) (o : Option Object) (rows : List SaveRow) (run : SaveRun) (w : TxnState) → calls w ≡ c → Open c (Moves.begun o rows run w)
open_begun c None rows run w e = e
open_begun c (Some o) rows run w e = open_marked run.all w ∙ e

open_double : (c : ℕ × ℕ) (b : Bool) (again : Option (List ℕ)) (w : TxnState) (go : Move) → calls w ≡ c → Open c go → Open c (Moves.without_double b again w go)
open_double c true again w go e h = e
open_double c false (Some id) w go e h = e
open_double c false None w go e h = h

open_next : (c : ℕ × ℕ) (chunks : List Chunk) (run : SaveRun) (w : TxnState) → calls w ≡ c → Open c (Moves.next chunks run w)
open_next c [] run w e = open_unmarked run.all w ∙ e
open_next c (x ∷ xs) run w e = e

open_started : (c : ℕ × ℕ) (run : SaveRun) (w : TxnState) → calls w ≡ c → Open c (Moves.started run w)
open_started c run w e = open_charged c K.Steps (length run.rows) w _ (omega arith) (omega arith) e (λ v h. open_marked (not run.all) v ∙ h)

open_begin : (c : ℕ × ℕ) (all : Bool) (rows : List Placed) (run : SaveRun) (w : TxnState) → calls w ≡ c → Open c (Moves.begin all rows run w)
open_begin c false [] run w e = e
open_begin c false (r ∷ rows) run w e = open_started c run w e
open_begin c true [] run w e = open_started c run w e
open_begin c true (r ∷ rows) run w e = open_started c run w e

open_replays : (c : ℕ × ℕ) (r : Replayed) (then : List Record → Stage) (run : SaveRun) (w : TxnState) → calls w ≡ c → Open c (Moves.replays r then run w)
open_replays c (Came rs) then run w e = e
open_replays c (Wants q) then run w e = tt

open_fire : (c : ℕ × ℕ) (before : Bool) (ts : List Trigger) (es : List Entry) (run : SaveRun) (w : TxnState) → calls w ≡ c → Open c (Moves.fire before ts es run w)
open_fire c before [] es run w e = e
open_fire c before (t ∷ ts) es run w e = tt

open_settled : (c : ℕ × ℕ) (f : Option (ℕ × RecordError)) (ts : List Told) (run : SaveRun) (w : TxnState) → calls w ≡ c → Open c (Moves.settled f ts run w)
open_settled c (Some f) ts run w e = e
open_settled c None ts run w e = e

open_retried : (c : ℕ × ℕ) (fs : List Told) (left : ℕ) (ts : List Told) (run : SaveRun) (w : TxnState) → calls w ≡ c → Open c (Moves.retried fs left ts run w)
open_retried c [] left ts run w e = e
open_retried c (f ∷ fs) zero ts run w e = e
open_retried c (f ∷ fs) (suc left) ts run w e = e

open_settle : (c : ℕ × ℕ) (all : Bool) (ts : List Told) (run : SaveRun) (w : TxnState) → calls w ≡ c → Open c (Moves.settle all ts run w)
open_settle c true ts run w e = open_settled c (first_failed ts) ts run w e
open_settle c false ts run w e = open_retried c (failed_in ts) run.left ts run w e

module _ (site : Site) (triggers : ℕ → Act → Bool → List Trigger) (c : ℕ × ℕ) where
  open_object : (go : Object → Move) (run : SaveRun) (w : TxnState) → calls w ≡ c → ((o : Object) → Open c (go o)) → Open c (Moves.of_object site triggers go run w)
  open_object go run w e h = by (slice_get site.schema.objects run.object) where
    by : (o : Option Object) → Open c (Moves.with_object site triggers o go run w)
    by None = e
    by (Some o) = h o

  open_entered : (ps : List Pending) (phase : Phase) (rs : List Record) (run : SaveRun) (w : TxnState) → calls w ≡ c → Open c (Moves.entered site triggers ps phase rs run w)
  open_entered [] phase rs run w e = e
  open_entered (p ∷ ps) phase rs run w e = open_charged c K.Steps (length (p ∷ ps)) w _ (omega arith) (omega arith) e (λ v h. h)

  open_write_one : (act : Act) (p : Pending) (before rs : List Record) (o : Object) (run : SaveRun) (w : TxnState) → calls w ≡ c → Open c (Moves.write_one site triggers act p before rs o run w)
  open_write_one Inserting p before rs o run w e = open_charged c K.Alloc (row_units o) w _ (omega arith) (omega arith) e (λ v h. h)
  open_write_one Updating p before rs o run w e = open_charged c K.Alloc (row_units o) w _ (omega arith) (omega arith) e (λ v h. h)
  open_write_one Deleting p before rs o run w e = e

  open_write : (before rs : List Record) (o : Object) (run : SaveRun) (w : TxnState) → calls w ≡ c → Open c (Moves.write site triggers before rs o run w)
  open_write before [] o run w e = e
  open_write before (Wrong x ∷ rs) o run w e = e
  open_write before (Going p ∷ rs) o run w e = open_write_one run.act p before rs o run w e

  open_in : (stage : Stage) (run : SaveRun) (w : TxnState) → calls w ≡ c → Open c (Moves.move_in site triggers stage run w)
  open_in (St.Charge rows) run w e = open_charged c K.Dml 1 w _ (omega arith) (omega arith) e (λ v h. h)
  open_in (St.Count rows) run w e =
      open_charged c K.Saved (length rows) w _ (omega arith) (omega arith) e
      (λ v h. open_double c (is_double (map (λ (r : SaveRow). r.key) rows)) (first_again [] (map (λ (r : SaveRow). r.id) rows)) v (Moves.begun (slice_get site.schema.objects run.object) rows run v) h
      (open_begun c (slice_get site.schema.objects run.object) rows run v h))
  open_in St.Next run w e = open_next c run.chunks run w e
  open_in St.Begin run w e = open_begin c run.all run.rows run w e
  open_in (St.Load answers) run w e =
      open_object _ run w e (λ o. open_replays c (replayed (load site w.overlay.now run.act run.by run.object o (unplaced run.rows)) answers) (St.Enter P.Refer) run w e)
  open_in (St.Enter phase rs) run w e = open_entered (going rs) phase rs run w e
  open_in (St.Refer rs answers) run w e = open_object _ run w e (λ o. open_replays c (replayed (refer site w.overlay.now run.act o rs) answers) (behind P.Refer) run w e)
  open_in (St.Fire before ts es) run w e = open_fire c before ts es run w e
  open_in (St.Validate rs answers) run w e =
      open_object _ run w e (λ o. open_replays c (replayed (validate site w.overlay.now run.act run.object o rs) answers) (behind P.Validate) run w e)
  open_in (St.Write before rs) run w e = open_object _ run w e (λ o. open_write before rs o run w e)
  open_in (St.Settle rs) run w e = open_settle c run.all (told run.rows rs) run w e

open_move : (site : Site) (triggers : ℕ → Act → Bool → List Trigger) (run : SaveRun) (w : TxnState) (m : Move) → Moves.move site triggers run w ≡ m → Open (calls w) m
open_move site triggers run w m e = subst (Open (calls w)) e (open_in site triggers (calls w) run.stage run w refl)

-- ---- statements

module _ (setting : Setting) (image : Image) (r : Trail.Run) (is : IsImage setting.program image) (again : Again) (follows : Follows (site_of setting) image r again) where
  abbrev site : Site
  site = site_of setting

  -- what a save has of the code around it
  abbrev around : Code State
  around = code_of setting again

  abbrev Runs : Config → List Answer → Type 0
  Runs c tape = T.Runs site image r c tape

  -- the image has the same triggers
  same_triggers : around.triggers ≡ Steps.triggers_in image
  same_triggers = ap {B = ℕ → Act → Bool → List Trigger} (λ (ls : List Listing) (object : ℕ) (act : Act) (before : Bool). all_listed object act before ls) (sym is.firings)

  module _ (a : Around) (places : List ℕ) (pc : ℕ) (temps : List Value) where
    -- the calls and the firings that are open stay so
    abbrev Waits : TxnState → Type 0
    Waits w = (calls_in a.below.frames ≤ (calls w).0) × (firings_in a.below.frames ≤ (calls w).1)

    abbrev frame : SaveRun → TxnState → State → Config
    frame run w s = in_mode (config a pc temps s w) (M.Saving places run)

    abbrev RunsSave : SaveRun → TxnState → State → Type 0
    RunsSave run w s = Waits w → Runs (frame run w s) s.world.txn.tape

    abbrev Ok : List RecordOutcome → TxnState → State → Type 0
    Ok outcomes w s = Waits w → Runs (with_heap (config a pc temps s w) (D.name_records places outcomes s.world.heap)) s.world.txn.tape

    abbrev End : Stop Thrown → TxnState → State → Type 0
    End (Closes (Halts k n)) w s = Trail.Ends (reply_of (O.Limit k n) (world s w)) no_writes ≡ r
    End (Closes (Needs q)) w s = Trail.Asks q ≡ r
    End (Closes Unfinished) w s = ⊥
    End (Closes Unbuilt) w s = Trail.Ends (refusal not_yet) no_writes ≡ r
    End (Leaves t) w s = Waits w → Runs (in_mode (config a pc temps s w) (M.Leaving (S.thrown t))) s.world.txn.tape

    still : (w v : TxnState) → calls v ≡ calls w → Waits w → Waits v
    still w v e o = subst (λ (n : ℕ × ℕ). (calls_in a.below.frames ≤ n.0) × (firings_in a.below.frames ≤ n.1)) (sym e) o

    -- the move of a save is a step of the machine
    moved : (run : SaveRun) (w : TxnState) (s : State) (m : Move) (tape : List Answer) → Moves.move site around.triggers run w ≡ m → T.Comes site image r (Steps.saving site image places run m (frame run w s)) (frame run w s) tape →
        Runs (frame run w s) tape
    moved run w s m tape e h =
        T.stepped site image r (frame run w s) tape (Steps.saving site image places run m (frame run w s))
        (ap (λ ts. Steps.saving site image places run (Moves.move site ts run w) (frame run w s)) (sym same_triggers) ∙ ap (λ x. Steps.saving site image places run x (frame run w s)) e) h

    -- ---- a trigger fires

    -- the save waits under it, with the overlays that it goes back to
    abbrev under : List Overlay → Under
    under saved = record { frames = a.below.frames; saved = saved }

    abbrev waiting : List Overlay → State → Ground
    waiting saved s = record { top = T.frame a pc temps s.here; below = under saved }

    abbrev Behind : List Overlay → SaveRun → Fired → State → Type 0
    Behind saved run f s = (v : TxnState) → Alike saved v s.world.txn → RunsSave (Moves.came_back run f) v s

    abbrev Over : Stop ⊥ → State → Type 0
    Over why s = (inner : List Overlay) (v : TxnState) → Alike inner v s.world.txn → End (leaves_as (λ e. absurd e) why) v s

    shut : (f : Finish) (s : State) → Over (Closes f) s → T.Closed site image r f s
    shut (Halts k n) s h = λ saved w b. sym (ap (λ x. Trail.Ends x no_writes) (same_reply (O.Limit k n) saved s w b)) ∙ h saved w b
    shut (Needs q) s h = λ saved w b. h saved w b
    shut Unfinished s h = λ saved w b. h saved w b
    shut Unbuilt s h = λ saved w b. h saved w b

    module _ (saved : List Overlay) (run : SaveRun) (s : State) (c : Context) where
      abbrev fired : Firing
      fired = record { places = places; run = run; first = length s.world.heap; count = length (own_rows c) }

      -- what it came to is what the save goes on with
      handed : (f : Fired) (s1 : State) → s1.here ≡ s.here → Behind saved run f s1 → Handed site image r (waiting saved s) fired f s1
      handed f s1 e h = record {
        by = λ v b.
            subst (λ (x : Here). Runs (record { top = T.frame a pc temps x; mode = M.Saving places (Moves.came_back run f); below = a.below.frames; world = world s1 v }) s1.world.txn.tape) e
            (h v b.alike (b.calls, b.firings));
      }

      opened : (res : Res Value) → Holds (Behind saved run) Over (comes_out setting again (length (own_rows c)) (length s.world.heap) res) →
          Holds (λ v s1. s1.here ≡ s.here → Given site image r (waiting saved s) (A.Fired fired) v s1) (λ why s1. s1.here ≡ s.here → Gone site image r (waiting saved s) (A.Fired fired) why s1) res
      opened (Gives v s1) h = λ e. handed (ran site image r fired s1) (closing (A.Fired fired) s1) e h
      opened (Stops (Leaves (Throws x)) s1) h = λ e.
          handed (threw site image r fired x s1) (closing (A.Fired fired) s1) e
          (subst (λ n. Behind saved run (Threw n (message_told x s1.world.heap) (lefts (length (own_rows c)) (length s.world.heap) s1.world.heap)) (closing (A.Fired fired) s1)) (sym (name_same setting image r is (kind_of x s1.world.heap))) h)
      opened (Stops (Leaves (Returns v)) s1) h = λ e. tt
      opened (Stops (Leaves Breaks) s1) h = λ e. tt
      opened (Stops (Leaves Continues) s1) h = λ e. tt
      opened (Stops (Closes f) s1) h = λ e. shut f s1 h

      fires_at : (n : ℕ) (w : TxnState) → Alike saved w s.world.txn → Waits w → Holds (Behind saved run) Over (fire setting again n c s) →
          T.Comes site image r (Steps.fire_next site image places run n c (frame run w s)) (frame run w s) s.world.txn.tape
      fires_at n w b o h =
          let x : Waiting = waits (waiting saved s) (A.Fired fired) in
          let this = at (this_place (length s.world.heap) c) in
          T.charge_then site image r (under saved) K.Depth 1 s w (frame run w s) _ (frame run w s) s.world.txn.tape _ Over (record { alike = b; calls = o.0; firings = o.1 }) (λ f g. shut f s g)
          (bound (Behind saved run) Over (SaveTxn.charge keeps K.Depth 1 s) (λ u s1. rest1 n s1) h) (λ b1 h1.
          T.charge_then site image r (over x (under saved)) K.Steps 1 s1 w1 (frame run w1 s) _ (frame run w s) s.world.txn.tape _ Over (stands_fired (under saved) x s w refl refl (record { alike = b; calls = o.0; firings = o.1 })) (λ f g. shut f s1 g)
          (bound (Behind saved run) Over (SaveTxn.charge keeps K.Steps 1 s1) (λ u s2. rest2 n s2) h1) (λ b2 h2.
          T.charge_then site image r (over x (under saved)) K.Alloc (copy_units setting.schema c) s2 w2 (frame run w2 s) _ (frame run w s) s.world.txn.tape _ Over b2 (λ f g. shut f s2 g)
          (bound (Behind saved run) Over (SaveTxn.charge keeps K.Alloc (copy_units setting.schema c) s2) (λ u s3. fires_on setting again n c (length s3.world.heap) s3) h2) (λ b3 h3.
          follows.body (TriggerBody n) [] this (A.Fired fired) (waiting saved s) s4 w3 (stands_as (over x (under saved)) s3 s4 w3 refl b3) (opened (again.body (TriggerBody n) [] this s4) h3))))
        where
          rest2 : ℕ → State → Result.Res State ⊥ Fired
          rest2 n s2 = bind (SaveTxn.charge keeps K.Alloc (copy_units setting.schema c) s2) (λ u s3. fires_on setting again n c (length s3.world.heap) s3)

          rest1 : ℕ → State → Result.Res State ⊥ Fired
          rest1 n s1 = bind (SaveTxn.charge keeps K.Steps 1 s1) (λ u s2. rest2 n s2)

          s1 : State
          s1 = T.paid K.Depth 1 s

          w1 : TxnState
          w1 = T.spent K.Depth 1 w

          s2 : State
          s2 = T.paid K.Steps 1 s1

          w2 : TxnState
          w2 = T.spent K.Steps 1 w1

          s3 : State
          s3 = T.paid K.Alloc (copy_units setting.schema c) s2

          w3 : TxnState
          w3 = T.spent K.Alloc (copy_units setting.schema c) w2

          s4 : State
          s4 = S.with_heap (s.world.heap ++ things (length s.world.heap) c) s3

    drives : Drives keeps site around
    drives = record {
      Runs = RunsSave;
      ok = Ok;
      end = End;
      goes = λ run next w v s t is1 tape h o.
          moved run w s (Moves.Goes next v) s.world.txn.tape is1 (subst (λ x. Runs (frame next v s) x) tape (h (still w v (open_move site around.triggers run w (Moves.Goes next v) is1) o)));
      asks = λ run w s q b more t is1 tape later h o.
          let g = subst (λ x. Runs (frame (Moves.given run b) w s) x) later (h o) in
          moved run w s (Moves.Asks q) s.world.txn.tape is1 (g.0, ap (λ x. drive g.0 (steps site image g.0) (Next.Asks q) (frame run w s) x) tape ∙ g.1);
      needs = λ run w s q is1 tape h o. moved run w s (Moves.Asks q) s.world.txn.tape is1 (0, ap (λ x. drive 0 (steps site image 0) (Next.Asks q) (frame run w s) x) tape ∙ ap Some h);
      fires = λ saved run w s n c is1 b h o. moved run w s (Moves.Fires n c) s.world.txn.tape is1 (fires_at saved run s c n w b o h);
      ends = λ run w v s outcomes t is1 tape h o.
          moved run w s (Moves.Ends outcomes v) s.world.txn.tape is1
          (subst (λ x. Runs (with_heap (config a pc temps s v) (D.name_records places outcomes s.world.heap)) x) tape (h (still w v (open_move site around.triggers run w (Moves.Ends outcomes v) is1) o)));
      throws = λ run w v s why t is1 tape h o.
          moved run w s (Moves.Throws why v) s.world.txn.tape is1
          (subst (λ x. Runs (in_mode (config a pc temps s v) (M.Leaving (S.thrown why))) x) tape (h (still w v (open_move site around.triggers run w (Moves.Throws why v) is1) o)));
      halts = λ run w s k n is1 h o. moved run w s (Moves.Halts k n w) s.world.txn.tape is1 (0, ap Some h);
    }

    -- there are no roll-ups yet
    no_roll_ups : (n : ℕ) (rs : List Record) (s : State) → around.roll_up n rs s ≡ Gives rs s
    no_roll_ups n rs s = refl

    -- what comes of a statement that saves is what the machine comes to
    came : (op : Op) (object : ℕ) (st : State) (k : Instrs) → drop pc (instrs_at image a.body) ≡ k → (res : Result.Res State Thrown (List RecordOutcome)) →
        Holds (λ u s. T.At site image r a k temps s) (T.Stopped site image r a) (bind {B = Unit {0}} (S.saved res) (λ outcomes s. Gives (tt {0}) (S.with_heap (D.name_records places outcomes s.world.heap) s))) →
        Holds (Finished keeps keeping site around drives no_roll_ups a.below.saved op (ByCode st.here.mode) object) (Ended keeps keeping site around drives no_roll_ups a.below.saved op (ByCode st.here.mode) object) res
    unfolding drives
    came op object st k d (Gives outcomes s) h = λ w b o. h.by pc w (record { alike = b; calls = o.0; firings = o.1 }) d
    came op object st k d (Stops (Closes (Halts j n)) s) h = λ saved w b. ap (λ x. Trail.Ends x no_writes) (same_reply (O.Limit j n) saved s w b) ∙ h saved w b
    came op object st k d (Stops (Closes (Needs q)) s) h = λ saved w b. h saved w b
    came op object st k d (Stops (Closes Unfinished) s) h = λ saved w b. h saved w b
    came op object st k d (Stops (Closes Unbuilt) s) h = λ saved w b. h saved w b
    came op object st k d (Stops (Leaves t) s) h = λ w b o. h.by pc temps w (record { alike = b; calls = o.0; firings = o.1 })

    -- the machine saves the records of a statement so
    saves_at : (op : Op) (object : ℕ) (st : State) (k : Instrs) → drop pc (instrs_at image a.body) ≡ k → Holds (λ u s. T.At site image r a k temps s) (T.Stopped site image r a) (D.save_at site around op object places st) →
        (w : TxnState) → Stands a.below st w → Runs (frame (Moves.first_run op (ByCode st.here.mode) object true (D.rows_in st.world.heap places)) w st) st.world.txn.tape
    unfolding drives
    saves_at op object st k d h w b =
        saves keeps keeping site around drives no_roll_ups a.below.saved op (ByCode st.here.mode) object (D.rows_in st.world.heap places) true st
        (came op object st k d (save keeps site around op (ByCode st.here.mode) object true (D.rows_in st.world.heap places) st) h) w b.alike (b.calls, b.firings)

  pub save_at : (op : Op) (what : Saved) (v : Value) (a : Around) (k : Instrs) (temps : List Value) (st : State) →
      Holds (λ u s. T.At site image r a k temps s) (T.Stopped site image r a) (D.save_these site around op (D.records_of what v st.world.heap) st) → T.At site image r a (I.Save op what ∷ k) (v ∷ temps) st
  save_at op what v a k temps st post = T.first site image r a (I.Save op what) k (v ∷ temps) st (λ pc w b d. by pc w b d (D.records_of what v st.world.heap) post) where
    by : (pc : ℕ) (w : TxnState) → Stands a.below st w → drop (pc + 1) (instrs_at image a.body) ≡ k → (o : Option (ℕ × List ℕ)) → Holds (λ u s. T.At site image r a k temps s) (T.Stopped site image r a) (D.save_these site around op o st) →
        T.Comes site image r (Steps.save_next op o (config a pc (v ∷ temps) st w) temps) (config a pc (v ∷ temps) st w) st.world.txn.tape
    by pc w b d None h = h.by (pc + 1) [] w b
    by pc w b d (Some q) h = saves_at a q.1 (pc + 1) temps op q.0 st k d h w b
