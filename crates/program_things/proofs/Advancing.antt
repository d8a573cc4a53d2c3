-- A save on its way, as steps of the machine.
use Rattle.std.proofs.Common.{◌≡◌, ℕ, zero, suc, ◌+◌, Bool, true, false, cond, List, Result, Ok, Err, IfOk, refl, sym, ap, ◌∙◌, subst}
use Rattle.std.specs.Prelude.{leb}
use Rattle.activations.specs.declared.abrupt.Abrupt.TheVariants.{Throws}
use Rattle.activations.specs.declared.abrupt.Raised.TheVariants.{Platform}
use Rattle.apex_num.specs.declared.kind.LimitKind.{LimitKind}
use Rattle.apex_num.specs.declared.kind.LimitKind.TheVariants as K
use Rattle.apex_requests.specs.declared.request.Context.{Context}
use Rattle.apex_requests.specs.declared.request.Ticket.{Ticket}
use Rattle.apex_schema.specs.declared.schema.Schema.{Schema}
use Rattle.limit_meter.specs.Charges.{count_of, limit_of, with_count}
use Rattle.request_states.specs.Statements.{name_records}
use Rattle.save_meaning.specs.declared.run.TxnState.{TxnState}
use Rattle.save_measures.specs.Paid.{IsPaid}
use Rattle.save_moves.specs.Advances.{Advances, GoesOn}
use Rattle.save_moves.specs.declared.run.Stopped.{Stopped}
use Rattle.save_moves.specs.declared.run.Stopped.TheVariants as E
use Rattle.save_stages.specs.Does.{site_of}
use Rattle.save_statements.specs.Moves as Save
use Rattle.save_statements.specs.declared.run.SaveRun.{SaveRun}
use Rattle.save_statements.specs.declared.statement.RecordOutcome.{RecordOutcome}
use Rattle.stack_code.specs.Machine as Machine
use Rattle.stack_code.specs.Machine.{Next, charged, charged_if, limited, with_txn}
use Rattle.stack_code.specs.Steps.{fire_next, fired_on, saving, triggers_in}
use Rattle.stack_code.specs.declared.image.Image.{Image}
use Rattle.stack_code.specs.declared.state.Config.{Config}
use Rattle.stack_code.specs.declared.state.Mode.TheVariants as M
use Rattle.tenant_trails.specs.Runs as Trail
use Rattle.trigger_things.specs.Things.{copy_units}
use Rattle.program_things.specs.declared.moved.Moved.{Moved}
use Rattle.program_things.specs.declared.moved.Moved.TheVariants as S
use Rattle.program_things.specs.declared.moved.SaveStop.{SaveStop}
use Rattle.program_things.specs.declared.moved.SaveStop.TheVariants as Stop
use Rattle.program_things.specs.Firings.{Begins, SavesTo}
use Rattle.program_things.specs.Saves.{BehindSave, cost, goes_on, step_of, GoesTo, IsStepTo}
use Rattle.program_things.specs.Steps.{IsStep, Stays}

-- one more of a kind is charged
abbrev with_more : LimitKind → TxnState → TxnState
with_more k u = record u { meter = with_count u.meter k (count_of u.meter k + 1) }

module _ (schema : Schema) (ticket : Ticket) (image : Image) (places : List ℕ) (c : Config) where
  -- the machine where it saves
  abbrev conf : SaveRun → TxnState → Config
  conf run w = record c { mode = M.Saving places run; world = record (c.world) { txn = w } }

  -- a save that goes on to where it stops
  abbrev Stops : SaveRun → TxnState → Stopped → SaveRun → TxnState → Type 0
  Stops = Advances (site_of schema ticket) (triggers_in image)

  goes_in : (n : ℕ) (run : SaveRun) (w : TxnState) (last : SaveRun) (v : TxnState) → GoesOn (site_of schema ticket) (triggers_in image) n run w last v → GoesTo schema ticket image n (conf run w) (conf last v)
  goes_in zero run w last v g = ap (λ r. conf r w) g.0 ∙ ap (λ u. conf last u) g.1
  goes_in (suc n) run w last v g = (conf g.0 g.1, ap (λ m. saving (site_of schema ticket) image places run m (conf run w)) g.2, refl, goes_in n g.0 g.1 last v g.3)

  -- the step that the move makes that stops it
  stops_in : (run : SaveRun) (w : TxnState) (s : Stopped) (r : SaveRun) (v : TxnState) (next : Next) (m : Moved) (d : Config) (a : Stops run w s r v) →
      step_of schema ticket image (conf a.last a.before) ≡ next → IsStep next m d → Stays (conf a.last a.before) m d → cost (M.Saving places a.last) next ≡ 1 → IsStepTo schema ticket image (conf run w) m d
  stops_in run w s r v next m d a e does stays counts = record {
    moves = a.moves;
    last = conf a.last a.before;
    goes = goes_in a.moves run w a.last a.before a.goes;
    does = subst (λ x. IsStep x m d) (sym e) does;
    stays = stays;
    counts = ap (λ x. cost (M.Saving places a.last) x) e ∙ counts;
  }

  -- where it asks
  pub asks_in : (run : SaveRun) (w : TxnState) (q : _) (r : SaveRun) (v : TxnState) → Stops run w (E.Asked q) r v → IsStepTo schema ticket image (conf run w) (S.Asked q) (conf r v)
  asks_in run w q r v a =
      stops_in run w (E.Asked q) r v (Machine.Asks q) (S.Asked q) (conf r v) a (ap (λ m. saving (site_of schema ticket) image places a.last m (conf a.last a.before)) a.stops.0) refl (ap (λ x. conf x v) a.stops.1 ∙ ap (λ x. conf a.last x) a.stops.2) refl

  -- where it ends
  pub ends_in : (run : SaveRun) (w : TxnState) (os : List RecordOutcome) (r : SaveRun) (v : TxnState) → Stops run w (E.Ended os) r v →
      IsStepTo schema ticket image (conf run w) S.Went (record c { mode = M.Running; world = record (c.world) { txn = v; heap = name_records places os c.world.heap } })
  ends_in run w os r v a =
      stops_in run w (E.Ended os) r v (saving (site_of schema ticket) image places a.last (Save.Ends os v) (conf a.last a.before)) S.Went _ a (ap (λ m. saving (site_of schema ticket) image places a.last m (conf a.last a.before)) a.stops) refl tt refl

  pub threw_in : (run : SaveRun) (w : TxnState) (why : _) (r : SaveRun) (v : TxnState) → Stops run w (E.Threw why) r v →
      IsStepTo schema ticket image (conf run w) S.Went (record c { mode = M.Leaving (Throws (Platform why)); world = record (c.world) { txn = v } })
  threw_in run w why r v a =
      stops_in run w (E.Threw why) r v (saving (site_of schema ticket) image places a.last (Save.Throws why v) (conf a.last a.before)) S.Went _ a (ap (λ m. saving (site_of schema ticket) image places a.last m (conf a.last a.before)) a.stops) refl tt refl

  -- where the request is over
  over_in : (run : SaveRun) (w : TxnState) (s : Stopped) (r : SaveRun) (v : TxnState) (end : Trail.Run) (m : Moved) (d : Config) (a : Stops run w s r v) →
      step_of schema ticket image (conf a.last a.before) ≡ Machine.Over end → IsStep (Machine.Over end) m d → IsStepTo schema ticket image (conf run w) m d
  over_in run w s r v end (S.Over reply writes) d a e h = stops_in run w s r v (Machine.Over end) (S.Over reply writes) d a e h tt refl
  over_in run w s r v end (S.Halted k) d a e h = stops_in run w s r v (Machine.Over end) (S.Halted k) d a e h tt refl
  over_in run w s r v end S.Went d a e h = cc
  over_in run w s r v end (S.Asked q) d a e h = cc

  -- where it passes a limit
  pub halted_in : (run : SaveRun) (w : TxnState) (l : _) (r : SaveRun) (v : TxnState) (m : Moved) (d : Config) → Stops run w (E.Halted l) r v → IsStep (limited l.kind l.number (record (c.world) { txn = v })) m d → IsStepTo schema ticket image (conf run w) m d
  halted_in run w l r v m d a h = over_in run w (E.Halted l) r v _ m d a (ap (λ m. saving (site_of schema ticket) image places a.last m (conf a.last a.before)) a.stops) h

  -- the mode makes no difference to what a trigger fires on
  module _ (run : SaveRun) (n : ℕ) (fires : Context) where
    abbrev units : ℕ
    units = copy_units schema fires

    abbrev goes : Config → Next
    goes f = Machine.Goes (fired_on (site_of schema ticket) image places run n fires f)

    by_units : (u : TxnState) (b : Bool) → charged_if b K.Alloc units (conf run u) goes ≡ charged_if b K.Alloc units (with_txn c u) goes
    by_units u true = refl
    by_units u false = refl

    by_steps : (u : TxnState) (b : Bool) → charged_if b K.Steps 1 (conf run u) (λ e. charged K.Alloc units e goes) ≡ charged_if b K.Steps 1 (with_txn c u) (λ e. charged K.Alloc units e goes)
    by_steps u true = let v = with_more K.Steps u in by_units v (leb (count_of v.meter K.Alloc + units) (limit_of K.Alloc))
    by_steps u false = refl

    by_depth : (w : TxnState) (b : Bool) → charged_if b K.Depth 1 (conf run w) (λ d. charged K.Steps 1 d (λ e. charged K.Alloc units e goes)) ≡ charged_if b K.Depth 1 (with_txn c w) (λ d. charged K.Steps 1 d (λ e. charged K.Alloc units e goes))
    by_depth w true = let v = with_more K.Depth w in by_steps v (leb (count_of v.meter K.Steps + 1) (limit_of K.Steps))
    by_depth w false = refl

    fires_alike : (w : TxnState) → fire_next (site_of schema ticket) image places run n fires (conf run w) ≡ fire_next (site_of schema ticket) image places run n fires (with_txn c w)
    fires_alike w = by_depth w (leb (count_of w.meter K.Depth + 1) (limit_of K.Depth))

  fires_next : (run : SaveRun) (w : TxnState) (n : ℕ) (fires : Context) (r : SaveRun) (v : TxnState) (a : Stops run w (E.Fired n fires) r v) →
      step_of schema ticket image (conf a.last a.before) ≡ fire_next (site_of schema ticket) image places r n fires (with_txn c v)
  fires_next run w n fires r v a =
      ap (λ m. saving (site_of schema ticket) image places a.last m (conf a.last a.before)) a.stops.0
      ∙ fires_alike a.last n fires a.before
      ∙ ap (λ x. fire_next (site_of schema ticket) image places x n fires (with_txn c a.before)) (sym a.stops.1)
      ∙ ap (λ u. fire_next (site_of schema ticket) image places r n fires (with_txn c u)) (sym a.stops.2)

  -- where a trigger fires
  pub fires_in : {F : Type 0} (run : SaveRun) (w : TxnState) (n : ℕ) (fires : Context) (r : SaveRun) (v : TxnState) (stop : Result SaveStop F) (d : Config) → Stops run w (E.Fired n fires) r v →
      IfOk stop (λ s. Begins (fire_next (site_of schema ticket) image places r n fires (with_txn c v)) image s d) → IfOk stop (λ s. SavesTo schema ticket image (conf run w) s d)
  fires_in run w n fires r v (Ok (Stop.Moved m)) d a h = over_in run w (E.Fired n fires) r v h.0 m d a (fires_next run w n fires r v a ∙ h.1) h.2
  fires_in run w n fires r v (Ok (Stop.Fires number this f)) d a h =
      let site = site_of schema ticket in
      let does = fires_next run w n fires r v a ∙ h.0 in
      record {
        moves = a.moves;
        last = conf a.last a.before;
        places = places;
        run = a.last;
        number = n;
        fires = fires;
        goes = goes_in a.moves run w a.last a.before a.goes;
        steps = ap (λ m. saving site image places a.last m (conf a.last a.before)) a.stops.0;
        does = does;
        counts = ap (λ x. cost (M.Saving places a.last) x) does ∙ ap (λ mode. cond (goes_on (M.Saving places a.last) mode) 0 1) h.1;
        saves = refl;
        top = refl;
        below = refl;
        paid = subst IsPaid a.stops.2 a.paid;
      }
  fires_in run w n fires r v (Err e) d a h = tt

-- behind the end of the request there is nothing to say
pub over_behind : (end : Trail.Run) (c d : Config) (m : Moved) → IsStep (Machine.Over end) m d → BehindSave c m d
over_behind end c d (S.Halted l) h = tt
over_behind end c d (S.Over reply writes) h = tt
over_behind end c d S.Went h = cc
over_behind end c d (S.Asked q) h = cc
