-- A query on its way, as steps of the machine.
use Rattle.std.proofs.Common.{◌≡◌, ℕ, zero, suc, ◌∷◌, pos, refl, sym, ap, subst, ◌∙◌}
use Rattle.activations.specs.declared.abrupt.Abrupt.TheVariants.{Throws}
use Rattle.activations.specs.declared.abrupt.Raised.TheVariants.{Platform}
use Rattle.apex_requests.specs.declared.request.Ticket.{Ticket}
use Rattle.apex_schema.specs.declared.schema.Schema.{Schema}
use Rattle.query_meaning.specs.Queries.{Counted, Listed}
use Rattle.query_moves.specs.Moves as Query
use Rattle.query_moves.specs.declared.run.QueryRun.{QueryRun}
use Rattle.query_records.specs.declared.shape.FoundShape.{FoundShape}
use Rattle.save_meaning.specs.declared.run.TxnState.{TxnState}
use Rattle.save_stages.specs.Does.{site_of}
use Rattle.soql_run.specs.Advances.{Advances, GoesOn}
use Rattle.soql_run.specs.declared.run.Stopped.{Stopped}
use Rattle.soql_run.specs.declared.run.Stopped.TheVariants as E
use Rattle.stack_code.specs.Machine.{Next, in_mode, limited, with_txn}
use Rattle.stack_code.specs.Machine as Machine
use Rattle.stack_code.specs.Steps.{answered_by, querying}
use Rattle.stack_code.specs.declared.image.Image.{Image}
use Rattle.stack_code.specs.declared.state.Config.{Config}
use Rattle.stack_code.specs.declared.state.Mode.TheVariants as M
use Rattle.tenant_trails.specs.Runs as Trail
use Rattle.program_things.specs.declared.moved.Moved.{Moved}
use Rattle.program_things.specs.declared.moved.Moved.TheVariants as S
use Rattle.program_things.specs.Saves.{BehindQuery, cost, step_of, GoesTo, IsStepTo}
use Rattle.program_things.specs.Steps.{IsStep, Stays}

module _ (schema : Schema) (ticket : Ticket) (image : Image) (shape : FoundShape) (c : Config) where
  -- the machine where it queries
  abbrev conf : QueryRun → TxnState → Config
  conf run w = record c { mode = M.Querying shape run; world = record (c.world) { txn = w } }

  -- a query that goes on to where it stops
  abbrev Stops : QueryRun → TxnState → Stopped → QueryRun → TxnState → Type 0
  Stops = Advances (site_of schema ticket)

  goes_in : (n : ℕ) (run : QueryRun) (w : TxnState) (last : QueryRun) (v : TxnState) → GoesOn (site_of schema ticket) n run w last v → GoesTo schema ticket image n (conf run w) (conf last v)
  goes_in zero run w last v g = ap (λ r. conf r w) g.0 ∙ ap (λ u. conf last u) g.1
  goes_in (suc n) run w last v g = (conf g.0 g.1, ap (λ m. querying schema shape m (conf run w)) g.2, refl, goes_in n g.0 g.1 last v g.3)

  -- the step that the move makes that stops it
  stops_in : (run : QueryRun) (w : TxnState) (s : Stopped) (r : QueryRun) (v : TxnState) (next : Next) (m : Moved) (d : Config) (a : Stops run w s r v) →
      step_of schema ticket image (conf a.last a.before) ≡ next → IsStep next m d → Stays (conf a.last a.before) m d → cost (M.Querying shape a.last) next ≡ 1 → IsStepTo schema ticket image (conf run w) m d
  stops_in run w s r v next m d a e does stays counts = record {
    moves = a.moves;
    last = conf a.last a.before;
    goes = goes_in a.moves run w a.last a.before a.goes;
    does = subst (λ x. IsStep x m d) (sym e) does;
    stays = stays;
    counts = ap (λ x. cost (M.Querying shape a.last) x) e ∙ counts;
  }

  -- where it asks
  pub asks_in : (run : QueryRun) (w : TxnState) (q : _) (r : QueryRun) (v : TxnState) → Stops run w (E.Asked q) r v → IsStepTo schema ticket image (conf run w) (S.Asked q) (conf r v)
  asks_in run w q r v a =
      stops_in run w (E.Asked q) r v (Machine.Asks q) (S.Asked q) (conf r v) a (ap (λ m. querying schema shape m (conf a.last a.before)) a.stops.0) refl (ap (λ x. conf x v) a.stops.1 ∙ ap (λ x. conf a.last x) a.stops.2) refl

  -- where it ends
  pub counted_in : (run : QueryRun) (w : TxnState) (n : ℕ) (r : QueryRun) (v : TxnState) → Stops run w (E.Counted n) r v →
      IsStepTo schema ticket image (conf run w) S.Went (in_mode (answered_by schema shape (Counted n) (with_txn c v)) M.Running)
  counted_in run w n r v a =
      stops_in run w (E.Counted n) r v (querying schema shape (Query.Ends (Counted n) v) (conf a.last a.before)) S.Went _ a (ap (λ m. querying schema shape m (conf a.last a.before)) a.stops) refl tt refl

  pub listed_in : (run : QueryRun) (w : TxnState) (found : _) (r : QueryRun) (v : TxnState) → Stops run w (E.Found found) r v →
      IsStepTo schema ticket image (conf run w) S.Went (in_mode (answered_by schema shape (Listed found) (with_txn c v)) M.Running)
  listed_in run w found r v a =
      stops_in run w (E.Found found) r v (querying schema shape (Query.Ends (Listed found) v) (conf a.last a.before)) S.Went _ a (ap (λ m. querying schema shape m (conf a.last a.before)) a.stops) refl tt refl

  pub threw_in : (run : QueryRun) (w : TxnState) (why : _) (r : QueryRun) (v : TxnState) → Stops run w (E.Threw why) r v →
      IsStepTo schema ticket image (conf run w) S.Went (record c { mode = M.Leaving (Throws (Platform why)); world = record (c.world) { txn = v } })
  threw_in run w why r v a =
      stops_in run w (E.Threw why) r v (querying schema shape (Query.Throws why v) (conf a.last a.before)) S.Went _ a (ap (λ m. querying schema shape m (conf a.last a.before)) a.stops) refl tt refl

  -- where the request is over
  over_in : (run : QueryRun) (w : TxnState) (s : Stopped) (r : QueryRun) (v : TxnState) (end : Trail.Run) (m : Moved) (d : Config) (a : Stops run w s r v) →
      step_of schema ticket image (conf a.last a.before) ≡ Machine.Over end → IsStep (Machine.Over end) m d → IsStepTo schema ticket image (conf run w) m d
  over_in run w s r v end (S.Over reply writes) d a e h = stops_in run w s r v (Machine.Over end) (S.Over reply writes) d a e h tt refl
  over_in run w s r v end (S.Halted k) d a e h = stops_in run w s r v (Machine.Over end) (S.Halted k) d a e h tt refl
  over_in run w s r v end S.Went d a e h = cc
  over_in run w s r v end (S.Asked q) d a e h = cc

  -- where it passes a limit
  pub halted_in : (run : QueryRun) (w : TxnState) (l : _) (r : QueryRun) (v : TxnState) (m : Moved) (d : Config) → Stops run w (E.Halted l) r v → IsStep (limited l.kind l.number (record (c.world) { txn = v })) m d → IsStepTo schema ticket image (conf run w) m d
  halted_in run w l r v m d a h = over_in run w (E.Halted l) r v _ m d a (ap (λ m. querying schema shape m (conf a.last a.before)) a.stops) h

-- behind the end of the request there is nothing to say
pub over_behind : (end : Trail.Run) (d : Config) (m : Moved) → IsStep (Machine.Over end) m d → BehindQuery m d
over_behind end d (S.Halted l) h = tt
over_behind end d (S.Over reply writes) h = tt
over_behind end d S.Went h = cc
over_behind end d (S.Asked q) h = tt
