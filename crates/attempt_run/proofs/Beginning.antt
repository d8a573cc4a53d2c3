-- A shard that begins, as the rules of turns see it.
use Rattle.std.proofs.Common.{arith, ◌≡◌, refl, sym, ap, subst, ◌∙◌, ℕ, zero, suc, ◌≤◌, false, List, [], ◌∷◌, length, map, replicate, Option, None, Some}
use Rattle.std.specs.Prelude.{Result, Ok, Err, OnOk, slice_get}
use Rattle.apex_rows.specs.declared.query.Answer.{Answer}
use Rattle.legal_trails.specs.Legal.{first_state, is_by}
use Rattle.legal_trails.specs.Served.{Pick, first_stage, placed}
use Rattle.legal_trails.specs.Turns.{first_turning}
use Rattle.row_locks.specs.Locks.{holder_of}
use Rattle.session_turns.specs.Calls.{IsRunSoFar, closed_session}
use Rattle.session_runs.specs.Replies.{RunsFrom}
use Rattle.session_turns.specs.declared.attempt.Standing.{Standing}
use Rattle.session_states.specs.States.{fresh}
use Rattle.tenant_parts.specs.declared.session.Session.{Session}
use Rattle.tenant_shards.specs.Parts.{counts_of, tenant_of}
use Rattle.tenant_shards.specs.Shards.{Shared}
use Rattle.tenant_shards.specs.Tenants.{sessions_at, trail_in}
use Rattle.tenant_trails.specs.Runs.{Tenant}
use Rattle.attempt_run.specs.Stages.{AreNew, ArePlaced, AreServed, Begins, IsNew, IsNewBy, IsPlaced, IsPlacedBy, IsStanding, ServesOn, first_in, first_standing, tapes_of}
use Rattle.attempt_run.specs.declared.plan.Plan.{Plan}

none_closed : (ss : List Session) → map (λ (n : ℕ). closed_session 0) (counts_of ss) ≡ replicate (length ss) fresh
none_closed [] = refl
none_closed (s ∷ ss) = ap (λ more. fresh ∷ more) (none_closed ss)

no_tapes : (ss : List Session) → ◌≡◌ {A = List (List Answer)} (map (λ (n : ℕ). []) (counts_of ss)) (tapes_of (replicate (length ss) first_standing))
no_tapes [] = refl
no_tapes (s ∷ ss) = ap (λ more. [] ∷ more) (no_tapes ss)

nothing : (n : ℕ) → 0 ≤ n
nothing n = omega arith

module _ (plan : Plan) (t : ℕ) (shard : Shared) (locks : shard.locks ≡ []) (entries : shard.entries ≡ []) where
  each_by : (s : ℕ) (qs : List Session) (k : ℕ) → (slice_get (replicate (length qs) fresh) k ≡ Some fresh → slice_get (sessions_at t shard.tenants) s ≡ Some (closed_session 0)) →
      IsStanding plan t s shard (slice_get qs k) (slice_get (replicate (length qs) first_standing) k) (slice_get (replicate (length qs) fresh) k)
  each_by s [] k f = tt
  each_by s (q ∷ qs) zero f = (record { session = f refl; free = λ id. free s id }, nothing (length q.requests)) where
    free : (s : ℕ) (id : List ℕ) → is_by s (holder_of t shard.locks id) ≡ false
    free s id = ap (λ l. is_by s (holder_of t l id)) locks
  each_by s (q ∷ qs) (suc k) f = each_by s qs k f

  module _ (tenant : Tenant) (new : IsNew plan t shard tenant) where
    are_fresh : sessions_at t shard.tenants ≡ replicate (length plan.sessions) fresh
    are_fresh = new.sessions ∙ ap (λ ss. replicate (length ss) fresh) new.sessions_are

    so_far : IsRunSoFar plan.image new.part t shard (first_state (tenant_of new.part))
    so_far = record {
      is = subst (λ es. RunsFrom new.part plan.image (first_state (tenant_of new.part)) (trail_in t es) (first_state (tenant_of new.part))) (sym entries) refl;
      store = sym new.rows;
      sessions = none_closed new.part.sessions ∙ sym new.sessions;
      held = λ id. sym (ap (λ l. holder_of t l id) locks);
    }

    pub is_placed : IsPlaced plan (first_in (Some plan)) t shard (record { tenant = tenant; turning = first_turning tenant; trail = [] })
    is_placed = record {
      part = new.part;
      is_part = new.is_part;
      means = new.means;
      schema_is = new.schema_is;
      sessions_are = new.sessions_are;
      tenant_is = new.tenant_is;
      trail_is = sym (ap (trail_in t) entries);
      so_far = subst (λ x. IsRunSoFar plan.image new.part t shard (first_state x)) (sym new.tenant_is) so_far;
      tapes = ap (λ (x : Tenant). map (λ (n : ℕ). []) x.requests) new.tenant_is ∙ ap (λ ss. map (λ (n : ℕ). []) (counts_of ss)) new.sessions_are ∙ no_tapes plan.sessions;
      each = λ s.
          subst (λ ss. IsStanding plan t s shard (slice_get plan.sessions s) (slice_get (first_in (Some plan)) s) (slice_get ss s)) (sym are_fresh)
          (each_by s plan.sessions s (λ e. ap (λ ss. slice_get ss s) are_fresh ∙ e));
    }

module _ (shard : Shared) (locks : shard.locks ≡ []) (entries : shard.entries ≡ []) where
  placed_by : (t : ℕ) (p : Option Plan) (o : Option Tenant) → IsNewBy p t shard o → IsPlacedBy p (first_in p) t shard (placed o)
  placed_by t None None h = tt
  placed_by t (Some plan) (Some tenant) h = is_placed plan t shard locks entries tenant h
  placed_by t None (Some tenant) h = absurd h
  placed_by t (Some plan) None h = absurd h

  all_placed : (t : ℕ) (ps : List (Option Plan)) (tenants : List (Option Tenant)) → AreNew t ps shard tenants → ArePlaced t ps (map first_in ps) shard (first_stage tenants)
  all_placed t [] [] h = tt
  all_placed t (p ∷ ps) (o ∷ tenants) h = (placed_by t p o h.0, all_placed (suc t) ps tenants h.1)
  all_placed t [] (o ∷ tenants) h = absurd h
  all_placed t (p ∷ ps) [] h = absurd h

pub begins : (ps : List (Option Plan)) (shard : Shared) (tenants : List (Option Tenant)) → Begins ps shard tenants → ArePlaced 0 ps (map first_in ps) shard (first_stage tenants)
begins ps shard tenants b = all_placed shard b.locks b.entries 0 ps tenants b.new

pub all_served : {A E : Type 0} (r : Result A E) (ps : List (Option Plan)) (turns : List Pick) (all later : List (List Standing)) (shard after : Shared) → all ≡ map first_in ps → OnOk r (ServesOn ps turns all shard later after) → OnOk r ((tenants : List (Option Tenant)) → Begins ps shard tenants → AreServed ps tenants turns after)
all_served (Ok x) ps turns all later shard after e s = λ tenants b.
    let h = s (first_stage tenants) (subst (λ xs. ArePlaced 0 ps xs shard (first_stage tenants)) (sym e) (begins ps shard tenants b)) in
    record { picks = h.0; stage = h.1; serves = h.2; standings = later; placed = h.3; finished = h.4 }
all_served (Err x) ps turns all later shard after e s = tt
