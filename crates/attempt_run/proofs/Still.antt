-- Sessions that another one's turn leaves as they are.
use Rattle.std.proofs.Common.{◌≡◌, ◌⊎◌, inl, inr, refl, sym, ap, subst, ◌∙◌, ℕ, true, false, List, Option, None, Some}
use Rattle.std.specs.Prelude.{slice_get}
use Rattle.apex_requests.specs.declared.request.Request.{Request}
use Rattle.apex_requests.specs.declared.request.Ticket.{Ticket}
use Rattle.apex_requests.specs.declared.request.Work.{Work}
use Rattle.apex_schema.specs.declared.schema.Schema.{Schema}
use Rattle.row_locks.specs.Locks.{holder_of}
use Rattle.legal_trails.specs.Legal.{Session as State, is_by}
use Rattle.stack_code.specs.declared.image.Image.{Image}
use Rattle.tenant_parts.specs.declared.session.Session.{Session}
use Rattle.tenant_shards.specs.declared.log.Log.{Log}
use Rattle.tenant_shards.specs.Logs.{IsCurrent}
use Rattle.tenant_shards.specs.Shards.{Shared}
use Rattle.tenant_shards.specs.Tenants.{part_at, sessions_at}
use Rattle.session_turns.specs.Calls.{IsClosed, IsOn, IsUndisturbed, but_news}
use Rattle.session_turns.specs.Turns.{StandsBy}
use Rattle.session_turns.specs.declared.attempt.Attempt.{Attempt}
use Rattle.session_turns.specs.declared.attempt.Standing.{Standing}
use Rattle.attempt_run.specs.Stages.{IsStanding}
use Rattle.attempt_run.specs.declared.plan.Plan.{Plan}

module _ (t s : ℕ) (before after : Shared) (part : part_at t after.tenants ≡ part_at t before.tenants) (undisturbed : IsUndisturbed t s before after) (holds : (id : List ℕ) → is_by s (holder_of t after.locks id) ≡ is_by s (holder_of t before.locks id)) where
  closed_still : (i : ℕ) → IsClosed t s i before → IsClosed t s i after
  closed_still i c = record { session = session undisturbed; free = λ id. holds id ∙ c.free id } where
    session : IsUndisturbed t s before after → slice_get (sessions_at t after.tenants) s ≡ Some (record { closed = i; running = None })
    session (inl u) = u.0 ∙ c.session
    session (inr u) = u ∙ ap but_news c.session

  module _ (schema : Schema) (image : Image) where
    on_still : (ticket : Ticket) (work : Work) (restarts : ℕ) (log : Log) → ticket.session ≡ s → IsOn schema image ticket work t restarts log before → IsOn schema image ticket work t restarts log after
    on_still ticket work restarts log is on = by undisturbed where
      by : IsUndisturbed t s before after → IsOn schema image ticket work t restarts log after
      by (inl u) = record {
        part = on.part;
        is_part = part ∙ on.is_part;
        means = on.means;
        schema_is = on.schema_is;
        request = on.request;
        is_request = on.is_request;
        ticket_is = on.ticket_is;
        work_is = on.work_is;
        moved = on.moved;
        session = ap (λ n. slice_get (sessions_at t after.tenants) n) is ∙ u.0 ∙ ap (λ n. slice_get (sessions_at t before.tenants) n) (sym is) ∙ on.session;
        asks = on.asks;
        holds = λ id. ap (λ n. is_by n (holder_of t after.locks id)) is ∙ holds id ∙ ap (λ n. is_by n (holder_of t before.locks id)) (sym is) ∙ on.holds id;
        seen = λ quiet. subst (λ rows. IsCurrent rows log) (sym u.1) (on.seen quiet);
        few = on.few;
      }
      by (inr u) = record {
        part = on.part;
        is_part = part ∙ on.is_part;
        means = on.means;
        schema_is = on.schema_is;
        request = on.request;
        is_request = on.is_request;
        ticket_is = on.ticket_is;
        work_is = on.work_is;
        moved = true;
        session = ap (λ n. slice_get (sessions_at t after.tenants) n) is ∙ u ∙ ap (λ n. but_news (slice_get (sessions_at t before.tenants) n)) (sym is) ∙ ap but_news on.session;
        asks = on.asks;
        holds = λ id. ap (λ n. is_by n (holder_of t after.locks id)) is ∙ holds id ∙ ap (λ n. is_by n (holder_of t before.locks id)) (sym is) ∙ on.holds id;
        seen = λ quiet. absurd (true_false quiet);
        few = on.few;
      } where
        true_false : true ≡ false → ⊥
        true_false e = cc

    pub stands_still : (requests : List Request) (i : ℕ) (o : Option Attempt) → StandsBy schema image requests t s i o before → StandsBy schema image requests t s i o after
    stands_still requests i None h = (closed_still i h.0, h.1)
    stands_still requests i (Some a) h = record {
      request = h.request;
      is_request = h.is_request;
      tried = record { on = on_still _ _ a.restarts a.log refl h.tried.on; runs = h.tried.runs };
      last = h.last;
    }

  news_none : (o : Option State) → o ≡ None → but_news o ≡ None
  news_none o e = ap but_news e

  standing_by : (plan : Plan) (p : Option Session) (x : Option Standing) (o later : Option State) → (later ≡ o) ⊎ (later ≡ but_news o) → IsStanding plan t s before p x o → IsStanding plan t s after p x later
  standing_by plan (Some p) (Some x) (Some at) later (inl e) h = subst (λ q. IsStanding plan t s after (Some p) (Some x) q) (sym e) (stands_still plan.schema plan.image p.requests x.closed x.running h)
  standing_by plan (Some p) (Some x) (Some at) later (inr e) h = subst (λ q. IsStanding plan t s after (Some p) (Some x) q) (sym e) (stands_still plan.schema plan.image p.requests x.closed x.running h)
  standing_by plan None None None later (inl e) h = subst (λ q. IsStanding plan t s after None None q) (sym e) tt
  standing_by plan None None None later (inr e) h = subst (λ q. IsStanding plan t s after None None q) (sym e) tt
  standing_by plan (Some p) (Some x) None later e h = absurd h
  standing_by plan (Some p) None o later e h = absurd h
  standing_by plan None (Some x) o later e h = absurd h
  standing_by plan None None (Some at) later e h = absurd h

  which : IsUndisturbed t s before after → (slice_get (sessions_at t after.tenants) s ≡ slice_get (sessions_at t before.tenants) s) ⊎ (slice_get (sessions_at t after.tenants) s ≡ but_news (slice_get (sessions_at t before.tenants) s))
  which (inl u) = inl u.0
  which (inr u) = inr u

  pub standing_still : (plan : Plan) (p : Option Session) (x : Option Standing) → IsStanding plan t s before p x (slice_get (sessions_at t before.tenants) s) → IsStanding plan t s after p x (slice_get (sessions_at t after.tenants) s)
  standing_still plan p x h = standing_by plan p x (slice_get (sessions_at t before.tenants) s) (slice_get (sessions_at t after.tenants) s) (which undisturbed) h
