-- The trail so far, event by event.
use Rattle.std.proofs.Common.{◌≡◌, refl, sym, ap, subst, ◌∙◌, ℕ, List, [], ◌∷◌, ◌++◌, Some}
use Rattle.apex_requests.specs.declared.reply.Event.{Event}
use Rattle.apex_requests.specs.declared.reply.EventKind.{EventKind}
use Rattle.legal_trails.specs.Legal.{LegalFrom, LegalTo, State, Step, first_state}
use Rattle.stack_code.specs.declared.image.Image.{Image}
use Rattle.tenant_parts.specs.declared.part.TenantPart.{TenantPart}
use Rattle.tenant_shards.specs.declared.kept.Kept.{Kept}
use Rattle.tenant_shards.specs.Parts.{tenant_of}
use Rattle.tenant_shards.specs.Shards.{IsLegal, Shared}
use Rattle.tenant_shards.specs.Tenants.{kept_at, part_at, part_of, sessions_at, sessions_in, trail_in}
use Rattle.tenant_shards.proofs.Holders.{held_is}
use Rattle.tenant_shards.proofs.Legality.{state_at}
use Rattle.tenant_shards.proofs.Tenants.{kept_from, trail_own}
use Rattle.session_turns.specs.Calls.{IsRunSoFar}
use Rattle.session_runs.specs.Replies.{RepliesAt, RunsFrom}

some_is : {A : Type 0} {a b : A} → Some a ≡ Some b → a ≡ b
some_is e = cc

-- what is kept of a tenant whose part is known
pub record Is (part : TenantPart) (tenant : ℕ) (shard : Shared) : Type 0 where
  pub kept : Kept
  pub is_kept : kept_at tenant shard.tenants ≡ Some kept
  pub part_is : kept.part ≡ part

pub kept_is : (part : TenantPart) (tenant : ℕ) (shard : Shared) → part_at tenant shard.tenants ≡ Some part → Is part tenant shard
kept_is part tenant shard e =
    let k = kept_from (kept_at tenant shard.tenants) part e in
    record { kept = k.0; is_kept = k.1; part_is = some_is (sym (ap part_of k.1) ∙ e) }

pub session_kept : (part : TenantPart) (tenant : ℕ) (shard : Shared) (k : Is part tenant shard) → sessions_at tenant shard.tenants ≡ k.kept.sessions
session_kept part tenant shard k = ap sessions_in k.is_kept

module _ (part : TenantPart) (image : Image) where
  -- such a trail is legal
  pub legal : (trail : List Event) (st after : State) → RunsFrom part image st trail after → LegalFrom (tenant_of part) st trail after
  legal [] st after h = h
  legal (e ∷ es) st after h = (h.0, h.1, legal es h.0 after h.3)

  runs_more : (trail : List Event) (st mid after : State) (e : Event) → RunsFrom part image st trail mid → Step (tenant_of part) mid e after → RepliesAt part image mid e.session e.kind → RunsFrom part image st (trail ++ e ∷ []) after
  runs_more [] st mid after e l step reply = (after, subst (λ x. Step (tenant_of part) x e after) l step, subst (λ x. RepliesAt part image x e.session e.kind) l reply, refl)
  runs_more (f ∷ trail) st mid after e l step reply = (l.0, l.1, l.2, runs_more trail l.0 mid after e l.3 step reply)

  module _ (t : ℕ) where
    abbrev pub legal_of : (shard : Shared) (st : State) (p : IsRunSoFar image part t shard st) (k : Is part t shard) → IsLegal t k.kept shard
    legal_of shard st p k = record {
      after = st;
      legal = subst (λ x. LegalTo (tenant_of x) (trail_in t shard.entries) st) (sym k.part_is) (legal (trail_in t shard.entries) (first_state (tenant_of part)) st p.is);
      store = p.store;
      sessions = p.sessions ∙ ap sessions_in k.is_kept;
      held = p.held;
    }

    -- one event more
    pub more : (before after : Shared) (st : State) (s : ℕ) (kind : EventKind) (p : IsRunSoFar image part t before st) → after.entries ≡ before.entries ++ record { tenant = t; event = record { session = s; kind = kind } } ∷ [] →
        Step (tenant_of part) st (record { session = s; kind = kind }) (state_at t after) → RepliesAt part image st s kind → IsRunSoFar image part t after (state_at t after)
    more before after st s kind p entries step reply = record {
      is =
          subst (λ es. RunsFrom part image (first_state (tenant_of part)) es (state_at t after)) (sym (ap (trail_in t) entries ∙ trail_own t before.entries (record { session = s; kind = kind })))
          (runs_more (trail_in t before.entries) (first_state (tenant_of part)) st (state_at t after) (record { session = s; kind = kind }) p.is step reply);
      store = refl;
      sessions = refl;
      held = λ id. held_is t after.locks id;
    }
