-- The start of a request.
use Rattle.std.proofs.Common.{arith, ◌≡◌, refl, sym, ap, subst, ◌∙◌, ℕ, zero, ◌≤◌, false, List, [], ◌∷◌, ◌++◌, Option, None, Some}
use Rattle.std.specs.Prelude.{slice_get, slice_set}
use Rattle.apex_requests.specs.declared.reply.EventKind.TheVariants.{Start}
use Rattle.apex_requests.specs.declared.request.Request.{Request}
use Rattle.apex_rows.specs.declared.query.Answer.{Answer}
use Rattle.apex_schema.specs.declared.schema.Schema.{Schema}
use Rattle.record_store.specs.Heaps.{rows_in}
use Rattle.row_locks.specs.Locks.{holder_of}
use Rattle.legal_trails.specs.Legal.{State, Step, is_by}
use Rattle.stack_code.specs.declared.image.Image.{Image}
use Rattle.tenant_parts.specs.declared.part.TenantPart.{TenantPart}
use Rattle.tenant_shards.specs.declared.change.Change.TheVariants.{Starts}
use Rattle.tenant_shards.specs.Parts.{request_at, tenant_of, ticket_of}
use Rattle.tenant_shards.specs.Shards.{Happens, Keeps, MayStart, Shared, StartsSo}
use Rattle.tenant_shards.specs.Tenants.{part_at, sessions_at, trail_in}
use Rattle.tenant_shards.proofs.Legality.{start_step, state_at}
use Rattle.tenant_shards.proofs.Tenants.{trail_own}
use Rattle.session_turns.specs.Calls.{Beside, IsClosed, IsOn, IsRunSoFar, MovesFrom, MovesSo, closed_session, no_log, open_session}
use Rattle.session_turns.specs.Turns.{HasRequest, TurnsSo}
use Rattle.session_turns.proofs.Attempts.{is_below}
use Rattle.session_turns.proofs.Frames.{set_same, starts}
use Rattle.session_turns.proofs.SoFar.{Is, kept_is, legal_of, more, session_kept}
use Rattle.session_turns.proofs.Turning.{by_first_move}

module _ (schema : Schema) (image : Image) (request : Request) (tenant s i : ℕ) (shard : Shared) (closed : IsClosed tenant s i shard) (has : HasRequest schema image request tenant s i shard) where
  abbrev pub kept : Is has.part tenant shard
  kept = kept_is has.part tenant shard has.is_part

  abbrev pub may_start : MayStart shard tenant s
  may_start =
      let b = is_below kept.kept.part.sessions s i request (subst (λ p. request_at p.sessions s i ≡ Some request) (sym kept.part_is) has.is_there) in
      record {
        is = record { kept = kept.kept; is_kept = kept.is_kept; at = closed_session i; is_session = sym (ap (λ ss. slice_get ss s) (session_kept has.part tenant shard kept)) ∙ closed.session };
        free = refl;
        most = b.most;
        is_most = b.is_most;
        below = b.below;
      }

  module _ (k : ℕ) (after : Shared) (starts_so : StartsSo tenant s k shard after) (keeps : Keeps tenant shard after) where
    happens : Happens tenant s (Start i) Starts (rows_in tenant shard.rows) (holder_of tenant shard.locks) shard after
    happens = subst (λ n. Happens tenant s (Start n) Starts (rows_in tenant shard.rows) (holder_of tenant shard.locks) shard after) (starts_so.next (closed_session i) closed.session) starts_so.happens

    pub opens : IsOn schema image (ticket_of request s i) request.work tenant 0 no_log after
    opens = record {
      part = has.part;
      is_part = keeps.part ∙ has.is_part;
      means = has.means;
      schema_is = has.schema_is;
      request = request;
      is_request = has.is_there;
      ticket_is = refl;
      work_is = refl;
      moved = false;
      session = ap (λ ss. slice_get ss s) (happens.sessions (closed_session i) closed.session) ∙ set_same (sessions_at tenant shard.tenants) s (closed_session i) (open_session i 0 0 false) closed.session;
      asks = tt;
      holds = λ id. ap (is_by s) (happens.held id) ∙ closed.free id;
      seen = λ quiet. tt;
      few = nothing;
    } where
      nothing : 0 ≤ 3
      nothing = omega arith

    pub opens_beside : Beside tenant s shard after
    opens_beside = starts tenant s shard after may_start.is (Start i) keeps happens

    step : (st : State) → IsRunSoFar image has.part tenant shard st → Step (tenant_of has.part) st (record { session = s; kind = Start i }) (state_at tenant after)
    step st so_far =
        subst (λ p. Step (tenant_of p) st (record { session = s; kind = Start i }) (state_at tenant after)) kept.part_is
        (start_step tenant s shard after may_start i refl happens (legal_of has.part image tenant shard st so_far kept))

    from : (st : State) → IsRunSoFar image has.part tenant shard st → MovesFrom has.part image tenant s [] (Some (Start i)) [] after st
    from st so_far = record {
      next = state_at tenant after;
      so_far = more has.part image tenant shard after st s (Start i) so_far happens.entries (step st so_far) tt;
      moves = λ tapes e. record {
        session = closed_session i;
        is_session = ap (λ ss. slice_get ss s) so_far.sessions ∙ closed.session;
        later = [];
        goes = ((i, refl), refl);
        happens = step st so_far;
        tapes = refl;
      };
    }

    moves : MovesSo image tenant s [] [] shard after
    moves = record {
      kind = Some (Start i);
      entries = ap (trail_in tenant) happens.entries ∙ trail_own tenant shard.entries (record { session = s; kind = Start i });
      from = λ part e st so_far.
          let same = part_is part e in
          subst (λ p. MovesFrom p image tenant s [] (Some (Start i)) [] after st) same (from st (subst (λ p. IsRunSoFar image p tenant shard st) (sym same) so_far));
    } where
      some_is : {A : Type 0} {a b : A} → Some a ≡ Some b → a ≡ b
      some_is e = cc

      part_is : (part : TenantPart) → part_at tenant shard.tenants ≡ Some part → has.part ≡ part
      part_is part e = some_is (sym has.is_part ∙ e)

    pub opens_turns : TurnsSo image tenant s [] [] shard after
    opens_turns = by_first_move image tenant s shard after [] i closed moves
