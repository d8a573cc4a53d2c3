-- The calls of a shard, one behind the other.
use Rattle.std.proofs.Common.{◌≡◌, inl, refl, sym, ap, subst, ◌∙◌, ℕ, List, [], ◌∷◌, ◌++◌, Some}
use Rattle.std.specs.Prelude.{Result, Ok, Err, OnOk, MatchResult, slice_get, slice_set}
use Rattle.apex_requests.specs.declared.reply.EventKind.TheVariants.{Restart}
use Rattle.session_states.specs.States.{begins_again}
use Rattle.record_store.specs.Heaps.{rows_in}
use Rattle.row_locks.specs.Holders.{but}
use Rattle.tenant_shards.specs.declared.log.Log.{Log}
use Rattle.tenant_shards.specs.Logs.{IsCurrent, IsStale}
use Rattle.tenant_shards.specs.Shards.{HasOpen, Keeps, RestartsSo, Shared, Stays}
use Rattle.tenant_shards.specs.Tenants.{part_at, part_of, sessions_in}
use Rattle.session_turns.specs.Calls.{Beside, IsAgain, MayBeginAgain}
use Rattle.session_turns.proofs.SoFar.{Is, kept_is, session_kept}

pub on_ok : {A E : Type 0} {P R : Type 0} (Q : E → Type 0) (r : Result A E) → (P → R) → MatchResult r (λ _. P) Q → OnOk r R
on_ok Q (Ok x) f m = f m
on_ok Q (Err x) f m = tt

pub map_ok : {A E : Type 0} {P R : Type 0} (r : Result A E) → (P → R) → OnOk r P → OnOk r R
map_ok (Ok x) f m = f m
map_ok (Err x) f m = tt

module _ (tenant s : ℕ) (log : Log) (a b : Shared) (keeps : Keeps tenant a b) (stays : Stays tenant a b) where
  -- where nothing changed, a request may begin again still
  pub again_still : MayBeginAgain a tenant s log → MayBeginAgain b tenant s log
  again_still m =
      let k : Is m.has.is.kept.part tenant b = kept_is m.has.is.kept.part tenant b (keeps.part ∙ ap part_of m.has.is.is_kept) in
      record {
        has = record {
          is = record {
            kept = k.kept;
            is_kept = k.is_kept;
            at = m.has.is.at;
            is_session = ap (λ ss. slice_get ss s) (sym (session_kept m.has.is.kept.part tenant b k) ∙ stays.sessions ∙ ap sessions_in m.has.is.is_kept) ∙ m.has.is.is_session;
          };
          o = m.has.o;
          opened = m.has.opened;
        };
        seen = λ quiet. subst (λ rows. IsCurrent rows log) (sym stays.rows) (m.seen quiet);
        few = λ differs. m.few (λ current. differs (subst (λ rows. IsCurrent rows log) (sym stays.rows) current));
      }

  pub stale_still : (k : ℕ) → IsStale (rows_in tenant a.rows) log k → IsStale (rows_in tenant b.rows) log k
  stale_still k stale = subst (λ rows. IsStale rows log k) (sym stays.rows) stale

  pub beside_still : Beside tenant s a b
  beside_still = record { keeps = keeps; sessions = λ t n. inl (ap (λ ss. slice_get ss t) stays.sessions, stays.rows); held = λ id. ap (but s) (stays.held id) }

  pub again_from : (c : Shared) → IsAgain tenant s log b c → IsAgain tenant s log a c
  again_from c h = (
    h.0,
    subst (λ rows. IsStale rows log h.0) stays.rows h.1,
    record {
      entries = h.2.entries ∙ ap (λ es. es ++ record { tenant = tenant; event = record { session = s; kind = Restart } } ∷ []) stays.entries;
      sessions = λ at is. h.2.sessions at (ap (λ ss. slice_get ss s) stays.sessions ∙ is) ∙ ap (λ ss. slice_set ss s (begins_again at)) stays.sessions;
      rows = h.2.rows ∙ stays.rows;
      held = λ id. h.2.held id ∙ ap (but s) (stays.held id);
    },
  )
