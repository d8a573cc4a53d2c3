-- The plans of tenants, and a shard that begins with them.
use Rattle.std.proofs.Common.{arith, ◌≡◌, refl, sym, ap, subst, ◌∙◌, ℕ, suc, ◌+◌, ◌<◌, eqb, Bool, true, false, List, [], ◌∷◌, ◌++◌, get_or, length, take, Option, None, Some}
use Rattle.std.specs.Prelude.{◌||◌}
use Rattle.std.specs.List.{list_any}
use Rattle.std.proofs.lemmas.Bool.{eqb-true}
use Rattle.std.proofs.lemmas.List.{take_more}
use Rattle.attempt_run.specs.Plans.{ArePlans, HaveNumbers}
use Rattle.attempt_run.specs.Stages.{AreNew, Begins}
use Rattle.attempt_run.specs.declared.plan.Plan.{Plan}
use Rattle.save_stages.specs.Does.{IsSound}
use Rattle.tenant_parts.specs.declared.part.TenantPart.{TenantPart}
use Rattle.tenant_shards.specs.Shards.{AreOpened, Shared, numbers}
use Rattle.tenant_shards.specs.Tenants.{Differ, part_of, sessions_in}
use Rattle.tenant_runs.specs.Steps.{ArePlanned, IsPlannedBy, numbered}
use Rattle.tenant_runs.specs.Tenants.{AllHaveRoom, tenants_of}

cons_nil : {A : Type 0} {x : A} {xs : List A} → x ∷ xs ≡ [] → ⊥
cons_nil e = cc

planned_more : (ps : List (Option TenantPart)) (plans : List (Option Plan)) (p : Option TenantPart) (plan : Option Plan) → ArePlanned ps plans → IsPlannedBy p plan → ArePlanned (ps ++ p ∷ []) (plans ++ plan ∷ [])
planned_more [] [] p plan h one = (one, refl)
planned_more [] (x ∷ plans) p plan h one = absurd (cons_nil h)
planned_more (q ∷ ps) [] p plan h one = absurd h
planned_more (q ∷ ps) (x ∷ plans) p plan h one = (h.0, planned_more ps plans p plan h.1 one)

pub planned_next : (ps : List (Option TenantPart)) (n : ℕ) (d : Option TenantPart) (plans later : List (Option Plan)) (plan : Option Plan) → n < length ps → ArePlanned (take n ps) plans → IsPlannedBy (get_or ps n d) plan → later ≡ plans ++ plan ∷ [] → ArePlanned (take (n + 1) ps) later
planned_next ps n d plans later plan lt h one e =
    subst (λ xs. ArePlanned (take (n + 1) ps) xs) (sym e) (subst (λ qs. ArePlanned qs (plans ++ plan ∷ [])) (sym (take_more ps n d lt)) (planned_more (take n ps) plans (get_or ps n d) plan h one))

pub are_plans : (ps : List (Option TenantPart)) (plans : List (Option Plan)) → ArePlanned ps plans → AllHaveRoom ps → ArePlans plans
are_plans [] [] h room = tt
are_plans [] (x ∷ plans) h room = absurd (cons_nil h)
are_plans (p ∷ ps) [] h room = absurd h
are_plans (None ∷ ps) (None ∷ plans) h room = are_plans ps plans h.1 room
are_plans (Some p ∷ ps) (Some plan ∷ plans) h room =
    (record { sound = subst IsSound (sym h.0.schema) room.0.0; numbers = subst HaveNumbers (sym h.0.sessions) room.0.1 }, are_plans ps plans h.1 room.1)
are_plans (None ∷ ps) (Some plan ∷ plans) h room = absurd h.0
are_plans (Some p ∷ ps) (None ∷ plans) h room = absurd h.0

-- ---- a shard that begins

are_new : (t : ℕ) (ps : List (Option TenantPart)) (plans : List (Option Plan)) (shard : Shared) → ArePlanned ps plans → AreOpened shard (numbered t ps) → AreNew t plans shard (tenants_of ps)
are_new t [] [] shard h o = tt
are_new t [] (x ∷ plans) shard h o = absurd (cons_nil h)
are_new t (p ∷ ps) [] shard h o = absurd h
are_new t (None ∷ ps) (None ∷ plans) shard h o = (tt, are_new (suc t) ps plans shard h.1 o)
are_new t (Some p ∷ ps) (Some plan ∷ plans) shard h o = (
  record {
    part = p;
    is_part = ap part_of o.0.kept;
    means = h.0.means;
    schema_is = sym h.0.schema;
    sessions_are = sym h.0.sessions;
    tenant_is = refl;
    rows = o.0.rows;
    sessions = ap sessions_in o.0.kept;
  },
  are_new (suc t) ps plans shard h.1 o.1,
)
are_new t (None ∷ ps) (Some plan ∷ plans) shard h o = absurd h.0
are_new t (Some p ∷ ps) (None ∷ plans) shard h o = absurd h.0

pub begins : (ps : List (Option TenantPart)) (plans : List (Option Plan)) (shard : Shared) → ArePlanned ps plans → AreOpened shard (numbered 0 ps) → shard.locks ≡ [] → shard.entries ≡ [] → Begins plans shard (tenants_of ps)
begins ps plans shard h o locks entries = record { new = are_new 0 ps plans shard h o; locks = locks; entries = entries }

-- ---- their numbers

or_false : (a b : Bool) → a ≡ false → b ≡ false → (a || b) ≡ false
or_false a b e f = ap (λ x. x || b) e ∙ f

other_number : (n t : ℕ) → n < t → eqb n t ≡ false
other_number n t lt = by (eqb n t) refl where
  by : (b : Bool) → eqb n t ≡ b → eqb n t ≡ false
  by false q = q
  by true q = let same = eqb-true n t q in absurd (omega (arith, lt, same))

none_behind : (n t : ℕ) (ps : List (Option TenantPart)) → n < t → list_any (eqb n) (numbers (numbered t ps)) ≡ false
none_behind n t [] lt = refl
none_behind n t (None ∷ ps) lt = none_behind n (suc t) ps (omega (arith, lt))
none_behind n t (Some p ∷ ps) lt = or_false (eqb n t) (list_any (eqb n) (numbers (numbered (suc t) ps))) (other_number n t lt) (none_behind n (suc t) ps (omega (arith, lt)))

pub differ : (t : ℕ) (ps : List (Option TenantPart)) → Differ (numbers (numbered t ps))
differ t [] = tt
differ t (None ∷ ps) = differ (suc t) ps
differ t (Some p ∷ ps) = (none_behind t (suc t) ps (omega arith), differ (suc t) ps)
