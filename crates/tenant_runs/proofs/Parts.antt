-- The sessions of a part: they and their requests are as many as planned, and each request is of a user.
use Rattle.std.proofs.Common.{arith, ◌≡◌, refl, ap, sym, ◌∙◌, subst, ℕ, suc, ◌+◌, ◌<◌, ◌≤◌, Bool, true, false, List, [], ◌∷◌, length, Option, None, Some}
use Rattle.std.specs.Prelude.{cond, bytes_eq, All}
use Rattle.std.proofs.lemmas.List.{length-map}
use Rattle.std.proofs.lemmas.List.Elements.{All-cons, All-head, All-nil, All-tail}
use Rattle.apex_text.specs.Fold.{folded}
use Rattle.schema_names.specs.Names.{one_more, place_of}
use Rattle.schema_plans.specs.Schemas.{number_or}
use Rattle.schema_plans.specs.declared.plan.UserPlan.{UserPlan}
use Rattle.apex_requests.specs.declared.request.Request.{Request}
use Rattle.apex_schema.specs.declared.schema.Schema.{Schema}
use Rattle.apex_syntax.specs.declared.unit.Unit.{Unit as Tree}
use Rattle.bundle_read.specs.Laws.{HasFewRequests}
use Rattle.bundle_read.specs.declared.entries.RequestEntry.{RequestEntry}
use Rattle.bundle_read.specs.declared.entries.SessionEntry.{SessionEntry}
use Rattle.record_ids.specs.Ids.{most}
use Rattle.session_runs.specs.Sessions.{HaveUsers}
use Rattle.tenant_parts.specs.declared.session.Session.{Session}
use Rattle.tenant_requests.specs.declared.open.OpenRequest.{OpenRequest}
use Rattle.tenant_requests.specs.declared.open.OpenSession.{OpenSession}
use Rattle.tenant_requests.specs.Requests.{AreOpen, AreOpenSessions, AreClosed, AreClosedSessions}
use Rattle.tenant_sessions.specs.Users.{AreUsers, names, user_of}
use Rattle.type_names.specs.declared.fault.TreeFault.{TreeFault}
use Rattle.tenant_runs.specs.Laws.{PartsHaveRoom}
use Rattle.attempt_run.specs.Plans.{HasNumbers, HaveNumbers}
use Rattle.tenant_runs.proofs.Prefixes.{sound}

cons_nil : {A : Type 0} {x : A} {xs : List A} → x ∷ xs ≡ [] → ⊥
cons_nil e = cc

-- ---- the user of a session

found : (b : Bool) (o : Option ℕ) (most n : ℕ) → ((k : ℕ) → o ≡ Some k → k < most) → cond b (Some 0) (one_more o) ≡ Some n → n < suc most
found true o most n h e = let is : 0 ≡ n = ap number_or e in omega arith
found false None most n h e = cc
found false (Some k) most n h e =
    let is : k + 1 ≡ n = ap number_or e in
    let below = h k refl in
    omega arith

place_below : (ns : List (List ℕ)) (name : List ℕ) (n : ℕ) → place_of ns name ≡ Some n → n < length ns
place_below [] name n e = cc
place_below (m ∷ ns) name n e = found (bytes_eq m name) (place_of ns name) (length ns) n (place_below ns name) e

abbrev first_or : List (Option ℕ) → Option ℕ
first_or [] = None
first_or (o ∷ os) = o

user_below : (users : List UserPlan) (e : SessionEntry) (es : List SessionEntry) (u : ℕ) (us : List ℕ) → AreUsers users (e ∷ es) (u ∷ us) → u < length users
user_below users e es u us are =
    let is : user_of (names users) e ≡ Some u = ap first_or are in
    let below = place_below (names users) (folded e.user) u is in
    let same = length-map users (λ (p : UserPlan). folded p.name) in
    omega (arith, below, same)

abbrev rest_of : List (Option ℕ) → List (Option ℕ)
rest_of [] = []
rest_of (o ∷ os) = os

users_behind : (users : List UserPlan) (e : SessionEntry) (es : List SessionEntry) (u : ℕ) (us : List ℕ) → AreUsers users (e ∷ es) (u ∷ us) → AreUsers users es us
users_behind users e es u us are = ap rest_of are

-- ---- its requests

abbrev AreOf : ℕ → List OpenRequest → Type 0
AreOf u [] = Unit {0}
AreOf u (r ∷ rs) = (r.user ≡ u) × AreOf u rs

open_users : (schema : Schema) (u : ℕ) (es : List RequestEntry) (before : List Tree) (rs : List OpenRequest) (behind : List Tree) → AreOpen schema u es before rs behind → AreOf u rs
open_users schema u [] before rs behind h = subst (AreOf u) (sym h.0) tt
open_users schema u (e ∷ es) before [] behind h = absurd h
open_users schema u (e ∷ es) before (r ∷ rs) behind h = (h.1.user_is, open_users schema u es h.0 rs behind h.2)

closed_users : (u : ℕ) → suc u < most → (faults : List (Option TreeFault)) (rs : List OpenRequest) (qs : List Request) → AreClosed faults rs qs → AreOf u rs → HaveUsers qs
closed_users u lt faults [] qs c h = subst HaveUsers (sym c) tt
closed_users u lt faults (r ∷ rs) [] c h = absurd c
closed_users u lt faults (r ∷ rs) (q ∷ qs) c h = (subst (λ n. suc n < most) (sym (c.0.user_is ∙ h.0)) lt, closed_users u lt faults rs qs c.1 h.1)

open_length : (schema : Schema) (u : ℕ) (es : List RequestEntry) (before : List Tree) (rs : List OpenRequest) (behind : List Tree) → AreOpen schema u es before rs behind → length rs ≡ length es
open_length schema u [] before rs behind h = ap length h.0
open_length schema u (e ∷ es) before [] behind h = absurd h
open_length schema u (e ∷ es) before (r ∷ rs) behind h = ap suc (open_length schema u es h.0 rs behind h.2)

closed_length : (faults : List (Option TreeFault)) (rs : List OpenRequest) (qs : List Request) → AreClosed faults rs qs → length qs ≡ length rs
closed_length faults [] qs h = ap length h
closed_length faults (r ∷ rs) [] h = absurd h
closed_length faults (r ∷ rs) (q ∷ qs) h = ap suc (closed_length faults rs qs h.1)

each : (schema : Schema) (plans : List UserPlan) (users : List ℕ) (es : List SessionEntry) (before : List Tree) (ss : List OpenSession) (behind : List Tree) (faults : List (Option TreeFault)) (ts : List Session)
    → length plans ≤ 1000000 → AreUsers plans es users → AreOpenSessions schema users es before ss behind → AreClosedSessions faults ss ts → All HasFewRequests es → All HasNumbers ts × (length ts ≡ length es)
each schema plans users [] before [] behind faults ts m a o c h = (subst (All HasNumbers) (sym c) (All-nil HasNumbers), ap length c)
each schema plans users [] before (s ∷ ss) behind faults ts m a o c h = absurd (cons_nil o.0)
each schema plans [] (x ∷ xs) before ss behind faults ts m a o c h = absurd o
each schema plans (u ∷ us) (x ∷ xs) before [] behind faults ts m a o c h = absurd o
each schema plans (u ∷ us) (x ∷ xs) before (s ∷ ss) behind faults [] m a o c h = absurd c
each schema plans (u ∷ us) (x ∷ xs) before (s ∷ ss) behind faults (t ∷ ts) m a o c h =
    let below = user_below plans x xs u us a in
    let many : most ≡ 14776336 = refl in
    let lt : suc u < most = omega (arith, below, many, m) in
    let count : length t.requests ≡ length x.requests = closed_length faults s.requests t.requests c.0 ∙ open_length schema u x.requests before s.requests o.0 o.1 in
    let least = All-head HasFewRequests x xs h in
    let numbers : HasNumbers t = (omega (arith, count, least), closed_users u lt faults s.requests t.requests c.0 (open_users schema u x.requests before s.requests o.0 o.1)) in
    let more = each schema plans us xs o.0 ss behind faults ts m (users_behind plans x xs u us a) o.2 c.1 (All-tail HasFewRequests x xs h) in
    (All-cons HasNumbers t ts numbers more.0, ap suc more.1)

numbered : (ts : List Session) (es : List SessionEntry) → length es ≤ 10000 → All HasNumbers ts × (length ts ≡ length es) → HaveNumbers ts
numbered ts es e h =
    let many : most ≡ 14776336 = refl in
    let same = h.1 in
    record { few = omega (arith, e, many, same); each = h.0 }

pub parts_have_room : PartsHaveRoom
parts_have_room plan part p bounds = (
  sound plan.schema part.schema p.deployed bounds.users,
  numbered part.sessions plan.sessions bounds.sessions
      (each part.schema plan.schema.users p.users plan.sessions [] p.rest.opened p.rest.blocks _ part.sessions bounds.users p.are_users p.rest.are_open p.rest.are_closed bounds.requests),
)
