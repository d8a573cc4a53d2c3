-- What tenants come to, where the turns of their sessions were made.
use Rattle.std.proofs.Common.{arith, ◌≡◌, refl, sym, ap, subst, ◌∙◌, ℕ, zero, suc, ◌+◌, ◌<◌, cond, Bool, true, false, List, [], ◌∷◌, ◌++◌, append_assoc, length, length-append, map, Option, None, Some}
use Rattle.std.specs.Prelude.{Result, Ok, Err, IfOk, nat_lt, replicate, slice_get, slice_set}
use Rattle.std.proofs.lemmas.Bool.{ltb-false}
use Rattle.std.proofs.lemmas.Option.{slice_get_within}
use Rattle.apex_requests.specs.declared.reply.Event.{Event}
use Rattle.attempt_run.specs.Picks.{pick_of}
use Rattle.attempt_run.specs.Stages.{ArePlaced, AreServed, IsPlaced, IsStanding, SameParts}
use Rattle.attempt_run.specs.declared.plan.Plan.{Plan}
use Rattle.legal_trails.specs.Legal.{LegalFrom, Session as State, State as Rows, first_state}
use Rattle.legal_trails.specs.Served.{Pick, Place, Stage, first_from, first_in, first_pick, or_picked, own}
use Rattle.legal_trails.specs.TurnLaws.{ServedIsTurned}
use Rattle.legal_trails.specs.Turns.{IsTurned}
use Rattle.session_runs.specs.Replies.{RunsFrom}
use Rattle.session_turns.specs.Calls.{closed_session}
use Rattle.session_turns.specs.Turns.{Stands, StandsBy}
use Rattle.session_turns.specs.declared.attempt.Attempt.{Attempt}
use Rattle.session_turns.specs.declared.attempt.Standing.{Standing}
use Rattle.stack_code.specs.declared.image.Image.{Image}
use Rattle.tenant_parts.specs.declared.part.TenantPart.{TenantPart}
use Rattle.tenant_parts.specs.declared.session.Session.{Session}
use Rattle.tenant_shards.specs.Finishes.{AreFinished}
use Rattle.tenant_shards.specs.Parts.{counts_of, tenant_of}
use Rattle.tenant_shards.specs.Shards.{AreOpened, Shared, numbers}
use Rattle.tenant_shards.specs.Tenants.{part_at, part_of, sessions_at, trail_in}
use Rattle.tenant_shards.specs.declared.finish.Finished.{Finished}
use Rattle.turn_lists.specs.declared.turn.Turn.{Turn}
use Rattle.tenant_runs.specs.Steps.{ArePlanned, IsPlanned, dealt, images_in, numbered}
use Rattle.tenant_runs.specs.Tenants.{AreRan, EachRan, IsRan, tenants_of, trails_of}

some_is : {A : Type 0} {a b : A} → Some a ≡ Some b → a ≡ b
some_is e = cc

none_some : {A : Type 0} {a : A} → ◌≡◌ {A = Option A} None (Some a) → ⊥
none_some e = cc

some_none : {A : Type 0} {a : A} → ◌≡◌ {A = Option A} (Some a) None → ⊥
some_none e = cc

cons_nil : {A : Type 0} {x : A} {xs : List A} → x ∷ xs ≡ [] → ⊥
cons_nil e = cc

true_false : true ≡ false → ⊥
true_false e = cc

-- ---- a session

-- where it has no request that isn't closed, it has closed them all, and none is open
abbrev pub IsOver : Option Session → Option State → Type 0
IsOver (Some p) (Some a) = nat_lt a.closed (length p.requests) ≡ false → a ≡ closed_session (length p.requests)
IsOver None None = Unit {0}
IsOver None (Some a) = ⊥
IsOver (Some p) None = ⊥

over_by : (plan : Plan) (t s : ℕ) (shard : Shared) (p : Session) (x : Standing) (a : State) (o : Option Attempt) → x.running ≡ o → slice_get (sessions_at t shard.tenants) s ≡ Some a → Stands plan.schema plan.image p.requests t s x shard → nat_lt a.closed (length p.requests) ≡ false → a ≡ closed_session (length p.requests)
over_by plan t s shard p x a None e is h over =
    let k = subst (λ r. StandsBy plan.schema plan.image p.requests t s x.closed r shard) e h in
    let same : a ≡ closed_session x.closed = some_is (sym is ∙ k.0.session) in
    let count : a.closed ≡ x.closed = ap (λ (y : State). y.closed) same in
    let most = k.1 in
    let least = ltb-false a.closed (length p.requests) over in
    let whole : x.closed ≡ length p.requests = omega (arith, count, most, least) in
    same ∙ ap closed_session whole
over_by plan t s shard p x a (Some attempt) e is h over =
    let k = subst (λ r. StandsBy plan.schema plan.image p.requests t s x.closed r shard) e h in
    let count : a.closed ≡ x.closed = ap (λ (y : State). y.closed) (some_is (sym is ∙ k.tried.on.session)) in
    let below : x.closed < length p.requests = slice_get_within p.requests x.closed k.request k.is_request in
    let least = ltb-false a.closed (length p.requests) over in
    absurd (omega (arith, count, below, least))

over : (plan : Plan) (t s : ℕ) (shard : Shared) (p : Option Session) (x : Option Standing) (o : Option State) → slice_get (sessions_at t shard.tenants) s ≡ o → IsStanding plan t s shard p x o → IsOver p o
over plan t s shard (Some p) (Some x) (Some a) is h = over_by plan t s shard p x a x.running refl is h
over plan t s shard None None None is h = tt
over plan t s shard (Some p) (Some x) None is h = absurd h
over plan t s shard (Some p) None o is h = absurd h
over plan t s shard None (Some x) o is h = absurd h
over plan t s shard None None (Some a) is h = absurd h

-- ---- the sessions of a tenant

head_none : (b : Bool) (n : ℕ) (o : Option ℕ) → cond b (Some n) o ≡ None → (b ≡ false) × (o ≡ None)
head_none true n o e = absurd (some_none e)
head_none false n o e = (refl, e)

all_over : (n : ℕ) (ps : List Session) (ss : List State) → ((k : ℕ) → IsOver (slice_get ps k) (slice_get ss k)) → first_from n (counts_of ps) ss ≡ None → ss ≡ map (λ (m : ℕ). closed_session m) (counts_of ps)
all_over n [] [] h e = refl
all_over n [] (a ∷ ss) h e = absurd (h 0)
all_over n (p ∷ ps) [] h e = absurd (h 0)
all_over n (p ∷ ps) (a ∷ ss) h e =
    let both = head_none (nat_lt a.closed (length p.requests)) n (first_from (n + 1) (counts_of ps) ss) e in
    ap (λ x. x ∷ ss) (h 0 both.0) ∙ ap (λ more. closed_session (length p.requests) ∷ more) (all_over (n + 1) ps ss (λ k. h (suc k)) both.1)

legal_of : (part : TenantPart) (image : Image) (st : Rows) (es : List Event) (after : Rows) → RunsFrom part image st es after → LegalFrom (tenant_of part) st es after
legal_of part image st [] after r = r
legal_of part image st (e ∷ es) after r = (r.0, r.1, legal_of part image r.0 es after r.3)

-- ---- a tenant

module _ (t : ℕ) (part : TenantPart) (plan : Plan) (standings : List Standing) (shard : Shared) (place : Place) where
  -- it ran so that each session is at its end
  pub is_ran : (sessions : List ℕ) (trail : List Event) → IsPlanned part plan → part_at t shard.tenants ≡ Some part → IsPlaced plan standings t shard place → first_in (Some place) ≡ None → IsTurned place.tenant sessions place.trail → trail ≡ trail_in t shard.entries → IsRan part plan.image sessions trail
  is_ran sessions trail planned is p none turned told =
      let same : p.part ≡ part = some_is (sym p.is_part ∙ is) in
      let tenant : place.tenant ≡ tenant_of part = p.tenant_is ∙ ap tenant_of same in
      let runs : RunsFrom part plan.image (first_state (tenant_of part)) (trail_in t shard.entries) place.turning.state = subst (λ (x : TenantPart). RunsFrom x plan.image (first_state (tenant_of x)) (trail_in t shard.entries) place.turning.state) same p.so_far.is in
      let requests : place.tenant.requests ≡ counts_of plan.sessions = ap (λ x. x.requests) tenant ∙ ap counts_of (sym planned.sessions) in
      let each : (s : ℕ) → IsOver (slice_get plan.sessions s) (slice_get place.turning.state.sessions s) =
      λ s. subst (λ ss. IsOver (slice_get plan.sessions s) (slice_get ss s)) (sym p.so_far.sessions) (over plan t s shard (slice_get plan.sessions s) (slice_get standings s) (slice_get (sessions_at t shard.tenants) s) refl (p.each s))
      in
      let closed : place.turning.state.sessions ≡ map (λ (m : ℕ). closed_session m) (counts_of part.sessions) =
      all_over 0 plan.sessions place.turning.state.sessions each (ap (λ ns. first_from 0 ns place.turning.state.sessions) (sym requests) ∙ none) ∙ ap (λ ss. map (λ (m : ℕ). closed_session m) (counts_of ss)) planned.sessions
      in
      subst (λ es. IsRan part plan.image sessions es) (sym told) (record {
        means = planned.means;
        turned = subst (λ x. IsTurned x sessions (trail_in t shard.entries)) tenant (subst (λ es. IsTurned place.tenant sessions es) p.trail_is turned);
        closed = record { after = place.turning.state; is = legal_of part plan.image (first_state (tenant_of part)) (trail_in t shard.entries) place.turning.state runs; sessions = closed };
        runs = record { after = place.turning.state; is = runs; sessions = closed };
      })

-- ---- all tenants

picked_none : (t : ℕ) (a : Option ℕ) (b : Option Pick) → or_picked t a b ≡ None → (a ≡ None) × (b ≡ None)
picked_none t None b e = (refl, e)
picked_none t (Some s) b e = absurd (some_none e)

module _ (picks : List Pick) (before after : Shared) (parts_stay : SameParts before after) where
  each_ran : (t : ℕ) (ps : List (Option TenantPart)) (plans : List (Option Plan)) (all : List (List Standing)) (stage : Stage) → ArePlanned ps plans → AreOpened before (numbered t ps) → ArePlaced t plans all after stage → first_pick t stage ≡ None →
      ((k : ℕ) (place : Place) → slice_get stage k ≡ Some (Some place) → IsTurned place.tenant (own (t + k) picks) place.trail) → EachRan picks t ps (images_in plans) (trails_of stage)
  each_ran t [] [] [] [] h o p none turned = (refl, refl)
  each_ran t [] [] [] (x ∷ stage) h o p none turned = absurd p
  each_ran t [] [] (x ∷ all) stage h o p none turned = absurd p
  each_ran t [] (x ∷ plans) all stage h o p none turned = absurd (cons_nil h)
  each_ran t (q ∷ ps) [] all stage h o p none turned = absurd h
  each_ran t (q ∷ ps) (x ∷ plans) [] stage h o p none turned = absurd p
  each_ran t (q ∷ ps) (x ∷ plans) (y ∷ all) [] h o p none turned = absurd p
  each_ran t (None ∷ ps) (None ∷ plans) (y ∷ all) (None ∷ stage) h o p none turned =
      let both = picked_none t None (first_pick (t + 1) stage) none in
      let next : t + 1 ≡ suc t = omega arith in
      (refl, each_ran (suc t) ps plans all stage h.1 o p.1 (ap (λ n. first_pick n stage) (sym next) ∙ both.1) (λ k place e. subst (λ n. IsTurned place.tenant (own n picks) place.trail) (omega arith) (turned (suc k) place e)))
  each_ran t (Some q ∷ ps) (Some plan ∷ plans) (y ∷ all) (Some place ∷ stage) h o p none turned =
      let both = picked_none t (first_in (Some place)) (first_pick (t + 1) stage) none in
      let next : t + 1 ≡ suc t = omega arith in
      let more = each_ran (suc t) ps plans all stage h.1 o.1 p.1 (ap (λ n. first_pick n stage) (sym next) ∙ both.1) (λ k place e. subst (λ n. IsTurned place.tenant (own n picks) place.trail) (omega arith) (turned (suc k) place e)) in
      let here : IsTurned place.tenant (own t picks) place.trail = subst (λ n. IsTurned place.tenant (own n picks) place.trail) (omega arith) (turned 0 place refl) in
      let is_part : part_at t after.tenants ≡ Some q = parts_stay.parts t ∙ ap part_of o.0.kept in
      (is_ran t q plan y after place (own t picks) place.trail h.0 is_part p.0 both.0 here p.0.trail_is, more)
  each_ran t (None ∷ ps) (Some plan ∷ plans) (y ∷ all) (x ∷ stage) h o p none turned = absurd h.0
  each_ran t (Some q ∷ ps) (None ∷ plans) (y ∷ all) (x ∷ stage) h o p none turned = absurd h.0
  each_ran t (None ∷ ps) (None ∷ plans) (y ∷ all) (Some place ∷ stage) h o p none turned = absurd p.0
  each_ran t (Some q ∷ ps) (Some plan ∷ plans) (y ∷ all) (None ∷ stage) h o p none turned = absurd p.0

-- ---- what the shard left

set_at : (front : List (List Event)) (x y : List Event) (more : List (List Event)) (t : ℕ) → length front ≡ t → slice_set (front ++ x ∷ more) t y ≡ (front ++ y ∷ []) ++ more
set_at [] x y more zero e = refl
set_at [] x y more (suc t) e = cc
set_at (z ∷ front) x y more zero e = cc
set_at (z ∷ front) x y more (suc t) e = ap (λ ys. z ∷ ys) (set_at front x y more t (omega (arith, e)))

one_longer : (front : List (List Event)) (x : List Event) (t : ℕ) → length front ≡ t → length (front ++ x ∷ []) ≡ suc t
one_longer front x t e = let both = length-append front (x ∷ []) in omega (arith, e, both)

dealt_at : (after : Shared) (front : List (List Event)) (t : ℕ) (ps : List (Option TenantPart)) (plans : List (Option Plan)) (all : List (List Standing)) (stage : Stage) (left : List Finished) → length front ≡ t → ArePlanned ps plans → ArePlaced t plans all after stage → AreFinished after (numbers (numbered t ps)) left
    → dealt (front ++ replicate (length plans) []) left ≡ front ++ trails_of stage
dealt_at after front t [] [] [] [] [] e h p f = refl
dealt_at after front t [] [] [] [] (x ∷ left) e h p f = absurd f
dealt_at after front t [] [] [] (x ∷ stage) left e h p f = absurd p
dealt_at after front t [] [] (x ∷ all) stage left e h p f = absurd p
dealt_at after front t [] (x ∷ plans) all stage left e h p f = absurd (cons_nil h)
dealt_at after front t (q ∷ ps) [] all stage left e h p f = absurd h
dealt_at after front t (q ∷ ps) (x ∷ plans) [] stage left e h p f = absurd p
dealt_at after front t (q ∷ ps) (x ∷ plans) (y ∷ all) [] left e h p f = absurd p
dealt_at after front t (None ∷ ps) (None ∷ plans) (y ∷ all) (None ∷ stage) left e h p f =
    sym (ap (λ ts. dealt ts left) (append_assoc front ([] ∷ []) (replicate (length plans) [])))
    ∙ dealt_at after (front ++ [] ∷ []) (suc t) ps plans all stage left (one_longer front [] t e) h.1 p.1 f
    ∙ append_assoc front ([] ∷ []) (trails_of stage)
dealt_at after front t (Some q ∷ ps) (Some plan ∷ plans) (y ∷ all) (Some place ∷ stage) (fin ∷ left) e h p f =
    ap (λ n. dealt (slice_set (front ++ [] ∷ replicate (length plans) []) n fin.trail) left) f.0.number
    ∙ ap (λ ts. dealt ts left) (set_at front [] fin.trail (replicate (length plans) []) t e)
    ∙ dealt_at after (front ++ fin.trail ∷ []) (suc t) ps plans all stage left (one_longer front fin.trail t e) h.1 p.1 f.1
    ∙ append_assoc front (fin.trail ∷ []) (trails_of stage)
    ∙ ap (λ trail. front ++ trail ∷ trails_of stage) (f.0.trail ∙ sym p.0.trail_is)
dealt_at after front t (Some q ∷ ps) (Some plan ∷ plans) (y ∷ all) (Some place ∷ stage) [] e h p f = absurd f
dealt_at after front t (None ∷ ps) (Some plan ∷ plans) (y ∷ all) (x ∷ stage) left e h p f = absurd h.0
dealt_at after front t (Some q ∷ ps) (None ∷ plans) (y ∷ all) (x ∷ stage) left e h p f = absurd h.0
dealt_at after front t (None ∷ ps) (None ∷ plans) (y ∷ all) (Some place ∷ stage) left e h p f = absurd p.0
dealt_at after front t (Some q ∷ ps) (Some plan ∷ plans) (y ∷ all) (None ∷ stage) left e h p f = absurd p.0

pub all_ran : {E : Type 0} (r : Result (List (List Event)) E) (ps : List (Option TenantPart)) (plans : List (Option Plan)) (turns : List Turn) (before after : Shared) (left : List Finished) (count : ℕ) → ServedIsTurned → ArePlanned ps plans → AreOpened before (numbered 0 ps) → before.order ≡ numbers (numbered 0 ps) → SameParts before after
    → AreServed plans (tenants_of ps) (map pick_of turns) after → AreFinished after after.order left → count ≡ length plans → IfOk r (λ trails. trails ≡ dealt (replicate count []) left) → IfOk r (AreRan ps turns (images_in plans))
all_ran (Err x) ps plans turns before after left count law h o order same served f n told = tt
all_ran (Ok trails) ps plans turns before after left count law h o order same served f n told =
    let turned : (k : ℕ) (place : Place) → slice_get served.stage k ≡ Some (Some place) → IsTurned place.tenant (own k served.picks) place.trail = λ k place e. (law (tenants_of ps) (map pick_of turns) served.picks served.stage served.serves k place e).1 in
    let finished = subst (λ ns. AreFinished after ns left) (same.order ∙ order) f in
    let are : trails ≡ trails_of served.stage = told ∙ ap (λ m. dealt (replicate m []) left) n ∙ dealt_at after [] 0 ps plans served.standings served.stage left refl h served.placed finished in
    record {
      picks = served.picks;
      stage = served.stage;
      serves = served.serves;
      are = are;
      each = subst (λ ts. EachRan served.picks 0 ps (images_in plans) ts) (sym are) (each_ran served.picks before after same 0 ps plans served.standings served.stage h o served.placed served.finished (λ k place e. subst (λ n. IsTurned place.tenant (own n served.picks) place.trail) (omega arith) (turned k place e)));
    }
