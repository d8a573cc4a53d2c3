-- What is seen of sessions that change.
use Rattle.std.proofs.Common.{arith, ◌≡◌, refl, ap, sym, subst, ◌∙◌, ℕ, zero, suc, ◌+◌, ◌<◌, ◌≤◌, eqb, Bool, true, false, List, [], ◌∷◌, ◌++◌, length, length-append, get_or, replicate, Option, None, Some}
use Rattle.std.specs.Prelude.{cond, slice_get, slice_set}
use Rattle.std.proofs.lemmas.Option.{slice_get_within, slice_get-get_or}
use Rattle.std.proofs.lemmas.Bool.{le-ltb, lt-ltb, eq-eqb, eqb-true}
use Rattle.legal_trails.specs.Legal.{Open, Session, again, begun, closing, told, tell, tell_from}
use Rattle.session_states.specs.declared.state.OpenRequest.{OpenRequest}
use Rattle.session_states.specs.declared.state.SessionState.{SessionState}
use Rattle.session_states.specs.States.{IsThere, running_of, session_of, sessions_of, IsSince, AllSince, opened, granted, granted_in, again_in, begun_again, closed, behind, fresh, opens, grants, grants_in, begins_again, begins_in}

none_some : {A : Type 0} {a : A} → ◌≡◌ {A = Option A} None (Some a) → ⊥
none_some e = cc

some_is : {A : Type 0} {a b : A} → Some a ≡ Some b → a ≡ b
some_is e = cc

-- the session that is seen is the one that stands there
pub there : (w : ℕ) (ss : List SessionState) (s : ℕ) (session : Session) → slice_get (sessions_of w ss) s ≡ Some session → (x : SessionState) × (slice_get ss s ≡ Some x) × (session_of w x ≡ session)
there w [] s session e = absurd (none_some e)
there w (x ∷ ss) zero session e = (x, refl, some_is e)
there w (x ∷ ss) (suc s) session e = there w ss s session e

pub set_seen : (w : ℕ) (ss : List SessionState) (s : ℕ) (y : SessionState) → sessions_of w (slice_set ss s y) ≡ slice_set (sessions_of w ss) s (session_of w y)
set_seen w [] s y = refl
set_seen w (x ∷ ss) zero y = refl
set_seen w (x ∷ ss) (suc s) y = ap (λ t. session_of w x ∷ t) (set_seen w ss s y)

pub set_since : (w : ℕ) (ss : List SessionState) (s : ℕ) (y : SessionState) → AllSince w ss → IsSince w y.running → AllSince w (slice_set ss s y)
set_since w [] s y a i = a
set_since w (x ∷ ss) zero y a i = (i, a.1)
set_since w (x ∷ ss) (suc s) y a i = (a.0, set_since w ss s y a.1 i)

later : (w v : ℕ) → w ≤ v → (r : Option OpenRequest) → IsSince w r → IsSince v r
later w v le None i = tt
later w v le (Some o) i = let n = i in omega arith

pub later_since : (w v : ℕ) (ss : List SessionState) → w ≤ v → AllSince w ss → AllSince v ss
later_since w v [] le a = tt
later_since w v (s ∷ ss) le a = (later w v le s.running a.0, later_since w v ss le a.1)

pub fresh_since : (w n : ℕ) → AllSince w (replicate n (record { closed = 0; running = None }))
fresh_since w zero = tt
fresh_since w (suc n) = (tt, fresh_since w n)

pub fresh_seen : (w n : ℕ) → sessions_of w (replicate n (record { closed = 0; running = None })) ≡ replicate n fresh
fresh_seen w zero = refl
fresh_seen w (suc n) = ap (λ t. fresh ∷ t) (fresh_seen w n)

-- a request that begins now has seen all writes
pub open_seen : (w : ℕ) (x : SessionState) → session_of w (opened w x) ≡ record (session_of w x) { running = Some (begun x.closed) }
open_seen w x = ap (λ m. record { closed = x.closed; running = Some (record { request = x.closed; grabs = 0; restarts = 0; moved = m }) }) (le-ltb w w (omega arith))

-- ---- a write is told to the others

told_running : (w : ℕ) (r : Option OpenRequest) → IsSince w r → running_of (w + 1) r ≡ told (running_of w r)
told_running w None i = refl
told_running w (Some o) i = ap (λ m. Some (record { request = o.request; grabs = o.grabs; restarts = o.restarts; moved = m })) (lt-ltb o.since (w + 1) (let n = i in omega arith))

apart_by : (a b : ℕ) (c : Bool) → (a ≡ b → ⊥) → eqb a b ≡ c → eqb a b ≡ false
apart_by a b true n e = absurd (n (eqb-true a b e))
apart_by a b false n e = e

apart : (a b : ℕ) → (a ≡ b → ⊥) → eqb a b ≡ false
apart a b n = apart_by a b (eqb a b) n refl

-- the session at place n, which isn't s
told_one : (w n s : ℕ) (x : SessionState) → eqb n s ≡ false → IsSince w x.running → session_of (w + 1) x ≡ cond (eqb n s) (session_of w x) (record (session_of w x) { running = told (running_of w x.running) })
told_one w n s x e i =
    ap (λ r. record { closed = x.closed; running = r }) (told_running w x.running i) ∙ ap (λ b. cond b (session_of w x) (record (session_of w x) { running = told (running_of w x.running) })) (sym e)

-- from place n on, none of which is s
told_others : (w n s : ℕ) (ss : List SessionState) → s < n → AllSince w ss → sessions_of (w + 1) ss ≡ tell_from s n (sessions_of w ss)
told_others w n s [] lt a = refl
told_others w n s (x ∷ ss) lt a =
    ap (λ h. h ∷ sessions_of (w + 1) ss) (told_one w n s x (apart n s (λ e. let q = e in omega arith)) a.0)
    ∙ ap (λ t. cond (eqb n s) (session_of w x) (record (session_of w x) { running = told (running_of w x.running) }) ∷ t) (told_others w (suc n) s ss (omega arith) a.1)

-- from place n on, where session k behind it is closed
told_all : (w n k : ℕ) (ss : List SessionState) (x : SessionState) → AllSince w ss → sessions_of (w + 1) (slice_set ss k (closed x)) ≡ tell_from (n + k) n (slice_set (sessions_of w ss) k (session_of w (closed x)))
told_all w n k [] x a = refl
told_all w n zero (y ∷ ss) x a =
    ap (λ b. cond b (session_of w (closed x)) (record (session_of w (closed x)) { running = told None }) ∷ sessions_of (w + 1) ss) (sym (eq-eqb n (n + 0) (omega arith)))
    ∙ ap (λ t. cond (eqb n (n + 0)) (session_of w (closed x)) (record (session_of w (closed x)) { running = told None }) ∷ t) (told_others w (suc n) (n + 0) ss (omega arith) a.1)
told_all w n (suc k) (y ∷ ss) x a =
    let e : suc n + k ≡ n + suc k = omega arith in
    ap (λ h. h ∷ sessions_of (w + 1) (slice_set ss k (closed x))) (told_one w n (n + suc k) y (apart n (n + suc k) (λ q. let p = q in omega arith)) a.0)
    ∙ ap (λ t. cond (eqb n (n + suc k)) (session_of w y) (record (session_of w y) { running = told (running_of w y.running) }) ∷ t) (told_all w (suc n) k ss x a.1 ∙ ap (λ m. tell_from m (suc n) (slice_set (sessions_of w ss) k (session_of w (closed x)))) e)

pub end_seen : (w : ℕ) (wrote : Bool) (ss : List SessionState) (s : ℕ) (x : SessionState) → AllSince w ss → sessions_of (behind wrote w) (slice_set ss s (closed x)) ≡ tell wrote s (slice_set (sessions_of w ss) s (closing (session_of w x)))
end_seen w true ss s x a = let e : 0 + s ≡ s = omega arith in told_all w 0 s ss x a ∙ ap (λ m. tell_from m 0 (slice_set (sessions_of w ss) s (session_of w (closed x)))) e
end_seen w false ss s x a = set_seen w ss s (closed x)

-- ---- a call

-- what stands at a place is seen as the session there
seen_as : (w : ℕ) (ss : List SessionState) (s : ℕ) (y : SessionState) (now : List Session) (at : Session) → sessions_of w ss ≡ now → slice_get now s ≡ Some at → slice_get ss s ≡ Some y → session_of w y ≡ at
seen_as w ss s y now at e is here =
    let x = there w ss s at (ap (λ t. slice_get t s) e ∙ is) in
    ap (session_of w) (some_is (sym here ∙ x.1)) ∙ x.2

within : (w : ℕ) (ss : List SessionState) (s : ℕ) (now : List Session) (at : Session) → sessions_of w ss ≡ now → slice_get now s ≡ Some at → s < length ss
within w ss s now at e is = let x = there w ss s at (ap (λ t. slice_get t s) e ∙ is) in slice_get_within ss s x.0 x.1

-- the place is one of the vector, whose own length is that of its items
pub as_long : (w n s : ℕ) (ss : List SessionState) (now : List Session) → sessions_of w ss ≡ now → IsThere now s → n ≡ length ss → s < n
as_long w n s ss now e at long = let lt = within w ss s now at.0 e at.1 in omega arith

-- what is read there
pub stands : (w s : ℕ) (ss : List SessionState) (now : List Session) (y : SessionState) → sessions_of w ss ≡ now → IsThere now s → y ≡ get_or ss s y → slice_get ss s ≡ Some y
stands w s ss now y e at is = slice_get-get_or ss s y (within w ss s now at.0 e at.1) ∙ ap Some (sym is)

pub next_is : (w s : ℕ) (ss : List SessionState) (now : List Session) (y : SessionState) (at : Session) → sessions_of w ss ≡ now → slice_get now s ≡ Some at → slice_get ss s ≡ Some y → y.closed ≡ at.closed
next_is w s ss now y at e is here = ap (λ (t : Session). t.closed) (seen_as w ss s y now at e is here)

-- what is written there
pub changes : (w s : ℕ) (ss : List SessionState) (now : List Session) (y z : SessionState) (f : Session → Session) (at : Session) → sessions_of w ss ≡ now → slice_get now s ≡ Some at → slice_get ss s ≡ Some y → session_of w z ≡ f (session_of w y) → sessions_of w (slice_set ss s z) ≡ slice_set now s (f at)
changes w s ss now y z f at e is here z_is =
    set_seen w ss s z ∙ ap (λ t. slice_set t s (session_of w z)) e ∙ ap (λ q. slice_set now s q) (z_is ∙ ap f (seen_as w ss s y now at e is here))

pub opens_is : (w : ℕ) (y z : SessionState) → z ≡ opened w y → session_of w z ≡ opens (session_of w y)
opens_is w y z e = ap (session_of w) e ∙ open_seen w y

grants_running : (w : ℕ) (r : Option OpenRequest) → running_of w (granted_in r) ≡ grants_in (running_of w r)
grants_running w None = refl
grants_running w (Some o) = refl

pub grants_is : (w : ℕ) (y z : SessionState) → z ≡ granted y → session_of w z ≡ grants (session_of w y)
grants_is w y z e = ap (session_of w) e ∙ ap (λ r. record { closed = y.closed; running = r }) (grants_running w y.running)

begins_running : (w : ℕ) (r : Option OpenRequest) → running_of w (again_in w r) ≡ begins_in (running_of w r)
begins_running w None = refl
begins_running w (Some o) = ap (λ m. Some (record { request = o.request; grabs = 0; restarts = o.restarts + 1; moved = m })) (le-ltb w w (omega arith))

pub begins_is : (w : ℕ) (y z : SessionState) → z ≡ begun_again w y → session_of w z ≡ begins_again (session_of w y)
begins_is w y z e = ap (session_of w) e ∙ ap (λ r. record { closed = y.closed; running = r }) (begins_running w y.running)

pub closes_seen : (w v : ℕ) (wrote : Bool) (ss : List SessionState) (s : ℕ) (y z : SessionState) (now : List Session) (at : Session) → AllSince w ss → sessions_of w ss ≡ now → slice_get now s ≡ Some at → slice_get ss s ≡ Some y → z ≡ closed y → v ≡ behind wrote w → sessions_of v (slice_set ss s z) ≡ tell wrote s (slice_set now s (closing at))
closes_seen w v wrote ss s y z now at a e is here z_is v_is =
    ap (λ u. sessions_of u (slice_set ss s z)) v_is ∙ ap (λ q. sessions_of (behind wrote w) (slice_set ss s q)) z_is ∙ end_seen w wrote ss s y a
    ∙ ap (λ t. tell wrote s (slice_set t s (closing (session_of w y)))) e ∙ ap (λ q. tell wrote s (slice_set now s (closing q))) (seen_as w ss s y now at e is here)

-- ---- when requests began

since_at : (w : ℕ) (ss : List SessionState) (s : ℕ) (y : SessionState) → AllSince w ss → slice_get ss s ≡ Some y → IsSince w y.running
since_at w [] s y a e = absurd (none_some e)
since_at w (x ∷ ss) zero y a e = subst (λ (q : SessionState). IsSince w q.running) (some_is e) a.0
since_at w (x ∷ ss) (suc s) y a e = since_at w ss s y a.1 e

pub opens_since : (w : ℕ) (ss : List SessionState) (s : ℕ) (y z : SessionState) → AllSince w ss → z ≡ opened w y → AllSince w (slice_set ss s z)
opens_since w ss s y z a z_is = subst (λ q. AllSince w (slice_set ss s q)) (sym z_is) (set_since w ss s (opened w y) a (omega arith))

granted_since : (w : ℕ) (r : Option OpenRequest) → IsSince w r → IsSince w (granted_in r)
granted_since w None i = tt
granted_since w (Some o) i = i

pub grants_since : (w : ℕ) (ss : List SessionState) (s : ℕ) (y z : SessionState) → AllSince w ss → slice_get ss s ≡ Some y → z ≡ granted y → AllSince w (slice_set ss s z)
grants_since w ss s y z a here z_is = subst (λ q. AllSince w (slice_set ss s q)) (sym z_is) (set_since w ss s (granted y) a (granted_since w y.running (since_at w ss s y a here)))

again_since : (w : ℕ) (r : Option OpenRequest) → IsSince w (again_in w r)
again_since w None = tt
again_since w (Some o) = omega arith

pub begins_since : (w : ℕ) (ss : List SessionState) (s : ℕ) (y z : SessionState) → AllSince w ss → z ≡ begun_again w y → AllSince w (slice_set ss s z)
begins_since w ss s y z a z_is = subst (λ q. AllSince w (slice_set ss s q)) (sym z_is) (set_since w ss s (begun_again w y) a (again_since w y.running))

less_behind : (wrote : Bool) (w : ℕ) → w ≤ behind wrote w
less_behind true w = omega arith
less_behind false w = omega arith

pub closes_since : (w v : ℕ) (wrote : Bool) (ss : List SessionState) (s : ℕ) (y z : SessionState) → AllSince w ss → z ≡ closed y → v ≡ behind wrote w → AllSince v (slice_set ss s z)
closes_since w v wrote ss s y z a z_is v_is =
    subst (λ q. AllSince v (slice_set ss s q)) (sym z_is) (set_since v ss s (closed y) (later_since w v ss (subst (λ u. w ≤ u) (sym v_is) (less_behind wrote w)) a) tt)
