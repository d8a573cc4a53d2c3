-- A turn of one session, and the tenants of the shard.
use Rattle.std.proofs.Common.{arith, ◌≡◌, inl, refl, sym, ap, subst, ◌∙◌, ℕ, zero, suc, ◌+◌, ◌<◌, eqb, Bool, true, false, List, [], ◌∷◌, ◌++◌, map, Option, None, Some}
use Rattle.std.specs.Prelude.{Result, Ok, Err, OnOk, slice_get, slice_set}
use Rattle.std.proofs.lemmas.Bool.{eqb-true, eqb-false}
use Rattle.legal_trails.specs.Legal.{Session as State, first_state, is_by}
use Rattle.legal_trails.specs.Served.{Place, Stage, TurnsAt}
use Rattle.legal_trails.specs.Turns.{Turn}
use Rattle.session_runs.specs.Replies.{RunsFrom}
use Rattle.session_turns.specs.Turns.{Stands, StandsBy, tape_of}
use Rattle.session_turns.specs.declared.attempt.Attempt.{Attempt}
use Rattle.session_turns.specs.declared.attempt.Standing.{Standing}
use Rattle.session_turns.proofs.Frames.{first, holds_still}
use Rattle.tenant_parts.specs.declared.session.Session.{Session}
use Rattle.tenant_shards.specs.Parts.{tenant_of}
use Rattle.tenant_shards.specs.Shards.{Keeps, Shared}
use Rattle.tenant_shards.specs.Tenants.{part_at, part_of, sessions_at, sessions_in}
use Rattle.attempt_run.specs.Picks.{OthersStay, is_unfinished, unfinished_in}
use Rattle.attempt_run.specs.Stages.{ArePlaced, HasPlace, HasStage, IsPlaced, IsPlacedBy, IsStanding, SameParts, TurnsIn, TurnsOn, tapes_of}
use Rattle.attempt_run.specs.declared.plan.Plan.{Plan}
use Rattle.attempt_run.proofs.Lists.{none_some, set_else, set_there}
use Rattle.attempt_run.proofs.Still.{standing_still}

pub map_there : {A B : Type 0} (f : A → B) (xs : List A) (i : ℕ) (x : A) → slice_get xs i ≡ Some x → slice_get (map f xs) i ≡ Some (f x)
map_there f [] i x e = absurd (none_some e)
map_there f (y ∷ ys) zero x e = ap (λ z. Some (f z)) (some_is e) where
  some_is : {A : Type 0} {a b : A} → Some a ≡ Some b → a ≡ b
  some_is q = cc
map_there f (y ∷ ys) (suc i) x e = map_there f ys i x e

pub map_set : {A B : Type 0} (f : A → B) (xs : List A) (i : ℕ) (x : A) → slice_set (map f xs) i (f x) ≡ map f (slice_set xs i x)
map_set f [] i x = refl
map_set f (y ∷ ys) zero x = refl
map_set f (y ∷ ys) (suc i) x = ap (λ more. f y ∷ more) (map_set f ys i x)

-- ---- the tenant whose session makes the turn

-- the session is there
there_by : (plan : Plan) (t s : ℕ) (shard : Shared) (session : Session) (x : Standing) (o : Option Attempt) → x.running ≡ o → Stands plan.schema plan.image session.requests t s x shard → (at : State) × (slice_get (sessions_at t shard.tenants) s ≡ Some at)
there_by plan t s shard session x None e h = let k = subst (λ r. StandsBy plan.schema plan.image session.requests t s x.closed r shard) e h in (record { closed = x.closed; running = None }, k.0.session)
there_by plan t s shard session x (Some a) e h = let k = subst (λ r. StandsBy plan.schema plan.image session.requests t s x.closed r shard) e h in (_, k.tried.on.session)

standing_there : (plan : Plan) (t s : ℕ) (shard : Shared) (session : Session) (x : Standing) → Stands plan.schema plan.image session.requests t s x shard → IsStanding plan t s shard (Some session) (Some x) (slice_get (sessions_at t shard.tenants) s)
standing_there plan t s shard session x h = let at = there_by plan t s shard session x x.running refl h in subst (λ o. IsStanding plan t s shard (Some session) (Some x) o) (sym at.1) h

module _ (plan : Plan) (t s : ℕ) (standings later : List Standing) (before after : Shared) (turned : TurnsIn plan t s standings later before after) (place : Place) (p : IsPlaced plan standings t before place) where
  pub each : (k : ℕ) → IsStanding plan t k after (slice_get plan.sessions k) (slice_get later k) (slice_get (sessions_at t after.tenants) k)
  each k = by (eqb k s) refl where
    by : (b : Bool) → eqb k s ≡ b → IsStanding plan t k after (slice_get plan.sessions k) (slice_get later k) (slice_get (sessions_at t after.tenants) k)
    by true e =
        let same : k ≡ s = eqb-true k s e in
        subst (λ n. IsStanding plan t n after (slice_get plan.sessions n) (slice_get later n) (slice_get (sessions_at t after.tenants) n)) (sym same)
        (subst (λ o. IsStanding plan t s after o (slice_get later s) (slice_get (sessions_at t after.tenants) s)) (sym turned.is_session)
        (subst (λ o. IsStanding plan t s after (Some turned.session) o (slice_get (sessions_at t after.tenants) s)) (sym (ap (λ xs. slice_get xs s) turned.later_is ∙ set_there standings s turned.old turned.new turned.is_old))
        (standing_there plan t s after turned.session turned.new turned.stands)))
    by false e =
        let other = eqb-false k s e in
        subst (λ o. IsStanding plan t k after (slice_get plan.sessions k) o (slice_get (sessions_at t after.tenants) k)) (sym (ap (λ xs. slice_get xs k) turned.later_is ∙ set_else standings s k turned.new other))
        (standing_still t k before after turned.beside.keeps.part (turned.beside.sessions k other) (holds_still t s k before after turned.beside other) plan (slice_get plan.sessions k) (slice_get standings k) (p.each k))

  pub record Next : Type 0 where
    pub next : Place
    pub turn : Turn place.tenant s place.turning turned.turns.events next.turning
    pub tenant : next.tenant ≡ place.tenant
    pub trail : next.trail ≡ place.trail ++ turned.turns.events
    pub placed : IsPlaced plan later t after next

  abbrev pub next : Next
  next =
      let f = turned.turns.from p.part p.is_part place.turning.state p.so_far in
      let there : slice_get place.turning.tapes s ≡ Some (tape_of turned.old) = ap (λ ts. slice_get ts s) p.tapes ∙ map_there tape_of standings s turned.old turned.is_old in
      record {
        next = record { tenant = place.tenant; turning = record { state = f.next; tapes = slice_set place.turning.tapes s (tape_of turned.new) }; trail = place.trail ++ turned.turns.events };
        turn = subst (λ x. Turn x s place.turning turned.turns.events (record { state = f.next; tapes = slice_set place.turning.tapes s (tape_of turned.new) })) (sym p.tenant_is) (f.turn place.turning.tapes there);
        tenant = refl;
        trail = refl;
        placed = record {
          part = p.part;
          is_part = turned.beside.keeps.part ∙ p.is_part;
          means = p.means;
          schema_is = p.schema_is;
          sessions_are = p.sessions_are;
          tenant_is = p.tenant_is;
          trail_is = ap (λ es. es ++ turned.turns.events) p.trail_is ∙ sym turned.turns.entries;
          so_far = f.so_far;
          tapes = ap (λ ts. slice_set ts s (tape_of turned.new)) p.tapes ∙ map_set tape_of standings s turned.new ∙ ap tapes_of (sym turned.later_is);
          each = each;
        };
      }

-- ---- the others

module _ (t : ℕ) (before after : Shared) (keeps : Keeps t before after) where
  other_still : (plan : Plan) (standings : List Standing) (u : ℕ) (place : Place) → (u ≡ t → ⊥) → IsPlaced plan standings u before place → IsPlaced plan standings u after place
  other_still plan standings u place other p =
      let kept = keeps.others.kept u other in
      let rows = keeps.others.rows u other in
      let held = keeps.others.held u other in
      let trail = keeps.others.trail u other in
      record {
        part = p.part;
        is_part = ap part_of kept ∙ p.is_part;
        means = p.means;
        schema_is = p.schema_is;
        sessions_are = p.sessions_are;
        tenant_is = p.tenant_is;
        trail_is = p.trail_is ∙ sym trail;
        so_far = record {
          is = subst (λ es. RunsFrom p.part plan.image (first_state (tenant_of p.part)) es place.turning.state) (sym trail) p.so_far.is;
          store = p.so_far.store ∙ sym rows;
          sessions = p.so_far.sessions ∙ ap sessions_in (sym kept);
          held = λ id. p.so_far.held id ∙ sym (held id);
        };
        tapes = p.tapes;
        each = λ s. standing_still u s before after (ap part_of kept) (inl (ap (λ k. slice_get (sessions_in k) s) kept, rows)) (λ id. ap (is_by s) (held id)) plan (slice_get plan.sessions s) (slice_get standings s) (p.each s);
      }

  placed_still : (p : Option Plan) (standings : List Standing) (u : ℕ) (o : Option Place) → (u ≡ t → ⊥) → IsPlacedBy p standings u before o → IsPlacedBy p standings u after o
  placed_still None standings u None other h = tt
  placed_still (Some plan) standings u (Some place) other h = other_still plan standings u place other h
  placed_still None standings u (Some place) other h = absurd h
  placed_still (Some plan) standings u None other h = absurd h

  behind_still : (n : ℕ) (ps : List (Option Plan)) (all : List (List Standing)) (stage : Stage) → t < n → ArePlaced n ps all before stage → ArePlaced n ps all after stage
  behind_still n [] [] [] lt h = tt
  behind_still n (p ∷ ps) (x ∷ all) (o ∷ stage) lt h = (placed_still p x n o (λ e. omega (arith, lt, e)) h.0, behind_still (suc n) ps all stage (omega (arith, lt)) h.1)
  behind_still n [] [] (o ∷ stage) lt h = absurd h
  behind_still n [] (x ∷ all) stage lt h = absurd h
  behind_still n (p ∷ ps) [] stage lt h = absurd h
  behind_still n (p ∷ ps) (x ∷ all) [] lt h = absurd h

  -- the tenant's place, and what is put there
  pub record IsAt (n k : ℕ) (plan : Plan) (standings : List Standing) (ps : List (Option Plan)) (all : List (List Standing)) (stage : Stage) : Type 0 where
    pub place : Place
    pub is_place : slice_get stage k ≡ Some (Some place)
    pub placed : IsPlaced plan standings t before place
    pub with_next : (later : List Standing) (next : Place) → IsPlaced plan later t after next → ArePlaced n ps (slice_set all k later) after (slice_set stage k (Some next))

  here : (n : ℕ) (plan : Plan) (standings : List Standing) (p : Option Plan) (x : List Standing) (o : Option Place) (ps : List (Option Plan)) (all : List (List Standing)) (stage : Stage) → t ≡ n → p ≡ Some plan → x ≡ standings → IsPlacedBy p x n before o → ArePlaced (suc n) ps all before stage →
      IsAt n 0 plan standings (p ∷ ps) (x ∷ all) (o ∷ stage)
  here n plan standings None x o ps all stage is e f h more = absurd (none_some e)
  here n plan standings (Some q) x None ps all stage is e f h more = absurd h
  here n plan standings (Some q) x (Some place) ps all stage is e f h more =
      let same : q ≡ plan = some_is e in
      record {
        place = place;
        is_place = refl;
        placed = subst (λ m. IsPlaced plan standings m before place) (sym is) (subst (λ y. IsPlaced plan y n before place) f (subst (λ r. IsPlaced r x n before place) same h));
        with_next = λ later next placed. (subst (λ m. IsPlaced q later m after next) is (subst (λ r. IsPlaced r later t after next) (sym same) placed), behind_still (suc n) ps all stage (omega (arith, is)) more);
      } where
        some_is : {A : Type 0} {a b : A} → Some a ≡ Some b → a ≡ b
        some_is q = cc

  pub at : (n k : ℕ) (plan : Plan) (standings : List Standing) (ps : List (Option Plan)) (all : List (List Standing)) (stage : Stage) → t ≡ n + k → slice_get ps k ≡ Some (Some plan) → slice_get all k ≡ Some standings → ArePlaced n ps all before stage → IsAt n k plan standings ps all stage
  at n k plan standings [] all stage is e f h = absurd (none_some e)
  at n k plan standings (p ∷ ps) [] stage is e f h = absurd (none_some f)
  at n k plan standings (p ∷ ps) (x ∷ all) [] is e f h = absurd h
  at n zero plan standings (p ∷ ps) (x ∷ all) (o ∷ stage) is e f h = here n plan standings p x o ps all stage (omega (arith, is)) (some_is e) (some_is f) h.0 h.1 where
    some_is : {A : Type 0} {a b : A} → Some a ≡ Some b → a ≡ b
    some_is q = cc
  at n (suc k) plan standings (p ∷ ps) (x ∷ all) (o ∷ stage) is e f h =
      let r = at (suc n) k plan standings ps all stage (omega (arith, is)) e f h.1 in
      record {
        place = r.place;
        is_place = r.is_place;
        placed = r.placed;
        with_next = λ later next placed. (placed_still p x n o (λ q. omega (arith, is, q)) h.0, r.with_next later next placed);
      }

-- ---- one turn

module _ (plans : List (Option Plan)) (all : List (List Standing)) (plan : Plan) (t s : ℕ) (standings later : List Standing) (before after : Shared) (is_plan : slice_get plans t ≡ Some (Some plan)) (are : slice_get all t ≡ Some standings) (turned : TurnsIn plan t s standings later before after) where
  pub turns_on : (stage : Stage) → ArePlaced 0 plans all before stage → (then : Stage) × TurnsAt (t, s) stage then × ArePlaced 0 plans (slice_set all t later) after then
  turns_on stage h =
      let r = at t before after turned.beside.keeps 0 t plan standings plans all stage (omega arith) is_plan are h in
      let n = next plan t s standings later before after turned r.place r.placed in (
        slice_set stage t (Some n.next),
        record {
          place = r.place;
          is_place = r.is_place;
          events = turned.turns.events;
          turning = n.next.turning;
          turn = n.turn;
          then = refl;
        },
        r.with_next later n.next n.placed,
      )

-- the tenant's place before it
pub there_in : (plans : List (Option Plan)) (all : List (List Standing)) (plan : Plan) (t : ℕ) (standings : List Standing) (shard : Shared) → slice_get plans t ≡ Some (Some plan) → slice_get all t ≡ Some standings → HasStage plans all shard → HasPlace plan standings t shard
there_in plans all plan t standings shard is_plan are h =
    let r = at t shard shard (first t 0 shard).keeps 0 t plan standings plans all h.0 (omega arith) is_plan are h.1 in
    (r.place, r.placed)

pub unfinished_still : (p q : Plan) (xs ys : List Standing) (s : ℕ) → p ≡ q → xs ≡ ys → is_unfinished (slice_get p.sessions s) (slice_get xs s) ≡ true → is_unfinished (slice_get q.sessions s) (slice_get ys s) ≡ true
unfinished_still p q xs ys s e f h = subst (λ (x : Plan). is_unfinished (slice_get x.sessions s) (slice_get ys s) ≡ true) e (subst (λ zs. is_unfinished (slice_get p.sessions s) (slice_get zs s) ≡ true) f h)

set_twice : {A : Type 0} (xs : List A) (i : ℕ) (x y : A) → slice_set (slice_set xs i x) i y ≡ slice_set xs i y
set_twice [] i x y = refl
set_twice (z ∷ xs) zero x y = refl
set_twice (z ∷ xs) (suc i) x y = ap (λ more. z ∷ more) (set_twice xs i x y)

-- the tenant's standings were taken out while its session made the turn
pub with_plan : (plans : List (Option Plan)) (all : List (List Standing)) (plan : Plan) (t s : ℕ) (standings later meanwhile : List Standing) (before after : Shared) → slice_get plans t ≡ Some (Some plan) → slice_get all t ≡ Some standings → TurnsIn plan t s standings later before after →
    TurnsOn plans (t, s) all before (slice_set (slice_set all t meanwhile) t later) after
with_plan plans all plan t s standings later meanwhile before after is_plan are turned =
    subst (λ xs. TurnsOn plans (t, s) all before xs after) (sym (set_twice all t meanwhile later)) (turns_on plans all plan t s standings later before after is_plan are turned)

-- ---- what else stays

in_plan : (o : Option (Option Plan)) (xs ys : List Standing) (k : ℕ) → slice_get xs k ≡ slice_get ys k → unfinished_in o (Some xs) k ≡ unfinished_in o (Some ys) k
in_plan None xs ys k e = refl
in_plan (Some None) xs ys k e = refl
in_plan (Some (Some plan)) xs ys k e = ap (is_unfinished (slice_get plan.sessions k)) e

pub others_stay : (plans : List (Option Plan)) (all : List (List Standing)) (plan : Plan) (t s : ℕ) (standings later meanwhile : List Standing) (before after : Shared) → slice_get all t ≡ Some standings → TurnsIn plan t s standings later before after →
    OthersStay plans (t, s) all (slice_set (slice_set all t meanwhile) t later)
others_stay plans all plan t s standings later meanwhile before after are turned u k ne = by (eqb u t) refl where
  by : (b : Bool) → eqb u t ≡ b → unfinished_in (slice_get plans u) (slice_get (slice_set (slice_set all t meanwhile) t later) u) k ≡ unfinished_in (slice_get plans u) (slice_get all u) k
  by false q = let other = eqb-false u t q in ap (λ x. unfinished_in (slice_get plans u) x k) (set_else (slice_set all t meanwhile) t u later other ∙ set_else all t u meanwhile other)
  by true q =
      let same : u ≡ t = eqb-true u t q in
      let there : slice_get (slice_set (slice_set all t meanwhile) t later) u ≡ Some later = ap (slice_get (slice_set (slice_set all t meanwhile) t later)) same ∙ set_there (slice_set all t meanwhile) t meanwhile later (set_there all t standings meanwhile are) in
      let was : slice_get all u ≡ Some standings = ap (slice_get all) same ∙ are in
      let kept : slice_get later k ≡ slice_get standings k = ap (λ xs. slice_get xs k) turned.later_is ∙ set_else standings s k turned.new (ne same) in
      ap (λ x. unfinished_in (slice_get plans u) x k) there ∙ in_plan (slice_get plans u) later standings k kept ∙ sym (ap (λ x. unfinished_in (slice_get plans u) x k) was)

pub same_parts : (t : ℕ) (before after : Shared) → Keeps t before after → SameParts before after
same_parts t before after keeps = record { order = keeps.order; parts = part } where
  part : (u : ℕ) → part_at u after.tenants ≡ part_at u before.tenants
  part u = by (eqb u t) refl where
    by : (b : Bool) → eqb u t ≡ b → part_at u after.tenants ≡ part_at u before.tenants
    by true q = let same = eqb-true u t q in ap (λ n. part_at n after.tenants) same ∙ keeps.part ∙ sym (ap (λ n. part_at n before.tenants) same)
    by false q = ap part_of (keeps.others.kept u (eqb-false u t q))

pub same_first : (shard : Shared) → SameParts shard shard
same_first shard = record { order = refl; parts = λ t. refl }

pub same_next : (first shard after : Shared) → SameParts first shard → SameParts shard after → SameParts first after
same_next first shard after s t = record { order = t.order ∙ s.order; parts = λ n. t.parts n ∙ s.parts n }

pub same_on : {A E : Type 0} (r : Result A E) (first shard after : Shared) → SameParts first shard → OnOk r (SameParts shard after) → OnOk r (SameParts first after)
same_on (Ok x) first shard after s t = same_next first shard after s t
same_on (Err x) first shard after s t = tt
