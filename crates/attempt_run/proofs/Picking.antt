-- Whose turn it is, by the stage and by how far the sessions are.
use Rattle.std.proofs.Common.{◌≡◌, refl, sym, ap, subst, ◌∙◌, ℕ, zero, suc, ◌+◌, cond, List, [], ◌∷◌, length, Option, None, Some}
use Rattle.std.specs.Prelude.{nat_lt, slice_get}
use Rattle.legal_trails.specs.Legal.{Session as State}
use Rattle.legal_trails.specs.Served.{Pick, Place, Stage, first_from, first_in as first_at, first_pick, is_below, is_unfinished_in, or_picked, picked}
use Rattle.session_turns.specs.Turns.{Stands, StandsBy}
use Rattle.session_turns.specs.declared.attempt.Attempt.{Attempt}
use Rattle.session_turns.specs.declared.attempt.Standing.{Standing}
use Rattle.tenant_parts.specs.declared.session.Session.{Session}
use Rattle.tenant_shards.specs.Parts.{counts_of}
use Rattle.tenant_shards.specs.Shards.{Shared}
use Rattle.tenant_shards.specs.Tenants.{sessions_at}
use Rattle.attempt_run.specs.Picks.{first_in, first_of, first_of_all, is_unfinished, picked_by, unfinished_in}
use Rattle.attempt_run.specs.Stages.{ArePlaced, IsPlaced, IsPlacedBy, IsStanding}
use Rattle.attempt_run.specs.declared.plan.Plan.{Plan}
use Rattle.attempt_run.proofs.Lists.{some_is}

-- the state of a session tells how many requests are closed
abbrev IsSame : Option Session → Option Standing → Option State → Type 0
IsSame (Some p) (Some x) (Some a) = a.closed ≡ x.closed
IsSame None None None = Unit {0}
IsSame _ _ _ = ⊥

closed_of : (a b : State) → Some a ≡ Some b → a.closed ≡ b.closed
closed_of a b e = ap (λ (x : State). x.closed) (some_is e)

same_by : (plan : Plan) (t s : ℕ) (shard : Shared) (p : Session) (x : Standing) (at : State) (o : Option Attempt) → x.running ≡ o → slice_get (sessions_at t shard.tenants) s ≡ Some at → Stands plan.schema plan.image p.requests t s x shard → at.closed ≡ x.closed
same_by plan t s shard p x at None e is h = let k = subst (λ r. StandsBy plan.schema plan.image p.requests t s x.closed r shard) e h in closed_of at _ (sym is ∙ k.0.session)
same_by plan t s shard p x at (Some a) e is h = let k = subst (λ r. StandsBy plan.schema plan.image p.requests t s x.closed r shard) e h in closed_of at _ (sym is ∙ k.tried.on.session)

same : (plan : Plan) (t s : ℕ) (shard : Shared) (p : Option Session) (x : Option Standing) (o : Option State) → slice_get (sessions_at t shard.tenants) s ≡ o → IsStanding plan t s shard p x o → IsSame p x o
same plan t s shard (Some p) (Some x) (Some at) is h = same_by plan t s shard p x at x.running refl is h
same plan t s shard None None None is h = tt
same plan t s shard (Some p) (Some x) None is h = absurd h
same plan t s shard (Some p) None o is h = absurd h
same plan t s shard None (Some x) o is h = absurd h
same plan t s shard None None (Some at) is h = absurd h

first_same : (n : ℕ) (ps : List Session) (xs : List Standing) (ss : List State) → ((k : ℕ) → IsSame (slice_get ps k) (slice_get xs k) (slice_get ss k)) → first_from n (counts_of ps) ss ≡ first_of n ps xs
first_same n [] [] [] h = refl
first_same n (p ∷ ps) (x ∷ xs) (a ∷ ss) h =
    ap (λ c. cond (nat_lt c (length p.requests)) (Some n) (first_from (n + 1) (counts_of ps) ss)) (h 0)
    ∙ ap (λ o. cond (nat_lt x.closed (length p.requests)) (Some n) o) (first_same (n + 1) ps xs ss (λ k. h (suc k)))
first_same n [] [] (a ∷ ss) h = absurd (h 0)
first_same n [] (x ∷ xs) ss h = absurd (h 0)
first_same n (p ∷ ps) [] ss h = absurd (h 0)
first_same n (p ∷ ps) (x ∷ xs) [] h = absurd (h 0)

below_same : (ps : List Session) (xs : List Standing) (ss : List State) (k : ℕ) → ((k : ℕ) → IsSame (slice_get ps k) (slice_get xs k) (slice_get ss k)) → is_below (slice_get (counts_of ps) k) (slice_get ss k) ≡ is_unfinished (slice_get ps k) (slice_get xs k)
below_same [] [] [] k h = refl
below_same (p ∷ ps) (x ∷ xs) (a ∷ ss) zero h = ap (λ c. nat_lt c (length p.requests)) (h 0)
below_same (p ∷ ps) (x ∷ xs) (a ∷ ss) (suc k) h = below_same ps xs ss k (λ m. h (suc m))
below_same [] [] (a ∷ ss) k h = absurd (h 0)
below_same [] (x ∷ xs) ss k h = absurd (h 0)
below_same (p ∷ ps) [] ss k h = absurd (h 0)
below_same (p ∷ ps) (x ∷ xs) [] k h = absurd (h 0)

module _ (plan : Plan) (standings : List Standing) (t : ℕ) (shard : Shared) (place : Place) (p : IsPlaced plan standings t shard place) where
  all_same : (k : ℕ) → IsSame (slice_get plan.sessions k) (slice_get standings k) (slice_get place.turning.state.sessions k)
  all_same k =
      subst (λ ss. IsSame (slice_get plan.sessions k) (slice_get standings k) (slice_get ss k)) (sym p.so_far.sessions)
      (same plan t k shard (slice_get plan.sessions k) (slice_get standings k) (slice_get (sessions_at t shard.tenants) k) refl (p.each k))

  requests_are : place.tenant.requests ≡ counts_of plan.sessions
  requests_are = ap (λ x. x.requests) p.tenant_is ∙ ap counts_of p.sessions_are

  place_first : first_from 0 place.tenant.requests place.turning.state.sessions ≡ first_of 0 plan.sessions standings
  place_first = ap (λ ns. first_from 0 ns place.turning.state.sessions) requests_are ∙ first_same 0 plan.sessions standings place.turning.state.sessions all_same

  place_below : (s : ℕ) → is_below (slice_get place.tenant.requests s) (slice_get place.turning.state.sessions s) ≡ is_unfinished (slice_get plan.sessions s) (slice_get standings s)
  place_below s = ap (λ ns. is_below (slice_get ns s) (slice_get place.turning.state.sessions s)) requests_are ∙ below_same plan.sessions standings place.turning.state.sessions s all_same

first_by : (p : Option Plan) (standings : List Standing) (t : ℕ) (shard : Shared) (o : Option Place) → IsPlacedBy p standings t shard o → first_at o ≡ first_in p standings
first_by None standings t shard None h = refl
first_by (Some plan) standings t shard (Some place) h = place_first plan standings t shard place h
first_by None standings t shard (Some place) h = absurd h
first_by (Some plan) standings t shard None h = absurd h

pub same_first : (m n : ℕ) (ps : List (Option Plan)) (all : List (List Standing)) (shard : Shared) (stage : Stage) → ArePlaced n ps all shard stage → first_pick m stage ≡ first_of_all m ps all
same_first m n [] [] shard [] h = refl
same_first m n (p ∷ ps) (x ∷ all) shard (o ∷ stage) h =
    ap (λ f. or_picked m f (first_pick (m + 1) stage)) (first_by p x n shard o h.0) ∙ ap (λ later. or_picked m (first_in p x) later) (same_first (m + 1) (suc n) ps all shard stage h.1)
same_first m n [] [] shard (o ∷ stage) h = absurd h
same_first m n [] (x ∷ all) shard stage h = absurd h
same_first m n (p ∷ ps) [] shard stage h = absurd h
same_first m n (p ∷ ps) (x ∷ all) shard [] h = absurd h

unfinished_by : (p : Option Plan) (standings : List Standing) (n s : ℕ) (shard : Shared) (o : Option Place) → IsPlacedBy p standings n shard o → is_unfinished_in (Some o) s ≡ unfinished_in (Some p) (Some standings) s
unfinished_by None standings n s shard None h = refl
unfinished_by (Some plan) standings n s shard (Some place) h = place_below plan standings n shard place h s
unfinished_by None standings n s shard (Some place) h = absurd h
unfinished_by (Some plan) standings n s shard None h = absurd h

same_unfinished : (n k s : ℕ) (ps : List (Option Plan)) (all : List (List Standing)) (shard : Shared) (stage : Stage) → ArePlaced n ps all shard stage → is_unfinished_in (slice_get stage k) s ≡ unfinished_in (slice_get ps k) (slice_get all k) s
same_unfinished n k s [] [] shard [] h = refl
same_unfinished n zero s (p ∷ ps) (x ∷ all) shard (o ∷ stage) h = unfinished_by p x n s shard o h.0
same_unfinished n (suc k) s (p ∷ ps) (x ∷ all) shard (o ∷ stage) h = same_unfinished (suc n) k s ps all shard stage h.1
same_unfinished n k s [] [] shard (o ∷ stage) h = absurd h
same_unfinished n k s [] (x ∷ all) shard stage h = absurd h
same_unfinished n k s (p ∷ ps) [] shard stage h = absurd h
same_unfinished n k s (p ∷ ps) (x ∷ all) shard [] h = absurd h

pub same_picked : (ps : List (Option Plan)) (all : List (List Standing)) (shard : Shared) (stage : Stage) (turn : Pick) → ArePlaced 0 ps all shard stage → picked stage turn ≡ picked_by ps all turn
same_picked ps all shard stage turn h =
    ap (λ b. cond b (Some turn) (first_pick 0 stage)) (same_unfinished 0 turn.0 turn.1 ps all shard stage h)
    ∙ ap (λ o. cond (unfinished_in (slice_get ps turn.0) (slice_get all turn.0) turn.1) (Some turn) o) (same_first 0 0 ps all shard stage h)
