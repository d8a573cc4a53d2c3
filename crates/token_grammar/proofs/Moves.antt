-- Readings go forwards, and stay within the tokens.
use Rattle.std.specs.Prelude.{◌≡◌, ℕ, ◌+◌, ◌-◌, ◌<◌, ◌≤◌, ◌⊎◌, List, [], ◌∷◌, Some, Ok, length, slice_get}
use Rattle.std.proofs.Common.{arith, inl, inr, ⊎_elim}
use Rattle.std.proofs.lemmas.List.{length-map}
use Rattle.std.proofs.lemmas.Option.{slice_get_within}
use Rattle.apex_lexer.specs.declared.token.Token.{Token}
use Rattle.apex_lexer.specs.Reading.{Shown, shown}
use Rattle.token_grammar.specs.Notation.{Rule, Give, Refuse, Here, Since, Is, Take, Then, Choose, Many, Each, Reads, seen}
use Rattle.token_grammar.specs.Readings.{Told}

-- a reading by the rule takes at least one token
abbrev pub Moves : {A : Type 0} → Rule A → Type 0
Moves (Give x) = ⊥
Moves (Refuse word place) = Unit {0}
Moves Here = ⊥
Moves (Since from) = ⊥
Moves (Is kind) = Unit {0}
Moves (Take class) = Unit {0}
Moves (Then {A} {B} a f) = Moves a ⊎ ((x : A) → Moves (f x))
Moves (Choose test a b) = Moves a × Moves b
Moves (Many test item) = ⊥

-- a place that is reached from another
pub record Reached (tokens : List Shown) (at end : ℕ) : Type 0 where
  pub forth : at ≤ end
  pub within : (end ≡ at) ⊎ (end ≤ length tokens)

stays : (tokens : List Shown) (at end : ℕ) → end ≡ at → Reached tokens at end
stays tokens at end e = record { forth = omega arith; within = inl e }

takes : (tokens : List Shown) (at end : ℕ) (t : Shown) → slice_get tokens at ≡ Some t → end ≡ at + 1 → Reached tokens at end
takes tokens at end t g e = let w = slice_get_within tokens at t g in record { forth = omega arith; within = inr (omega arith) }

both : (tokens : List Shown) (at middle end : ℕ) → Reached tokens at middle → Reached tokens middle end → Reached tokens at end
both tokens at middle end a b = record {
  forth = let p = a.forth in let q = b.forth in omega arith;
  within = ⊎_elim (λ e. ⊎_elim (λ f. inl (omega arith)) (λ f. inr (omega arith)) a.within) (λ e. inr e) b.within;
}

each_reached : (tokens : List Shown) {A : Type 0} (begins : ℕ → Type 0) (reads : ℕ → A → ℕ → Type 0) → ((at : ℕ) (x : A) (m : ℕ) → reads at x m → Reached tokens at m) → (at : ℕ) (xs : List A) (m : ℕ) → Each begins reads at xs m → Reached tokens at m
each_reached tokens begins reads one at [] m e = stays tokens at m e
each_reached tokens begins reads one at (x ∷ xs) m (b, (p, r, rest)) = both tokens at p m (one at x p r) (each_reached tokens begins reads one p xs m rest)

pub reached : (tokens : List Shown) {A : Type 0} (r : Rule A) (at : ℕ) (x : A) (m : ℕ) → Reads tokens r at x m → Reached tokens at m
reached tokens (Give z) at x m h = stays tokens at m h.1
reached tokens (Refuse w p) at x m h = absurd h
reached tokens Here at x m h = stays tokens at m h.1
reached tokens (Since from) at x m h = stays tokens at m h.1
reached tokens (Is kind) at x m (t, g, d, e) = takes tokens at m t g e
reached tokens (Take class) at x m (t, g, d, e) = takes tokens at m t g e
reached tokens (Then a f) at x m (u, p, h, k) = both tokens at p m (reached tokens a at u p h) (reached tokens (f u) p x m k)
reached tokens (Choose test a b) at x m (inl (t, h)) = reached tokens a at x m h
reached tokens (Choose test a b) at x m (inr (t, h)) = reached tokens b at x m h
reached tokens (Many test item) at x m h = each_reached tokens (test tokens) (Reads tokens item) (reached tokens item) at x m h.0

-- a place that is reached by a token at least
pub record Passed_on (tokens : List Shown) (at end : ℕ) : Type 0 where
  pub beyond : at < end
  pub inside : end ≤ length tokens

pub moved : (tokens : List Shown) {A : Type 0} (r : Rule A) (at : ℕ) (x : A) (m : ℕ) → Moves r → Reads tokens r at x m → Passed_on tokens at m
moved tokens (Give z) at x m v h = absurd v
moved tokens (Refuse w p) at x m v h = absurd h
moved tokens Here at x m v h = absurd v
moved tokens (Since from) at x m v h = absurd v
moved tokens (Is kind) at x m v (t, g, d, e) = let w = slice_get_within tokens at t g in record { beyond = omega arith; inside = omega arith }
moved tokens (Take class) at x m v (t, g, d, e) = let w = slice_get_within tokens at t g in record { beyond = omega arith; inside = omega arith }
moved tokens (Then a f) at x m (inl v) (u, p, h, k) =
    let one = moved tokens a at u p v h in
    let two = reached tokens (f u) p x m k in
    let b = one.beyond in let i = one.inside in let o = two.forth in
    record { beyond = omega arith; inside = ⊎_elim (λ e. omega arith) (λ e. e) two.within }
moved tokens (Then a f) at x m (inr v) (u, p, h, k) =
    let one = reached tokens a at u p h in
    let two = moved tokens (f u) p x m (v u) k in
    let o = one.forth in let b = two.beyond in
    record { beyond = omega arith; inside = two.inside }
moved tokens (Choose test a b) at x m v (inl (t, h)) = moved tokens a at x m v.0 h
moved tokens (Choose test a b) at x m v (inr (t, h)) = moved tokens b at x m v.1 h
moved tokens (Many test item) at x m v h = absurd v

-- fewer tokens are left
pub nearer : {tokens : List Token} {A : Type 0} {r : Rule A} {at m : ℕ} {x : A} → Moves r → Told tokens r at (Ok (x, m)) → length tokens - m < length tokens - at
nearer {tokens = tokens} {r = r} {at = at} {m = m} {x = x} v h =
    let p = moved (seen tokens) r at x m v h.by in let b = p.beyond in let i = p.inside in let n = length-map tokens shown in omega arith

-- the place behind is a later one
pub beyond : {tokens : List Token} {A : Type 0} {r : Rule A} {at m : ℕ} {x : A} → Moves r → Told tokens r at (Ok (x, m)) → at < m
beyond {tokens = tokens} {r = r} {at = at} {m = m} {x = x} v h = let p = moved (seen tokens) r at x m v h.by in p.beyond
