-- A reading has one tree or one stop, and not both.
use Rattle.std.specs.Prelude.{◌≡◌, ℕ, List, [], ◌∷◌, Option, Some, Ok, Err, slice_get}
use Rattle.std.proofs.Common.{inl, inr, refl, sym, subst, ap, ◌∙◌}
use Rattle.std.proofs.lemmas.Option.{same_Some, none-some}
use Rattle.apex_lexer.specs.declared.token.Token.{Token}
use Rattle.apex_lexer.specs.Reading.{Shown}
use Rattle.token_grammar.specs.declared.fault.ParseWord.{ParseWord}
use Rattle.token_grammar.specs.declared.fault.Stop.{Stop}
use Rattle.token_grammar.specs.declared.fault.Stop.TheVariants.{At, NoMemory}
use Rattle.token_grammar.specs.Notation.{Rule, Give, Refuse, Here, Since, Is, Take, Then, Choose, Many, Each, Reads, Stops, seen}
use Rattle.token_grammar.specs.Readings.{Told, Found, RefusedBy, fault_of}

-- the tokens at a place are one token
same_token : (o : Option Shown) (t u : Shown) → o ≡ Some t → o ≡ Some u → t ≡ u
same_token o t u e f = same_Some t u (sym e ∙ f)

each_one : {A : Type 0} (begins : ℕ → Type 0) (reads : ℕ → A → ℕ → Type 0)
    → ((at : ℕ) (x y : A) (m n : ℕ) → reads at x m → reads at y n → (x ≡ y) × (m ≡ n))
    → (at : ℕ) (xs ys : List A) (m n : ℕ) → Each begins reads at xs m → (begins m → ⊥) → Each begins reads at ys n → (begins n → ⊥) → (xs ≡ ys) × (m ≡ n)
each_one begins reads one at [] [] m n h a k b = (refl, h ∙ sym k)
each_one begins reads one at [] (y ∷ ys) m n h a (k0, k) b = absurd (a (subst begins (sym h) k0))
each_one begins reads one at (x ∷ xs) [] m n (h0, h) a k b = absurd (b (subst begins (sym k) h0))
each_one begins reads one at (x ∷ xs) (y ∷ ys) m n (h0, (p, h1, h2)) a (k0, (q, k1, k2)) b =
    let e = one at x y p q h1 k1 in
    let f = each_one begins reads one p xs ys m n h2 a (subst (λ z. Each begins reads z ys n) (sym e.1) k2) b in
    (ap (λ z. z ∷ xs) e.0 ∙ ap (λ z. y ∷ z) f.0, f.1)

-- what is read is unique
pub reads_one : (tokens : List Shown) {A : Type 0} (r : Rule A) (at : ℕ) (x y : A) (m n : ℕ) → Reads tokens r at x m → Reads tokens r at y n → (x ≡ y) × (m ≡ n)
reads_one tokens (Give z) at x y m n h k = (h.0 ∙ sym k.0, h.1 ∙ sym k.1)
reads_one tokens (Refuse w p) at x y m n h k = absurd h
reads_one tokens Here at x y m n h k = (h.0 ∙ sym k.0, h.1 ∙ sym k.1)
reads_one tokens (Since from) at x y m n h k = (h.0 ∙ sym k.0, h.1 ∙ sym k.1)
reads_one tokens (Is kind) at x y m n (t, g, d, e) (u, g', d', e') = (refl, e ∙ sym e')
reads_one tokens (Take class) at x y m n (t, g, d, e) (u, g', d', e') =
    (same_Some x y (sym d ∙ ap class (same_token (slice_get tokens at) t u g g') ∙ d'), e ∙ sym e')
reads_one tokens (Then a f) at x y m n (u, p, h, k) (v, q, h', k') =
    let e = reads_one tokens a at u v p q h h' in
    reads_one tokens (f u) p x y m n k (subst (λ z. Reads tokens (f z) p y n) (sym e.0) (subst (λ z. Reads tokens (f v) z y n) (sym e.1) k'))
reads_one tokens (Choose test a b) at x y m n (inl (t, h)) (inl (u, k)) = reads_one tokens a at x y m n h k
reads_one tokens (Choose test a b) at x y m n (inl (t, h)) (inr (u, k)) = absurd (u t)
reads_one tokens (Choose test a b) at x y m n (inr (t, h)) (inl (u, k)) = absurd (t u)
reads_one tokens (Choose test a b) at x y m n (inr (t, h)) (inr (u, k)) = reads_one tokens b at x y m n h k
reads_one tokens (Many test item) at x y m n h k = each_one (test tokens) (Reads tokens item) (reads_one tokens item) at x y m n h.0 h.1 k.0 k.1

-- items that are all read, and items before one that isn't
each_apart : {A : Type 0} (begins : ℕ → Type 0) (reads : ℕ → A → ℕ → Type 0) (stops : ℕ → Type 0)
    → ((at : ℕ) (x y : A) (m n : ℕ) → reads at x m → reads at y n → (x ≡ y) × (m ≡ n))
    → ((at : ℕ) (x : A) (m : ℕ) → reads at x m → stops at → ⊥)
    → (at : ℕ) (xs ys : List A) (m n : ℕ) → Each begins reads at xs m → (begins m → ⊥) → Each begins reads at ys n → begins n → stops n → ⊥
each_apart begins reads stops one off at [] [] m n h a k b s = a (subst begins (k ∙ sym h) b)
each_apart begins reads stops one off at [] (y ∷ ys) m n h a (k0, k) b s = a (subst begins (sym h) k0)
each_apart begins reads stops one off at (x ∷ xs) [] m n (h0, (p, h1, h2)) a k b s = off at x p h1 (subst stops k s)
each_apart begins reads stops one off at (x ∷ xs) (y ∷ ys) m n (h0, (p, h1, h2)) a (k0, (q, k1, k2)) b s =
    let e = one at x y p q h1 k1 in
    each_apart begins reads stops one off p xs ys m n h2 a (subst (λ z. Each begins reads z ys n) (sym e.1) k2) b s

-- where something is read, the reading doesn't stop
pub apart : (tokens : List Shown) {A : Type 0} (r : Rule A) (at : ℕ) (x : A) (m : ℕ) (w : ParseWord) (p : ℕ) → Reads tokens r at x m → Stops tokens r at w p → ⊥
apart tokens (Give z) at x m w p h k = k
apart tokens (Refuse v q) at x m w p h k = h
apart tokens Here at x m w p h k = k
apart tokens (Since from) at x m w p h k = k
apart tokens (Is kind) at x m w p (t, g, d, e) k = k.0 t g d
apart tokens (Take class) at x m w p (t, g, d, e) k = none-some x (sym (k.0 t g) ∙ d)
apart tokens (Then a f) at x m w p (u, q, h, h') (inl k) = apart tokens a at u q w p h k
apart tokens (Then a f) at x m w p (u, q, h, h') (inr (v, r, k, k')) =
    let e = reads_one tokens a at u v q r h k in
    apart tokens (f u) q x m w p h' (subst (λ z. Stops tokens (f z) q w p) (sym e.0) (subst (λ z. Stops tokens (f v) z w p) (sym e.1) k'))
apart tokens (Choose test a b) at x m w p (inl (t, h)) (inl (u, k)) = apart tokens a at x m w p h k
apart tokens (Choose test a b) at x m w p (inl (t, h)) (inr (u, k)) = u t
apart tokens (Choose test a b) at x m w p (inr (t, h)) (inl (u, k)) = t u
apart tokens (Choose test a b) at x m w p (inr (t, h)) (inr (u, k)) = apart tokens b at x m w p h k
apart tokens (Many test item) at x m w p h (ys, n, k, b, s) =
    each_apart (test tokens) (Reads tokens item) (λ z. Stops tokens item z w p) (reads_one tokens item) (λ z y q. apart tokens item z y q w p) at x ys m n h.0 h.1 k b s

-- the item that isn't read is at one place
each_stop : {A : Type 0} (begins : ℕ → Type 0) (reads : ℕ → A → ℕ → Type 0) (stops stops' : ℕ → Type 0)
    → ((at : ℕ) (x y : A) (m n : ℕ) → reads at x m → reads at y n → (x ≡ y) × (m ≡ n))
    → ((at : ℕ) (x : A) (m : ℕ) → reads at x m → stops at → ⊥)
    → ((at : ℕ) (x : A) (m : ℕ) → reads at x m → stops' at → ⊥)
    → (at : ℕ) (xs ys : List A) (m n : ℕ) → Each begins reads at xs m → stops m → Each begins reads at ys n → stops' n → m ≡ n
each_stop begins reads s s' one off off' at [] [] m n h a k b = h ∙ sym k
each_stop begins reads s s' one off off' at [] (y ∷ ys) m n h a (k0, (q, k1, k2)) b = absurd (off at y q k1 (subst s h a))
each_stop begins reads s s' one off off' at (x ∷ xs) [] m n (h0, (p, h1, h2)) a k b = absurd (off' at x p h1 (subst s' k b))
each_stop begins reads s s' one off off' at (x ∷ xs) (y ∷ ys) m n (h0, (p, h1, h2)) a (k0, (q, k1, k2)) b =
    let e = one at x y p q h1 k1 in
    each_stop begins reads s s' one off off' p xs ys m n h2 a (subst (λ z. Each begins reads z ys n) (sym e.1) k2) b

-- a reading stops once
pub stops_one : (tokens : List Shown) {A : Type 0} (r : Rule A) (at : ℕ) (w v : ParseWord) (p q : ℕ) → Stops tokens r at w p → Stops tokens r at v q → (w ≡ v) × (p ≡ q)
stops_one tokens (Give z) at w v p q h k = absurd h
stops_one tokens (Refuse u r) at w v p q h k = (h.0 ∙ sym k.0, h.1 ∙ sym k.1)
stops_one tokens Here at w v p q h k = absurd h
stops_one tokens (Since from) at w v p q h k = absurd h
stops_one tokens (Is kind) at w v p q h k = (h.1 ∙ sym k.1, h.2 ∙ sym k.2)
stops_one tokens (Take class) at w v p q h k = (h.1 ∙ sym k.1, h.2 ∙ sym k.2)
stops_one tokens (Then a f) at w v p q (inl h) (inl k) = stops_one tokens a at w v p q h k
stops_one tokens (Then a f) at w v p q (inl h) (inr (y, n, k, k')) = absurd (apart tokens a at y n w p k h)
stops_one tokens (Then a f) at w v p q (inr (x, m, h, h')) (inl k) = absurd (apart tokens a at x m v q h k)
stops_one tokens (Then a f) at w v p q (inr (x, m, h, h')) (inr (y, n, k, k')) =
    let e = reads_one tokens a at x y m n h k in
    stops_one tokens (f x) m w v p q h' (subst (λ z. Stops tokens (f z) m v q) (sym e.0) (subst (λ z. Stops tokens (f y) z v q) (sym e.1) k'))
stops_one tokens (Choose test a b) at w v p q (inl (t, h)) (inl (u, k)) = stops_one tokens a at w v p q h k
stops_one tokens (Choose test a b) at w v p q (inl (t, h)) (inr (u, k)) = absurd (u t)
stops_one tokens (Choose test a b) at w v p q (inr (t, h)) (inl (u, k)) = absurd (t u)
stops_one tokens (Choose test a b) at w v p q (inr (t, h)) (inr (u, k)) = stops_one tokens b at w v p q h k
stops_one tokens (Many test item) at w v p q (xs, m, h, t, s) (ys, n, k, u, z) =
    let e = each_stop (test tokens) (Reads tokens item) (λ i. Stops tokens item i w p) (λ i. Stops tokens item i v q) (reads_one tokens item) (λ i y j. apart tokens item i y j w p) (λ i y j. apart tokens item i y j v q) at xs ys m n h s k z in
    stops_one tokens item m w v p q s (subst (λ i. Stops tokens item i v q) (sym e) z)

-- ---- public calls

pub found : {tokens : List Token} {A : Type 0} {r : Rule A} {at end : ℕ} {x : A} → Told tokens r at (Ok (x, end)) → Found tokens r at x end
found {tokens = tokens} {r = r} {at = at} {end = end} {x = x} h = record {
  reads = h.by;
  only = λ y n k. reads_one (seen tokens) r at y x n end k h.by;
  unstopped = λ w p k. apart (seen tokens) r at x end w p h.by k;
}

refused_by : (tokens : List Token) {A : Type 0} (r : Rule A) (at : ℕ) (e : Stop) → Told tokens r at (Err e) → RefusedBy tokens r at (fault_of tokens e)
refused_by tokens r at (At w p) h = record {
  place = p;
  stops = h.by;
  is_span = refl;
  only = λ v q k. stops_one (seen tokens) r at v w q p k h.by;
  none = λ x m k. apart (seen tokens) r at x m w p k h.by;
}
refused_by tokens r at NoMemory h = tt

pub refused : {tokens : List Token} {A : Type 0} {r : Rule A} {at : ℕ} {e : Stop} → Told tokens r at (Err e) → RefusedBy tokens r at (fault_of tokens e)
refused {tokens = tokens} {r = r} {at = at} {e = e} h = refused_by tokens r at e h
