-- How a reading of a longer rule comes from readings of its parts.
use Rattle.std.specs.Prelude.{◌≡◌, ℕ, ◌+◌, List, [], ◌∷◌, ◌++◌, Some, Result, Ok, Err, slice_get}
use Rattle.std.specs.Result.{IsErr, IsErrAnd}
use Rattle.std.proofs.Common.{inl, inr, refl, sym, subst, ap, ◌∙◌}
use Rattle.apex_text.specs.declared.place.Span.{Span}
use Rattle.apex_lexer.specs.declared.token.Token.{Token}
use Rattle.apex_lexer.specs.declared.token.TokenKind.{TokenKind}
use Rattle.apex_lexer.specs.Reading.{Shown}
use Rattle.token_grammar.specs.declared.fault.ParseWord.{ParseWord}
use Rattle.token_grammar.specs.declared.fault.Stop.{Stop}
use Rattle.token_grammar.specs.declared.fault.Stop.TheVariants.{At, NoMemory}
use Rattle.token_grammar.specs.Notation.{Rule, Give, Refuse, Here, Since, Is, Then, Choose, Many, Test, Each, Reads, seen, span_of}
use Rattle.token_grammar.specs.Tokens.{skip}
use Rattle.token_grammar.specs.Readings.{Told, Passed, Tells, StopsAt, StopsBy}

-- ---- one after the other

then_tells : (tokens : List Token) {A B : Type 0} (a : Rule A) (f : A → Rule B) (at m : ℕ) (x : A) (o : Result (B × ℕ) Stop) → Reads (seen tokens) a at x m → Tells tokens (f x) m o → Tells tokens (Then a f) at o
then_tells tokens a f at m x (Ok r) h k = (x, m, h, k)
then_tells tokens a f at m x (Err (At w p)) h k = inr (x, m, h, k)
then_tells tokens a f at m x (Err NoMemory) h k = tt

halt_tells : (tokens : List Token) {A B : Type 0} (a : Rule A) (f : A → Rule B) (at : ℕ) (e : Stop) → Tells tokens a at (Err e) → Tells tokens (Then a f) at (Err e)
halt_tells tokens a f at (At w p) h = inl h
halt_tells tokens a f at NoMemory h = tt

-- the first part is read, and the second part tells
pub next : {tokens : List Token} {A B : Type 0} {a : Rule A} {f : A → Rule B} {at m : ℕ} {x : A} {o : Result (B × ℕ) Stop} → Told tokens a at (Ok (x, m)) → Told tokens (f x) m o → Told tokens (Then a f) at o
next {tokens = tokens} {a = a} {f = f} {at = at} {m = m} {x = x} {o = o} h k = record { by = then_tells tokens a f at m x o h.by k.by }

-- the first part stops
pub halt : {tokens : List Token} {A B : Type 0} {a : Rule A} {f : A → Rule B} {at : ℕ} {e : Stop} → Told tokens a at (Err e) → Told tokens (Then a f) at (Err e)
halt {tokens = tokens} {a = a} {f = f} {at = at} {e = e} h = record { by = halt_tells tokens a f at e h.by }

-- the same, where the first part is one token
pub past : {tokens : List Token} {B : Type 0} {kind : TokenKind} {f : Unit {0} → Rule B} {at m : ℕ} {o : Result (B × ℕ) Stop} → Passed tokens kind at (Ok m) → Told tokens (f tt) m o → Told tokens (Then (Is kind) f) at o
past {tokens = tokens} {kind = kind} {f = f} {at = at} {m = m} {o = o} h k = record { by = then_tells tokens (Is kind) f at m tt o h.by k.by }

stuck_tells : (tokens : List Token) {B : Type 0} (kind : TokenKind) (f : Unit {0} → Rule B) (at : ℕ) (e : Stop) → StopsAt tokens (Is kind) at e → Tells tokens (Then (Is kind) f) at (Err e)
stuck_tells tokens kind f at (At w p) h = inl h
stuck_tells tokens kind f at NoMemory h = tt

pub stuck : {tokens : List Token} {B : Type 0} {kind : TokenKind} {f : Unit {0} → Rule B} {at : ℕ} {e : Stop} → Passed tokens kind at (Err e) → Told tokens (Then (Is kind) f) at (Err e)
stuck {tokens = tokens} {kind = kind} {f = f} {at = at} {e = e} h = record { by = stuck_tells tokens kind f at e h.by }

-- the place here, and the bytes up to here
pub here : {tokens : List Token} {B : Type 0} {f : ℕ → Rule B} {at : ℕ} {o : Result (B × ℕ) Stop} → Told tokens (f at) at o → Told tokens (Then Here f) at o
here {tokens = tokens} {f = f} {at = at} {o = o} k = record { by = then_tells tokens Here f at at at o (refl, refl) k.by }

pub since : {tokens : List Token} {B : Type 0} {f : Span → Rule B} {from at : ℕ} {o : Result (B × ℕ) Stop} → Told tokens (f (span_of (seen tokens) from at)) at o → Told tokens (Then (Since from) f) at o
since {tokens = tokens} {f = f} {from = from} {at = at} {o = o} k = record { by = then_tells tokens (Since from) f at at (span_of (seen tokens) from at) o (refl, refl) k.by }

-- ---- what is made at the end, by a call that knows no tokens

pub ended : {tokens : List Token} {B : Type 0} {f : Span → Rule B} {from at : ℕ} {s : Span} {o : Result (B × ℕ) Stop} → s ≡ span_of (seen tokens) from at → ((ts : List Token) → Told ts (f s) at o) → Told tokens (Then (Since from) f) at o
ended {tokens = tokens} {f = f} {at = at} {o = o} e h = since (subst (λ v. Told tokens (f v) at o) e (h tokens))

-- what is made is known by what it is made of
pub given : {tokens : List Token} {A : Type 0} {x y : A} {at : ℕ} {o : Result (A × ℕ) Stop} → x ≡ y → ((ts : List Token) → Told ts (Give x) at o) → Told tokens (Give y) at o
given {tokens = tokens} {at = at} {o = o} e h = subst (λ z. Told tokens (Give z) at o) e (h tokens)

-- ---- single readings

pub no_memory : {tokens : List Token} {A : Type 0} {a : Rule A} {at : ℕ} → Told tokens a at (Err NoMemory)
no_memory = record { by = tt }

pub gives : {tokens : List Token} {A : Type 0} {x : A} {at : ℕ} → Told tokens (Give x) at (Ok (x, at))
gives = record { by = (refl, refl) }

pub refuses : {tokens : List Token} {A : Type 0} {word : ParseWord} {place at : ℕ} → Told tokens {A = A} (Refuse word place) at (Err (At word place))
refuses = record { by = (refl, refl) }

pub passed : {tokens : List Token} {kind : TokenKind} {at : ℕ} {t : Shown} → slice_get (seen tokens) at ≡ Some t → t.kind ≡ kind → Passed tokens kind at (Ok (at + 1))
passed {at = at} {t = t} g k = record { by = (t, g, k, refl) }

-- one token alone
pub last : {tokens : List Token} {kind : TokenKind} {at end : ℕ} → Passed tokens kind at (Ok end) → Told tokens (Is kind) at (Ok (tt, end))
last h = record { by = h.by }

last_by : (tokens : List Token) (kind : TokenKind) (at : ℕ) (e : Stop) → StopsAt tokens (Is kind) at e → StopsBy tokens (Is kind) at e
last_by tokens kind at (At w p) h = h
last_by tokens kind at NoMemory h = tt

pub last_stuck : {tokens : List Token} {kind : TokenKind} {at : ℕ} {e : Stop} → Passed tokens kind at (Err e) → Told tokens (Is kind) at (Err e)
last_stuck {tokens = tokens} {kind = kind} {at = at} {e = e} h = record { by = last_by tokens kind at e h.by }

-- ---- choices

choose_tells : (tokens : List Token) {A : Type 0} (test : Test) (a b : Rule A) (at : ℕ) (o : Result (A × ℕ) Stop) → test (seen tokens) at → Tells tokens a at o → Tells tokens (Choose test a b) at o
choose_tells tokens test a b at (Ok r) t h = inl (t, h)
choose_tells tokens test a b at (Err (At w p)) t h = inl (t, h)
choose_tells tokens test a b at (Err NoMemory) t h = tt

other_tells : (tokens : List Token) {A : Type 0} (test : Test) (a b : Rule A) (at : ℕ) (o : Result (A × ℕ) Stop) → (test (seen tokens) at → ⊥) → Tells tokens b at o → Tells tokens (Choose test a b) at o
other_tells tokens test a b at (Ok r) t h = inr (t, h)
other_tells tokens test a b at (Err (At w p)) t h = inr (t, h)
other_tells tokens test a b at (Err NoMemory) t h = tt

-- the test holds
pub one_way : {tokens : List Token} {A : Type 0} {test : Test} {a b : Rule A} {at : ℕ} {o : Result (A × ℕ) Stop} → test (seen tokens) at → Told tokens a at o → Told tokens (Choose test a b) at o
one_way {tokens = tokens} {test = test} {a = a} {b = b} {at = at} {o = o} t h = record { by = choose_tells tokens test a b at o t h.by }

-- the test doesn't hold
pub other_way : {tokens : List Token} {A : Type 0} {test : Test} {a b : Rule A} {at : ℕ} {o : Result (A × ℕ) Stop} → (test (seen tokens) at → ⊥) → Told tokens b at o → Told tokens (Choose test a b) at o
other_way {tokens = tokens} {test = test} {a = a} {b = b} {at = at} {o = o} t h = record { by = other_tells tokens test a b at o t h.by }

-- ---- an error that is handed on

raise_tells : (tokens : List Token) {A : Type 0} (a : Rule A) (at : ℕ) (res : Result (A × ℕ) Stop) (e : Stop) → IsErr res × IsErrAnd res (λ x. x ≡ e) → Tells tokens a at (Err e) → Tells tokens a at res
raise_tells tokens a at (Ok r) e h k = absurd h.1
raise_tells tokens a at (Err x) e h k = subst (λ y. Tells tokens a at (Err y)) (sym h.1) k

pub raised : {tokens : List Token} {A : Type 0} {a : Rule A} {at : ℕ} {res : Result (A × ℕ) Stop} {e : Stop} → IsErr res × IsErrAnd res (λ x. x ≡ e) → Told tokens a at (Err e) → Told tokens a at res
raised {tokens = tokens} {a = a} {at = at} {res = res} {e = e} h k = record { by = raise_tells tokens a at res e h k.by }

-- ---- many

-- the items that were read so far
pub record SoFar (tokens : List Token) {A : Type 0} (test : Test) (item : Rule A) (at : ℕ) (xs : List A) (end : ℕ) : Type 0 where
  pub each : Each (test (seen tokens)) (Reads (seen tokens) item) at xs end

pub begun : {tokens : List Token} {A : Type 0} {test : Test} {item : Rule A} {at : ℕ} → SoFar tokens test item at [] at
begun = record { each = refl }

each_more : {A : Type 0} (begins : ℕ → Type 0) (reads : ℕ → A → ℕ → Type 0) (at : ℕ) (xs : List A) (m : ℕ) (x : A) (end : ℕ) → Each begins reads at xs m → begins m → reads m x end → Each begins reads at (xs ++ x ∷ []) end
each_more begins reads at [] m x end e b r = subst (λ a. begins a × ((middle : ℕ) × reads a x middle × Each begins reads middle [] end)) e (b, (end, r, refl))
each_more begins reads at (y ∷ ys) m x end (b0, (n, r0, rest)) b r = (b0, (n, r0, each_more begins reads n ys m x end rest b r))

pub grown : {tokens : List Token} {A : Type 0} {test : Test} {item : Rule A} {at m end : ℕ} {xs : List A} {x : A} → SoFar tokens test item at xs m → test (seen tokens) m → Told tokens item m (Ok (x, end)) → SoFar tokens test item at (xs ++ x ∷ []) end
grown {tokens = tokens} {test = test} {item = item} {at = at} {m = m} {end = end} {xs = xs} {x = x} s t h = record { each = each_more (test (seen tokens)) (Reads (seen tokens) item) at xs m x end s.each t h.by }

pub all_read : {tokens : List Token} {A : Type 0} {test : Test} {item : Rule A} {at end : ℕ} {xs : List A} → SoFar tokens test item at xs end → (test (seen tokens) end → ⊥) → Told tokens (Many test item) at (Ok (xs, end))
all_read s t = record { by = (s.each, t) }

broken_tells : (tokens : List Token) {A : Type 0} (test : Test) (item : Rule A) (at m : ℕ) (xs : List A) (e : Stop) → Each (test (seen tokens)) (Reads (seen tokens) item) at xs m → test (seen tokens) m → Tells tokens item m (Err e) → Tells tokens (Many test item) at (Err e)
broken_tells tokens test item at m xs (At w p) s t h = (xs, m, s, t, h)
broken_tells tokens test item at m xs NoMemory s t h = tt

pub broken : {tokens : List Token} {A : Type 0} {test : Test} {item : Rule A} {at m : ℕ} {xs : List A} {e : Stop} → SoFar tokens test item at xs m → test (seen tokens) m → Told tokens item m (Err e) → Told tokens (Many test item) at (Err e)
broken {tokens = tokens} {test = test} {item = item} {at = at} {m = m} {xs = xs} {e = e} s t h = record { by = broken_tells tokens test item at m xs e s.each t h.by }

-- ---- many of which nothing is kept

pub record Skipped (tokens : List Token) {A : Type 0} (test : Test) (item : Rule A) (at end : ℕ) : Type 0 where
  pub items : List A
  pub so_far : SoFar tokens test item at items end

pub skip_begun : {tokens : List Token} {A : Type 0} {test : Test} {item : Rule A} {at : ℕ} → Skipped tokens test item at at
skip_begun = record { items = []; so_far = begun }

pub skip_more : {tokens : List Token} {A : Type 0} {test : Test} {item : Rule A} {at m end : ℕ} {x : A} → Skipped tokens test item at m → test (seen tokens) m → Told tokens item m (Ok (x, end)) → Skipped tokens test item at end
skip_more {x = x} s t h = record { items = s.items ++ x ∷ []; so_far = grown s.so_far t h }

pub skip_ended : {tokens : List Token} {A : Type 0} {test : Test} {item : Rule A} {at end : ℕ} → Skipped tokens test item at end → (test (seen tokens) end → ⊥) → Told tokens (skip test item) at (Ok (tt, end))
skip_ended {end = end} s t = next (all_read s.so_far t) gives

pub skip_broken : {tokens : List Token} {A : Type 0} {test : Test} {item : Rule A} {at m : ℕ} {e : Stop} → Skipped tokens test item at m → test (seen tokens) m → Told tokens item m (Err e) → Told tokens (skip test item) at (Err e)
skip_broken s t h = halt (broken s.so_far t h)

-- ---- a first item and many behind it

pub record Listed (tokens : List Token) {A : Type 0} (test : Test) (item : Rule A) (at : ℕ) (first : A) (all : List A) (end : ℕ) : Type 0 where
  pub rest : List A
  pub is : all ≡ first ∷ rest
  pub so_far : SoFar tokens test item at rest end

pub list_begun : {tokens : List Token} {A : Type 0} {test : Test} {item : Rule A} {at : ℕ} {first : A} {all : List A} → all ≡ first ∷ [] → Listed tokens test item at first all at
list_begun e = record { rest = []; is = e; so_far = begun }

pub list_more : {tokens : List Token} {A : Type 0} {test : Test} {item : Rule A} {at m end : ℕ} {first x : A} {all more : List A} → Listed tokens test item at first all m → test (seen tokens) m → Told tokens item m (Ok (x, end)) → more ≡ all ++ x ∷ [] → Listed tokens test item at first more end
list_more {x = x} s t h e = record { rest = s.rest ++ x ∷ []; is = e ∙ ap (λ l. l ++ x ∷ []) s.is; so_far = grown s.so_far t h }

pub list_ended : {tokens : List Token} {A : Type 0} {test : Test} {item : Rule A} {at end : ℕ} {first : A} {all : List A} → Listed tokens test item at first all end → (test (seen tokens) end → ⊥) → Told tokens (Then (Many test item) (λ xs. Give (first ∷ xs))) at (Ok (all, end))
list_ended {tokens = tokens} {test = test} {item = item} {at = at} {end = end} {first = first} s t =
    subst (λ l. Told tokens (Then (Many test item) (λ xs. Give (first ∷ xs))) at (Ok (l, end))) (sym s.is) (next (all_read s.so_far t) gives)

pub list_broken : {tokens : List Token} {A : Type 0} {test : Test} {item : Rule A} {at m : ℕ} {first : A} {all : List A} {e : Stop} → Listed tokens test item at first all m → test (seen tokens) m → Told tokens item m (Err e) → Told tokens (Then (Many test item) (λ xs. Give (first ∷ xs))) at (Err e)
list_broken s t h = halt (broken s.so_far t h)
