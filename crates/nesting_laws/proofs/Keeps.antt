-- What is known of all that a rule reads.
use Rattle.std.specs.Prelude.{◌≡◌, ◌≤◌, ◌+◌, ℕ, zero, suc, List, [], ◌∷◌, Option, Some, option_map, map}
use Rattle.std.proofs.Common.{inl, inr, refl, sym, subst, arith}
use Rattle.std.proofs.Math.Nat.{le_trans, max-le, min-le_left}
use Rattle.apex_lexer.specs.Reading.{Shown}
use Rattle.apex_lexer.specs.declared.token.Keyword.{Keyword}
use Rattle.apex_lexer.specs.declared.token.Sign.{Sign}
use Rattle.apex_syntax.specs.Depths.{most, some, opened}
use Rattle.token_grammar.specs.declared.fault.ParseWord.{ParseWord}
use Rattle.token_grammar.specs.Notation.{Rule, Give, Refuse, Take, Then, Choose, Many, Test, Each, Reads}
use Rattle.token_grammar.specs.Tokens.{open_sign, open_word, optional, refuse_here}

-- whatever is read by the rule has the property
pub record Keeps {A : Type 0} (rule : Rule A) (P : A → Type 0) : Type 0 where
  pub by : (tokens : List Shown) (at : ℕ) (x : A) (end : ℕ) → Reads tokens rule at x end → P x

pub gives : {A : Type 0} {x : A} {P : A → Type 0} → P x → Keeps (Give x) P
gives {P = P} h = record { by = λ tokens at y end r. subst P (sym r.0) h }

pub refuses : {A : Type 0} {word : ParseWord} {place : ℕ} {P : A → Type 0} → Keeps (Refuse word place) P
refuses = record { by = λ tokens at y end r. absurd r }

pub takes : {A : Type 0} {class : Shown → Option A} {P : A → Type 0} → ((t : Shown) (x : A) → class t ≡ Some x → P x) → Keeps (Take class) P
takes h = record { by = λ tokens at x end r. h r.0 x r.2 }

pub always : {A : Type 0} {a : Rule A} {P : A → Type 0} → ((x : A) → P x) → Keeps a P
always h = record { by = λ tokens at x end r. h x }

-- one after the other
pub first : {A B : Type 0} {a : Rule A} {f : A → Rule B} {Q : A → Type 0} {P : B → Type 0} → Keeps a Q → ((x : A) → Q x → Keeps (f x) P) → Keeps (Then a f) P
first k h = record { by = λ tokens at y end r. (h r.0 (k.by tokens at r.0 r.1 r.2)).by tokens r.1 y end r.3 }

-- nothing need be known of what is read first
pub past : {A B : Type 0} {a : Rule A} {f : A → Rule B} {P : B → Type 0} → ((x : A) → Keeps (f x) P) → Keeps (Then a f) P
past h = record { by = λ tokens at y end r. (h r.0).by tokens r.1 y end r.3 }

chosen : {A : Type 0} (P : A → Type 0) (test : Test) (a b : Rule A) → Keeps a P → Keeps b P → (tokens : List Shown) (at : ℕ) (x : A) (end : ℕ) → Reads tokens (Choose test a b) at x end → P x
chosen P test a b j k tokens at x end (inl (t, h)) = j.by tokens at x end h
chosen P test a b j k tokens at x end (inr (t, h)) = k.by tokens at x end h

pub either : {A : Type 0} {test : Test} {a b : Rule A} {P : A → Type 0} → Keeps a P → Keeps b P → Keeps (Choose test a b) P
either {test = test} {a = a} {b = b} {P = P} j k = record { by = chosen P test a b j k }

pub wider : {A : Type 0} {a : Rule A} {P Q : A → Type 0} → ((x : A) → P x → Q x) → Keeps a P → Keeps a Q
wider w k = record { by = λ tokens at x end r. w x (k.by tokens at x end r) }

pub refused_here : {A : Type 0} {word : ParseWord} {P : A → Type 0} → Keeps (refuse_here word) P
refused_here = past (λ place. refuses)

-- ---- measures of what is read

-- nothing is open
flat : (m n : ℕ) → m ≡ 0 → m ≤ n
flat m n e = omega arith

pub is_within : {a b n : ℕ} → a ≡ b → b ≤ n → a ≤ n
is_within {n = n} e h = subst (λ m. m ≤ n) (sym e) h

pub no_depth : {a n : ℕ} → a ≡ 0 → a ≤ n
no_depth {a = a} {n = n} e = flat a n e

each_within : {A : Type 0} (d : A → ℕ) (n : ℕ) (item : Rule A) → Keeps item (λ x. d x ≤ n) → (tokens : List Shown) (begins : ℕ → Type 0) (at : ℕ) (xs : List A) (end : ℕ) → Each begins (Reads tokens item) at xs end → most (map d xs) ≤ n
each_within d n item k tokens begins at [] end e = omega arith
each_within d n item k tokens begins at (x ∷ xs) end (b, (m, r, rest)) = max-le (k.by tokens at x m r) (each_within d n item k tokens begins m xs end rest)

-- each of many is at most so much
pub many : {A : Type 0} {test : Test} {item : Rule A} (d : A → ℕ) {n : ℕ} → Keeps item (λ x. d x ≤ n) → Keeps (Many test item) (λ xs. most (map d xs) ≤ n)
many {test = test} {item = item} d {n = n} k = record { by = λ tokens at xs end r. each_within d n item k tokens (test tokens) at xs end r.0 }

-- what one token is
pub taken : {A : Type 0} {class : Shown → Option A} (d : A → ℕ) {n : ℕ} → ((t : Shown) → some (option_map d (class t)) ≡ 0) → Keeps (Take class) (λ x. d x ≤ n)
taken d {n = n} h = takes (λ t x e. flat (d x) n (subst (λ o. some (option_map d o) ≡ 0) e (h t)))

-- what may be absent is at most so much
pub maybe : {A : Type 0} {test : Test} {part : Rule A} (d : A → ℕ) {n : ℕ} → Keeps part (λ x. d x ≤ n) → Keeps (optional test part) (λ o. some (option_map d o) ≤ n)
maybe d {n = n} k = either (first k (λ x h. gives h)) (gives (omega arith))

-- ---- forms that are opened

pub opens_sign : (s : Sign) (room : ℕ) → Keeps (open_sign s room) (λ inside. room ≡ suc inside)
opens_sign s zero = past (λ i. past (λ u. refuses))
opens_sign s (suc room) = past (λ u. gives refl)

pub opens_word : (k : Keyword) (room : ℕ) → Keeps (open_word k room) (λ inside. room ≡ suc inside)
opens_word k zero = past (λ i. past (λ u. refuses))
opens_word k (suc room) = past (λ u. gives refl)

one_more : (n inside room : ℕ) → n ≤ inside → room ≡ suc inside → n + 1 ≤ room
one_more n inside room h e = omega arith

-- a form is opened, where so many may be open inside
pub opened_within : {n inside room : ℕ} → n ≤ inside → room ≡ suc inside → opened n ≤ room
opened_within {n = n} {inside = inside} {room = room} h e = le_trans (min-le_left (n + 1) 18446744073709551615) (one_more n inside room h e)

pub one_within : {inside room : ℕ} → room ≡ suc inside → 1 ≤ room
one_within e = omega arith

no_more : (room inside : ℕ) → suc room ≡ suc inside → room ≤ inside
no_more room inside e = omega arith

-- a reading in a form that is opened is one where so many may be open inside
pub inside_is : {A : Type 0} {r : Rule A} (d : A → ℕ) {room inside : ℕ} → suc room ≡ suc inside → Keeps r (λ x. d x ≤ room) → Keeps r (λ x. d x ≤ inside)
inside_is d {room = room} {inside = inside} e k = wider (λ x h. le_trans h (no_more room inside e)) k
