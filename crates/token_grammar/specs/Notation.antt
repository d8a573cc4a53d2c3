-- A notation for grammars over tokens, and what it is that tokens are read by a rule (docs/architecture.md, "How a grammar is written down").
-- A rule sees of a token what it shows: its kind, its place and its bytes.
--
-- `Reads tokens rule at tree end`: from place `at` up to place `end` the tokens are `tree`, by this rule.
-- `Stops tokens rule at word place`: a reading by this rule that begins at `at` stops at `place`, with this word.
use Rattle.std.specs.Prelude.{◌≡◌, ◌≢◌, ℕ, ◌+◌, ◌-◌, ◌⊎◌, List, [], ◌∷◌, Option, Some, None, map, slice_get}
use Rattle.apex_text.specs.declared.place.Span.{Span}
use Rattle.apex_lexer.specs.declared.token.Token.{Token}
use Rattle.apex_lexer.specs.declared.token.TokenKind.{TokenKind}
use Rattle.apex_lexer.specs.declared.token.TokenKind.TheVariants.{End}
use Rattle.apex_lexer.specs.Reading.{Shown, shown}
use Rattle.token_grammar.specs.declared.fault.ParseWord.{ParseWord}
use Rattle.token_grammar.specs.declared.fault.ParseWord.TheVariants.{Expected}

-- what the tokens of a call show
abbrev pub seen : List Token → List Shown
seen tokens = map shown tokens

-- ---- places

abbrev pub kind_of : Option Shown → TokenKind
kind_of (Some t) = t.kind
kind_of None = End

-- what the token at a place says; behind the last one is the end
abbrev pub kind_at : List Shown → ℕ → TokenKind
kind_at tokens at = kind_of (slice_get tokens at)

abbrev pub from_of : Option Shown → ℕ
from_of (Some t) = t.from
from_of None = 0

abbrev pub to_of : Option Shown → ℕ
to_of (Some t) = t.to
to_of None = 0

-- the bytes of a token
abbrev pub span : Shown → Span
span t = record { from = t.from; to = t.to }

-- the bytes of the tokens from place `from` up to place `to`
abbrev pub span_of : List Shown → ℕ → ℕ → Span
span_of tokens from to = record { from = from_of (slice_get tokens from); to = to_of (slice_get tokens (to - 1)) }

-- the bytes of one token
abbrev pub span_at : List Shown → ℕ → Span
span_at tokens at = record { from = from_of (slice_get tokens at); to = to_of (slice_get tokens at) }

-- what can be asked of the tokens at a place
abbrev pub Test : Type 1
Test = List Shown → ℕ → Type 0

-- ---- rules

pub data Rule : Type 0 → Type 1 where
  -- nothing is read
  Give : {A : Type 0} → A → Rule A
  -- the reading stops, with a word for a place
  Refuse : {A : Type 0} → ParseWord → ℕ → Rule A
  -- nothing is read; it tells the place
  Here : Rule ℕ
  -- nothing is read; it tells the bytes from the token at a place up to here
  Since : ℕ → Rule Span
  -- one token that says just this
  Is : TokenKind → Rule (Unit {0})
  -- one token of a class
  Take : {A : Type 0} → (Shown → Option A) → Rule A
  -- one after the other; what is read second may depend on the first
  Then : {A B : Type 0} → Rule A → (A → Rule B) → Rule B
  -- the first where the test holds of the tokens here, and otherwise the second
  Choose : {A : Type 0} → Test → Rule A → Rule A → Rule A
  -- one after the other for as long as the test holds
  Many : {A : Type 0} → Test → Rule A → Rule (List A)

-- from one place to another stand these, one after the other, and before each the test holds
abbrev pub Each : {A : Type 0} → (ℕ → Type 0) → (ℕ → A → ℕ → Type 0) → ℕ → List A → ℕ → Type 0
Each begins reads at [] end = end ≡ at
Each begins reads at (x ∷ xs) end = begins at × ((middle : ℕ) × reads at x middle × Each begins reads middle xs end)

abbrev pub Reads : List Shown → {A : Type 0} → Rule A → ℕ → A → ℕ → Type 0
Reads tokens (Give x) at y end = (y ≡ x) × (end ≡ at)
Reads tokens (Refuse word place) at y end = ⊥
Reads tokens Here at y end = (y ≡ at) × (end ≡ at)
Reads tokens (Since from) at y end = (y ≡ span_of tokens from at) × (end ≡ at)
Reads tokens (Is kind) at y end = (t : Shown) × (slice_get tokens at ≡ Some t) × (t.kind ≡ kind) × (end ≡ at + 1)
Reads tokens (Take class) at y end = (t : Shown) × (slice_get tokens at ≡ Some t) × (class t ≡ Some y) × (end ≡ at + 1)
Reads tokens (Then {A} {B} first rest) at y end = (x : A) × (middle : ℕ) × Reads tokens first at x middle × Reads tokens (rest x) middle y end
Reads tokens (Choose test one other) at y end = (test tokens at × Reads tokens one at y end) ⊎ ((test tokens at → ⊥) × Reads tokens other at y end)
Reads tokens (Many test item) at ys end = Each (test tokens) (Reads tokens item) at ys end × (test tokens end → ⊥)

abbrev pub Stops : List Shown → {A : Type 0} → Rule A → ℕ → ParseWord → ℕ → Type 0
Stops tokens (Give x) at word place = ⊥
Stops tokens (Refuse given there) at word place = (word ≡ given) × (place ≡ there)
Stops tokens Here at word place = ⊥
Stops tokens (Since from) at word place = ⊥
Stops tokens (Is kind) at word place = ((t : Shown) → slice_get tokens at ≡ Some t → t.kind ≢ kind) × (word ≡ Expected) × (place ≡ at)
Stops tokens (Take class) at word place = ((t : Shown) → slice_get tokens at ≡ Some t → class t ≡ None) × (word ≡ Expected) × (place ≡ at)
Stops tokens (Then {A} {B} first rest) at word place =
    Stops tokens first at word place ⊎ ((x : A) × (middle : ℕ) × Reads tokens first at x middle × Stops tokens (rest x) middle word place)
Stops tokens (Choose test one other) at word place =
    (test tokens at × Stops tokens one at word place) ⊎ ((test tokens at → ⊥) × Stops tokens other at word place)
Stops tokens (Many {A} test item) at word place =
    (xs : List A) × (middle : ℕ) × Each (test tokens) (Reads tokens item) at xs middle × test tokens middle × Stops tokens item middle word place
