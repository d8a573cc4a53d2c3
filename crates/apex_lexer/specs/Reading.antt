-- The tokens of a text, or its first fault (docs/formats.md, "Tokens").
use Rattle.std.specs.Prelude.{◌≡◌, ◌≢◌, ℕ, suc, ◌+◌, ◌-◌, ◌<◌, ◌≤◌, ◌⊎◌, Bool, List, [], ◌∷◌, ◌++◌, length, take, drop}
use Rattle.std.specs.Str.{IsUtf8, IsValidUpTo}
use Rattle.apex_text.specs.declared.place.Span.{Span}
use Rattle.apex_lexer.specs.declared.token.TokenKind.{TokenKind}
use Rattle.apex_lexer.specs.declared.token.TokenKind.TheVariants.{End}
use Rattle.apex_lexer.specs.declared.token.Token.{Token}
use Rattle.apex_lexer.specs.declared.lexeme.LexWord.{LexWord}
use Rattle.apex_lexer.specs.declared.lexeme.LexWord.TheVariants.{NotUtf8}
use Rattle.apex_lexer.specs.declared.lexeme.Lexeme.{Lexeme}
use Rattle.apex_lexer.specs.declared.lexeme.Lexeme.TheVariants.{Says, Wrong}
use Rattle.apex_lexer.specs.declared.lexer.LexFault.{LexFault}
use Rattle.apex_lexer.specs.declared.lexer.LexFault.TheVariants.{Wrong as FoundWrong, NoMemory}
use Rattle.apex_lexer.specs.Lexemes.{Spells}
use Rattle.apex_lexer.specs.Brackets.{inside}

-- a piece of a text: so many bytes, and what they are
pub record Piece : Type 0 where
  pub size : ℕ
  pub lexeme : Lexeme

-- the text begins with this piece, and with no longer one
pub record IsFirst (dates : Bool) (text : List ℕ) (size : ℕ) (lexeme : Lexeme) : Type 0 where
  pub some : 0 < size
  pub within : size ≤ length text
  pub spells : Spells dates (take size text) lexeme
  pub longest : (more : ℕ) (other : Lexeme) → size < more → more ≤ length text → Spells dates (take more text) other → ⊥

-- ---- tokens

-- from one place to another the text is these pieces
abbrev pub Reads : List ℕ → ℕ → List Piece → ℕ → Type 0
Reads text at [] to = at ≡ to
Reads text at (p ∷ ps) to = IsFirst (inside text at) (drop at text) p.size p.lexeme × Reads text (at + p.size) ps to

-- a token as contracts see it: its kind, its place and its bytes
pub record Shown : Type 0 where
  pub kind : TokenKind
  pub from : ℕ
  pub to : ℕ
  pub bytes : List ℕ

abbrev pub shown : Token → Shown
shown t = record { kind = t.kind; from = t.span.from; to = t.span.to; bytes = t.text.now }

-- the tokens that a piece at a place is
abbrev pub said : Lexeme → ℕ → ℕ → List ℕ → List Shown
said (Says kind) from size bytes = record { kind = kind; from = from; to = from + size; bytes = bytes } ∷ []
said _ from size bytes = []

-- the tokens of pieces that stand at a place
abbrev pub tokens_of : List ℕ → ℕ → List Piece → List Shown
tokens_of text at [] = []
tokens_of text at (p ∷ ps) = said p.lexeme at p.size (take p.size (drop at text)) ++ tokens_of text (at + p.size) ps

abbrev pub IsSound : Lexeme → Type 0
IsSound (Wrong word from to) = ⊥
IsSound _ = Unit {0}

abbrev pub AreSound : List Piece → Type 0
AreSound [] = Unit {0}
AreSound (p ∷ ps) = IsSound p.lexeme × AreSound ps

abbrev pub end_at : ℕ → Shown
end_at place = record { kind = End; from = place; to = place; bytes = [] }

-- the text is UTF-8 and has these tokens
pub record HasTokens (text : List ℕ) (tokens : List Shown) : Type 0 where
  pub utf8 : IsUtf8 text
  pub pieces : List Piece
  pub reads : Reads text 0 pieces (length text)
  pub sound : AreSound pieces
  pub are : tokens ≡ tokens_of text 0 pieces ++ end_at (length text) ∷ []

-- behind pieces without fault the text has a piece with this fault
pub record HasFault (text : List ℕ) (word : LexWord) (from to : ℕ) : Type 0 where
  pub pieces : List Piece
  pub at : ℕ
  pub reads : Reads text 0 pieces at
  pub sound : AreSound pieces
  pub size : ℕ
  pub low : ℕ
  pub high : ℕ
  pub first : IsFirst (inside text at) (drop at text) size (Wrong word low high)
  pub is_from : from ≡ at + low
  pub is_to : to ≡ at + high

-- the fault of a text that comes first: a byte that begins no character comes before another fault at its place
pub record Invalid (text : List ℕ) (from to : ℕ) : Type 0 where
  pub valid : IsValidUpTo text from
  pub one : to ≡ suc from
  pub first : (word : LexWord) (a b : ℕ) → HasFault text word a b → from ≤ a

abbrev pub FirstFault : List ℕ → LexWord → ℕ → ℕ → Type 0
FirstFault text word from to =
    ((word ≡ NotUtf8) × Invalid text from to) ⊎ (HasFault text word from to × ((at : ℕ) → IsValidUpTo text at → from < at))

-- what a refusal says of the text
pub record Refused (text : List ℕ) (word : LexWord) (span : Span) : Type 0 where
  pub fault : FirstFault text word span.from span.to
  pub only : (other : LexWord) (from to : ℕ) → FirstFault text other from to → (other ≡ word) × (from ≡ span.from) × (to ≡ span.to)
  pub none : (tokens : List Shown) → HasTokens text tokens → ⊥

abbrev pub Refuses : List ℕ → LexFault → Type 0
Refuses text (FoundWrong word span) = Refused text word span
Refuses text NoMemory = Unit {0}

-- the bytes of each token are those of its range
abbrev pub Slices : List ℕ → List Shown → Type 0
Slices text [] = Unit {0}
Slices text (t ∷ ts) = (t.bytes ≡ take (t.to - t.from) (drop t.from text)) × Slices text ts

-- each token ends where the next one begins or before that
abbrev pub Rise : ℕ → List Shown → Type 0
Rise low [] = Unit {0}
Rise low (t ∷ ts) = (low ≤ t.from) × (t.from ≤ t.to) × Rise t.to ts

-- the last token, and no other, is the end
abbrev pub EndsLast : List Shown → Type 0
EndsLast [] = ⊥
EndsLast (t ∷ []) = t.kind ≡ End
EndsLast (t ∷ u ∷ ts) = (t.kind ≢ End) × EndsLast (u ∷ ts)
