-- What one pass over a text finds.
use Rattle.std.specs.Prelude.{◌≡◌, ◌≢◌, ℕ, suc, ◌+◌, List, [], ◌∷◌}
use Rattle.std.specs.Str.{IsUtf8, IsValidUpTo}
use Rattle.apex_lexer.specs.declared.token.TokenKind.TheVariants.{End}
use Rattle.apex_lexer.specs.declared.lexeme.LexWord.TheVariants.{NotUtf8}
use Rattle.apex_lexer.specs.declared.lexeme.Lexeme.{Lexeme}
use Rattle.apex_lexer.specs.declared.lexeme.Lexeme.TheVariants.{Apart, Says, Wrong}
use Rattle.apex_lexer.specs.declared.lexer.Fault.{Fault}
use Rattle.apex_lexer.specs.declared.lexer.Step.{Step}
use Rattle.apex_lexer.specs.Reading.{Reads, Shown, shown, tokens_of, Piece, AreSound, HasTokens, Slices, Rise, EndsLast}

-- no token is the end
abbrev pub NoEnds : List Shown → Type 0
NoEnds [] = Unit {0}
NoEnds (t ∷ ts) = (t.kind ≢ End) × NoEnds ts

-- a piece has this fault
pub record Faulty (lexeme : Lexeme) (at : ℕ) (fault : Fault) : Type 0 where
  pub low : ℕ
  pub high : ℕ
  pub is : lexeme ≡ Wrong fault.word low high
  pub from : fault.span.from ≡ at + low
  pub to : fault.span.to ≡ at + high

-- what a piece gives
abbrev pub Gives : Lexeme → ℕ → ℕ → List ℕ → Step → Type 0
Gives lexeme at size bytes Step.Apart = lexeme ≡ Apart
Gives lexeme at size bytes (Step.Says token) = (lexeme ≡ Says token.kind) × (token.kind ≢ End) × (shown token ≡ record { kind = token.kind; from = at; to = at + size; bytes = bytes })
Gives lexeme at size bytes (Step.Wrong fault) = Faulty lexeme at fault

-- the pieces of a text up to a place, and their tokens
pub record SoFar (text : List ℕ) (at : ℕ) (tokens : List Shown) : Type 0 where
  pub pieces : List Piece
  pub reads : Reads text 0 pieces at
  pub sound : AreSound pieces
  pub are : tokens ≡ tokens_of text 0 pieces
  pub no_ends : NoEnds tokens

-- a byte that begins no character
pub record Breaks (text : List ℕ) (fault : Fault) : Type 0 where
  pub word : fault.word ≡ NotUtf8
  pub one : fault.span.to ≡ suc fault.span.from
  pub broken : IsUtf8 text → ⊥
  pub valid : IsValidUpTo text fault.span.from

-- the tokens of a text
pub record HasAll (text : List ℕ) (tokens : List Shown) : Type 0 where
  pub found : HasTokens text tokens
  pub only : (other : List Shown) → HasTokens text other → other ≡ tokens
  pub slices : Slices text tokens
  pub rise : Rise 0 tokens
  pub ends : EndsLast tokens
