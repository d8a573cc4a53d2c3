-- The first fault of a text (docs/formats.md, "Units").
use Rattle.std.specs.Prelude.{◌≡◌, ◌⊎◌, ℕ, min, List, ◌++◌, length, codes, decimal}
use Rattle.apex_text.specs.declared.place.Span.{Span}
use Rattle.apex_text.specs.Place.{IsPlace}
use Rattle.apex_lexer.specs.declared.lexeme.LexWord.{LexWord}
use Rattle.apex_lexer.specs.declared.lexeme.LexWord.TheVariants as Lex
use Rattle.apex_lexer.specs.Reading.{Shown, HasTokens, Refused as HasNoTokens}
use Rattle.fault_words.specs.declared.fault.Fault.{Fault}
use Rattle.fault_words.specs.declared.fault.FaultWord.{FaultWord}
use Rattle.fault_words.specs.declared.fault.FaultWord.TheVariants as Word
use Rattle.token_grammar.specs.declared.fault.ParseWord.{ParseWord}
use Rattle.token_grammar.specs.declared.fault.ParseWord.TheVariants as Parse
use Rattle.token_grammar.specs.Notation.{Rule, Reads, Stops, span_at}
use Rattle.tenant_units.specs.declared.fault.UnitFault.{UnitFault}
use Rattle.tenant_units.specs.declared.fault.UnitFault.TheVariants.{Wrong, NoMemory}

abbrev pub lex_word : LexWord → FaultWord
lex_word Lex.NotUtf8 = Word.NotUtf8
lex_word Lex.BadChar = Word.BadChar
lex_word Lex.OpenText = Word.OpenText
lex_word Lex.OpenComment = Word.OpenComment
lex_word Lex.WideLiteral = Word.WideLiteral

abbrev pub parse_word : ParseWord → FaultWord
parse_word Parse.Expected = Word.Expected
parse_word Parse.TooDeep = Word.TooDeep
parse_word Parse.MixedAndOr = Word.MixedAndOr
parse_word Parse.LockedOrder = Word.LockedOrder
parse_word Parse.TooManyLevels = Word.TooManyLevels

abbrev pub place_in : List ℕ → ℕ → ℕ → List ℕ
place_in name line column = name ++ (codes " " ++ (decimal line ++ (codes ":" ++ decimal column)))

-- the fault has this word, and tells the line and the column of a byte of the text that has this name; what stands
-- behind the text is at its end
pub record Tells (name text : List ℕ) (at : ℕ) (word : FaultWord) (fault : Fault) : Type 0 where
  pub line : ℕ
  pub column : ℕ
  pub is_place : IsPlace text (min at (length text)) line column
  pub is : fault ≡ record { place = place_in name line column; word = word }

-- the text has no tokens, and the fault is its first one
pub record IsBytesFault (name text : List ℕ) (fault : Fault) : Type 0 where
  pub word : LexWord
  pub span : Span
  pub refused : HasNoTokens text word span
  pub tells : Tells name text span.from (lex_word word) fault

-- the text has tokens that are no tree, and the fault is their first one
pub record IsTokensFault {A : Type 0} (rule : List Shown → Rule A) (name text : List ℕ) (fault : Fault) : Type 0 where
  pub tokens : List Shown
  pub has : HasTokens text tokens
  pub word : ParseWord
  pub place : ℕ
  pub stops : Stops tokens (rule tokens) 0 word place
  pub tells : Tells name text (span_at tokens place).from (parse_word word) fault

-- how tokens are read may depend on them
abbrev pub IsFaultOf : {A : Type 0} → (List Shown → Rule A) → List ℕ → List ℕ → Fault → Type 0
IsFaultOf rule name text fault = IsBytesFault name text fault ⊎ IsTokensFault rule name text fault

-- the text has tokens, and these are the tree, and nothing else
pub record IsTree {A : Type 0} (rule : List Shown → Rule A) (text : List ℕ) (tree : A) : Type 0 where
  pub tokens : List Shown
  pub has : HasTokens text tokens
  pub end : ℕ
  pub reads : Reads tokens (rule tokens) 0 tree end

-- ---- what calls tell; want of memory is free

abbrev pub IsTold : List ℕ → List ℕ → ℕ → FaultWord → UnitFault → Type 0
IsTold name text at word (Wrong fault) = Tells name text at word fault
IsTold name text at word NoMemory = Unit {0}

abbrev pub NoTree : {A : Type 0} → (List Shown → Rule A) → List ℕ → List ℕ → UnitFault → Type 0
NoTree rule name text (Wrong fault) = IsFaultOf rule name text fault
NoTree rule name text NoMemory = Unit {0}

-- ---- a text has one tree or one fault, and not both

abbrev pub OnlyTree : {A : Type 0} → (List Shown → Rule A) → List ℕ → List ℕ → A → Type 0
OnlyTree {A} rule name text tree =
    ((other : A) → IsTree rule text other → other ≡ tree) × ((fault : Fault) → IsFaultOf rule name text fault → ⊥)

abbrev pub OnlyFault : {A : Type 0} → (List Shown → Rule A) → List ℕ → List ℕ → UnitFault → Type 0
OnlyFault {A} rule name text (Wrong fault) =
    ((other : Fault) → IsFaultOf rule name text other → other ≡ fault) × ((tree : A) → IsTree rule text tree → ⊥)
OnlyFault rule name text NoMemory = Unit {0}
