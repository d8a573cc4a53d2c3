-- What makes a parenthesis a cast (docs/language.md, "Expressions").
use Rattle.std.specs.Prelude.{◌≡◌, ◌⊎◌, ◌+◌, ◌||◌, ℕ, List, Bool, true, false, Option, Some, None, bytes_eq, codes, slice_get}
use Rattle.apex_text.specs.Fold.{folded}
use Rattle.apex_lexer.specs.Reading.{Shown}
use Rattle.apex_lexer.specs.declared.token.Keyword.{Keyword}
use Rattle.apex_lexer.specs.declared.token.Keyword.TheVariants.{True, False, Null, This as ThisWord, Super as SuperWord, New as NewWord}
use Rattle.apex_lexer.specs.declared.token.Sign.TheVariants.{Dot, OpenParen, CloseParen}
use Rattle.apex_lexer.specs.declared.token.TokenKind.{TokenKind}
use Rattle.apex_lexer.specs.declared.token.TokenKind.TheVariants.{Name as NameToken, Keyword as IsWord, Sign as IsSign, Integer as IntegerToken, Long as LongToken, Decimal as DecimalToken, Quoted}
use Rattle.token_grammar.specs.declared.read.Names.TheVariants.{InCode}
use Rattle.token_grammar.specs.Notation.{Test, kind_at}
use Rattle.token_grammar.specs.Tokens.{is_name}
use Rattle.apex_parse_leaf.specs.Types.{IsType}

-- what a cast's operand may begin with, where its type is no primitive one
abbrev pub begins_operand_word : Keyword → Bool
begins_operand_word True = true
begins_operand_word False = true
begins_operand_word Null = true
begins_operand_word ThisWord = true
begins_operand_word SuperWord = true
begins_operand_word NewWord = true
begins_operand_word k = is_name InCode (IsWord k)

abbrev pub begins_operand : TokenKind → Bool
begins_operand NameToken = true
begins_operand (IntegerToken n) = true
begins_operand (LongToken n) = true
begins_operand (DecimalToken n) = true
begins_operand Quoted = true
begins_operand (IsWord k) = begins_operand_word k
begins_operand _ = false

-- the same text but for the case of its letters
abbrev pub is_folded : List ℕ → List ℕ → Bool
is_folded text word = bytes_eq (folded text) (folded word)

-- the names of the primitive types
abbrev pub is_primitive : List ℕ → Bool
is_primitive x =
    is_folded x (codes "boolean") || (is_folded x (codes "integer") || (is_folded x (codes "long") || (is_folded x (codes "decimal")
    || (is_folded x (codes "string") || (is_folded x (codes "id") || (is_folded x (codes "date") || is_folded x (codes "datetime")))))))

abbrev pub is_system : List ℕ → Bool
is_system x = is_folded x (codes "system")

-- whether a test holds of the text of a token
abbrev pub named_so : (List ℕ → Bool) → Option Shown → Bool
named_so test None = false
named_so test (Some t) = test t.bytes

-- a primitive type alone and a closing parenthesis
abbrev pub Primitive : List Shown → ℕ → Type 0
Primitive tokens at = (named_so is_primitive (slice_get tokens at) ≡ true) × (kind_at tokens (at + 1) ≡ IsSign CloseParen)

-- `System` and a dot before that
abbrev pub SystemPrimitive : List Shown → ℕ → Type 0
SystemPrimitive tokens at =
    (named_so is_system (slice_get tokens at) ≡ true) × (kind_at tokens (at + 1) ≡ IsSign Dot)
    × (named_so is_primitive (slice_get tokens (at + 2)) ≡ true) × (kind_at tokens (at + 3) ≡ IsSign CloseParen)

-- a closing parenthesis and what may be cast
abbrev pub CastEnd : List Shown → ℕ → Type 0
CastEnd tokens at = (kind_at tokens at ≡ IsSign CloseParen) × (begins_operand (kind_at tokens (at + 1)) ≡ true)

-- a type of any depth, and that
pub record TypeCast (tokens : List Shown) (at : ℕ) : Type 0 where
  pub end : ℕ
  pub is_type : IsType tokens at end
  pub ends : CastEnd tokens end

-- what in a parenthesis makes a cast of it
abbrev pub IsCastType : List Shown → ℕ → Type 0
IsCastType tokens at = Primitive tokens at ⊎ (SystemPrimitive tokens at ⊎ TypeCast tokens at)

abbrev pub next_cast : Test
next_cast tokens at = (kind_at tokens at ≡ IsSign OpenParen) × IsCastType tokens (at + 1)
