-- The tokens of a formula's text (docs/platform.md, "Validation rules").
use Rattle.std.specs.Prelude.{◌≡◌, ℕ, ℤ, ◌||◌, not, Bool, false, eqb, cond, List, [], ◌∷◌, drop, slice_get, Option, None, Some, option_map}
use Rattle.std.specs.Str.{is_utf8}
use Rattle.apex_text.specs.Fold.{folded}
use Rattle.schema_names.specs.Names.{is_letter, is_digit, is_word_byte}
use Rattle.apex_schema.specs.declared.rule.RuleOp.TheVariants as Op'
use Rattle.number_methods.specs.Values.{only_if, decimal_fits, decimal_value}
use Rattle.formula_rules.specs.declared.token.Token.{Token}
use Rattle.formula_rules.specs.declared.token.Token.TheVariants.{Word, Number, Text, Op, Open, Close, Comma}

-- ---- runs of bytes

-- the longest front whose bytes are all of a kind, and what is behind it
abbrev pub run : (ℕ → Bool) → List ℕ → List ℕ
run is [] = []
run is (b ∷ bs) = cond (is b) (b ∷ run is bs) []

abbrev pub behind : (ℕ → Bool) → List ℕ → List ℕ
behind is [] = []
behind is (b ∷ bs) = cond (is b) (behind is bs) (b ∷ bs)

-- a blank, a tab, a line feed or a carriage return
abbrev pub is_blank : ℕ → Bool
is_blank b = eqb b 32 || eqb b 9 || eqb b 10 || eqb b 13

-- a digit or a dot
abbrev pub is_number_byte : ℕ → Bool
is_number_byte b = is_digit b || eqb b 46

abbrev pub is_quoted : ℕ → Bool
is_quoted b = not (eqb b 34)

-- ---- a token at the front of a text, and the text behind it

-- so many bytes are this token
abbrev pub piece : ℕ → Token → List ℕ → Option (Token × List ℕ)
piece size token text = Some (token, drop size text)

-- a letter and the letters, digits and `_` behind it, without their case
abbrev pub word_at : List ℕ → Option (Token × List ℕ)
word_at text = Some (Word (folded (run is_word_byte text)), behind is_word_byte text)

-- the millionths of digits, and optionally a dot with one to six digits, in Decimal's range
abbrev pub number_of : List ℕ → Option ℤ
number_of bytes = only_if decimal_fits (decimal_value bytes)

abbrev pub number_at : List ℕ → Option (Token × List ℕ)
number_at text = option_map (λ millionths. (Number millionths, behind is_number_byte text)) (number_of (run is_number_byte text))

-- bytes that are UTF-8
abbrev pub text_of : List ℕ → Option (List ℕ)
text_of bytes = cond (is_utf8 bytes) (Some bytes) None

-- what stands before the next quote, where there is one; there is no escape
abbrev pub closed : List ℕ → List ℕ → Option (Token × List ℕ)
closed inside [] = None
closed inside (quote ∷ rest) = option_map (λ text. (Text text, rest)) (text_of inside)

abbrev pub text_at : List ℕ → Option (Token × List ℕ)
text_at text = closed (run is_quoted text) (behind is_quoted text)

-- the byte at a place is this one
abbrev pub is_byte : Option ℕ → ℕ → Bool
is_byte None c = false
is_byte (Some b) c = eqb b c

abbrev pub is_at : List ℕ → ℕ → ℕ → Bool
is_at text at c = is_byte (slice_get text at) c

-- `(`, `)` and `,`
abbrev pub mark_at : List ℕ → Option (Token × List ℕ)
mark_at text = cond (is_at text 0 40) (piece 1 Open text) (cond (is_at text 0 41) (piece 1 Close text) (cond (is_at text 0 44) (piece 1 Comma text) None))

-- `<>`, `<=`, `<`, `>=`, `>`, `=` and these
abbrev pub sign_at : List ℕ → Option (Token × List ℕ)
sign_at text =
    cond (is_at text 0 60) (cond (is_at text 1 62) (piece 2 (Op Op'.Differs) text) (cond (is_at text 1 61) (piece 2 (Op Op'.AtMost) text) (piece 1 (Op Op'.Less) text))) (
    cond (is_at text 0 62) (cond (is_at text 1 61) (piece 2 (Op Op'.AtLeast) text) (piece 1 (Op Op'.More) text)) (
    cond (is_at text 0 61) (piece 1 (Op Op'.Equal) text) (mark_at text)))

-- the first byte is of a kind
abbrev pub begins : (ℕ → Bool) → List ℕ → Bool
begins is [] = false
begins is (b ∷ bs) = is b

-- the first byte tells the kind of the token; a quote begins a text
abbrev pub token_at : List ℕ → Option (Token × List ℕ)
token_at text =
    cond (begins is_letter text) (word_at text) (
    cond (begins is_digit text) (number_at text) (
    cond (is_at text 0 34) (text_at (drop 1 text)) (sign_at text)))

-- ---- a whole text

-- a text is these tokens, one after the other, with blanks before, between and behind them
abbrev pub HasTokens : List ℕ → List Token → Type 0
HasTokens text [] = behind is_blank text ≡ []
HasTokens text (t ∷ ts) = (rest : List ℕ) × (token_at (behind is_blank text) ≡ Some (t, rest)) × HasTokens rest ts
