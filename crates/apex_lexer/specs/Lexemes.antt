-- Which bytes are one piece of a text: a token, what separates tokens, or a fault (docs/formats.md, "Tokens").
use Rattle.std.specs.Prelude.{◌≡◌, ℕ, suc, ◌+◌, ◌-◌, ◌*◌, ◌^◌, ◌⊎◌, ◌&&◌, ◌||◌, not, ℤ, pos, leb, nat_lt, eqb, Bool, true, false, cond, List, [], ◌∷◌, length, take, drop, Option, None, Some}
use Rattle.std.specs.List.{list_all}
use Rattle.std.specs.Char.{is_ascii_digit, is_ascii_alphabetic}
use Rattle.std.specs.Str.Parse.{digits_value}
use Rattle.civil_dates.specs.Texts.{IsDateText, IsMomentText, BeginsDate, BeginsMoment}
use Rattle.apex_lexer.specs.declared.token.Sign.{Sign}
use Rattle.apex_lexer.specs.declared.token.TokenKind.{TokenKind}
use Rattle.apex_lexer.specs.declared.token.TokenKind.TheVariants.{Integer, Long, Decimal, Quoted, Date, Moment, Sign as IsSign}
use Rattle.apex_lexer.specs.declared.lexeme.LexWord.TheVariants.{BadChar, OpenText, OpenComment, WideLiteral}
use Rattle.apex_lexer.specs.declared.lexeme.Lexeme.{Lexeme}
use Rattle.apex_lexer.specs.declared.lexeme.Lexeme.TheVariants.{Apart, Says, Wrong}
use Rattle.apex_lexer.specs.Words.{sign_of, word_kind}

-- ---- bytes

-- a blank, a tab, a line feed, a carriage return
abbrev pub is_blank : ℕ → Bool
is_blank b = eqb b 32 || (eqb b 9 || (eqb b 10 || eqb b 13))

-- what a word goes on with
abbrev pub is_word_byte : ℕ → Bool
is_word_byte b = is_ascii_alphabetic b || (is_ascii_digit b || eqb b 95)

-- any byte but a line feed
abbrev pub is_on_line : ℕ → Bool
is_on_line b = not (eqb b 10)

-- a byte that goes on with a character of several bytes
abbrev pub goes_on : ℕ → Bool
goes_on b = leb 128 b && nat_lt b 192

-- how many bytes at the front meet a test
abbrev pub front : (ℕ → Bool) → List ℕ → ℕ
front test [] = 0
front test (b ∷ bs) = cond (test b) (suc (front test bs)) 0

-- the bytes are all of one kind
abbrev pub run : (ℕ → Bool) → List ℕ → Lexeme → Option Lexeme
run test bytes lexeme = cond (list_all test bytes) (Some lexeme) None

-- ---- words and signs

abbrev pub word : List ℕ → Option Lexeme
word bytes = run is_word_byte bytes (Says (word_kind bytes))

-- a sign, or a character that begins no token
abbrev pub sign_or : Option Sign → List ℕ → Option Lexeme
sign_or (Some s) bytes = Some (Says (IsSign s))
sign_or None [] = None
sign_or None (b ∷ []) = Some (Wrong BadChar 0 1)
sign_or None (b ∷ c ∷ bs) = None

abbrev pub sign : List ℕ → Option Lexeme
sign bytes = sign_or (sign_of bytes) bytes

-- ---- numbers

-- the literal, if its value is small enough
abbrev pub within : ℕ → ℕ → TokenKind → ℕ → Lexeme
within value most kind size = cond (nat_lt value most) (Says kind) (Wrong WideLiteral 0 size)

-- the millionths of digits, a dot and up to six digits
abbrev pub millionths : List ℕ → List ℕ → ℕ
millionths whole part = digits_value 10 whole * 1000000 + digits_value 10 part * 10 ^ (6 - length part)

abbrev pub decimal : List ℕ → List ℕ → Lexeme
decimal whole part =
    cond (leb (length part) 6) (within (millionths whole part) (10 ^ 19) (Decimal (millionths whole part)) (length whole + suc (length part))) (Wrong WideLiteral 0 (length whole + suc (length part)))

-- digits, and what follows them: nothing, an L, or a dot and digits
abbrev pub number_of : List ℕ → List ℕ → Option Lexeme
number_of whole [] = Some (within (digits_value 10 whole) (2 ^ 31) (Integer (pos (digits_value 10 whole))) (length whole))
number_of whole (c ∷ []) = cond (eqb c 76 || eqb c 108) (Some (within (digits_value 10 whole) (2 ^ 63) (Long (pos (digits_value 10 whole))) (suc (length whole)))) None
number_of whole (c ∷ d ∷ ds) = cond (eqb c 46 && list_all is_ascii_digit (d ∷ ds)) (Some (decimal whole (d ∷ ds))) None

abbrev pub number : List ℕ → Option Lexeme
number bytes = number_of (take (front is_ascii_digit bytes) bytes) (drop (front is_ascii_digit bytes) bytes)

-- ---- texts

-- what becomes of a text literal: it isn't ended, it is broken by the end of its line, or it ends and this is behind it
pub data Ending : Type 0 where
  Unended : Ending
  Broken : Ending
  Ends : List ℕ → Ending

-- what becomes of a text literal from here on; `escaped` where a backslash takes the next byte
abbrev pub ending : Bool → List ℕ → Ending
ending escaped [] = Unended
ending true (b ∷ bs) = cond (eqb b 10) Broken (ending false bs)
ending false (b ∷ bs) = cond (eqb b 39) (Ends bs) (cond (eqb b 10) Broken (ending (eqb b 92) bs))

-- ' " \ n r t b f
abbrev pub is_escape : ℕ → Bool
is_escape b = eqb b 39 || (eqb b 34 || (eqb b 92 || (eqb b 110 || (eqb b 114 || (eqb b 116 || (eqb b 98 || eqb b 102))))))

-- how many bytes stand before the first backslash that begins no escape
abbrev pub bad_escape : Bool → ℕ → List ℕ → Option ℕ
bad_escape escaped at [] = None
bad_escape true at (b ∷ bs) = cond (is_escape b) (bad_escape false (suc at) bs) (Some (at - 1))
bad_escape false at (b ∷ bs) = bad_escape (eqb b 92) (suc at) bs

abbrev pub closed_text : Option ℕ → Lexeme
closed_text None = Says Quoted
closed_text (Some at) = Wrong BadChar at (suc at)

abbrev pub quoted_by : Ending → List ℕ → Option Lexeme
quoted_by Unended bs = Some (Wrong OpenText 0 (suc (length bs)))
quoted_by Broken bs = None
quoted_by (Ends []) bs = Some (closed_text (bad_escape false 1 bs))
quoted_by (Ends (b ∷ more)) bs = None

-- what a quote and these bytes are
abbrev pub quoted : List ℕ → Option Lexeme
quoted bs = quoted_by (ending false bs) bs

-- ---- comments

-- what is behind the first asterisk and slash; `star` where an asterisk stands just before
abbrev pub after_block : Bool → List ℕ → Option (List ℕ)
after_block star [] = None
after_block star (b ∷ bs) = cond (star && eqb b 47) (Some bs) (after_block (eqb b 42) bs)

abbrev pub block_by : Option (List ℕ) → ℕ → Option Lexeme
block_by None size = Some (Wrong OpenComment 0 size)
block_by (Some []) size = Some Apart
block_by (Some (b ∷ more)) size = None

-- what a slash and these bytes are
abbrev pub slashed : List ℕ → Option Lexeme
slashed [] = sign (47 ∷ [])
slashed (b ∷ bs) =
    cond (eqb b 47) (run is_on_line bs Apart) (cond (eqb b 42) (block_by (after_block false bs) (suc (suc (length bs)))) (sign (47 ∷ b ∷ bs)))

-- ---- all of them

-- what bytes are, dates apart
abbrev pub plain : List ℕ → Option Lexeme
plain [] = None
plain (b ∷ bs) =
    cond (is_ascii_alphabetic b) (word (b ∷ bs))
    (cond (is_ascii_digit b) (number (b ∷ bs))
    (cond (is_blank b) (run is_blank bs Apart)
    (cond (eqb b 39) (quoted bs)
    (cond (eqb b 47) (slashed bs)
    (cond (nat_lt b 128) (sign (b ∷ bs))
    (run goes_on bs (Wrong BadChar 0 (suc (length bs)))))))))

-- bytes in the form of a date are that date, or a fault
abbrev pub DateSays : List ℕ → Lexeme → Type 0
DateSays bytes lexeme =
    ((day : ℤ) × IsDateText bytes day × (lexeme ≡ Says (Date day))) ⊎ (((day : ℤ) → IsDateText bytes day → ⊥) × (lexeme ≡ Wrong BadChar 0 10))

abbrev pub MomentSays : List ℕ → Lexeme → Type 0
MomentSays bytes lexeme =
    ((at : ℤ) × IsMomentText bytes at × (lexeme ≡ Says (Moment at))) ⊎ (((at : ℤ) → IsMomentText bytes at → ⊥) × (lexeme ≡ Wrong BadChar 0 20))

abbrev pub Dated : List ℕ → Lexeme → Type 0
Dated bytes lexeme =
    ((length bytes ≡ 10) × BeginsDate bytes × DateSays bytes lexeme) ⊎ ((length bytes ≡ 20) × BeginsMoment bytes × MomentSays bytes lexeme)

-- the bytes are this piece; `dates` where dates and moments are read
abbrev pub Spells : Bool → List ℕ → Lexeme → Type 0
Spells false bytes lexeme = plain bytes ≡ Some lexeme
Spells true bytes lexeme = Dated bytes lexeme ⊎ ((BeginsDate bytes → ⊥) × (plain bytes ≡ Some lexeme))
