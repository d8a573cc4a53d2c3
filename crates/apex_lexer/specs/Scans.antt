-- How the lexer finds the first piece of a text.
use Rattle.std.specs.Prelude.{◌≡◌, ◌≢◌, ℕ, ◌+◌, ◌-◌, ◌<◌, ◌≤◌, ◌&&◌, ◌||◌, not, eqb, leb, Bool, false, cond, List, [], ◌∷◌, length, take, drop, Option, None, Some}
use Rattle.std.specs.Char.{is_ascii_digit, is_ascii_alphabetic}
use Rattle.apex_lexer.specs.declared.token.Sign.{Sign}
use Rattle.apex_lexer.specs.declared.token.TokenKind.TheVariants.{End}
use Rattle.apex_lexer.specs.declared.lexeme.Lexeme.{Lexeme}
use Rattle.apex_lexer.specs.declared.lexeme.Lexeme.TheVariants.{Apart, Says, Wrong}
use Rattle.apex_lexer.specs.declared.scan.Found.{Found}
use Rattle.apex_lexer.specs.declared.scan.Run.{Run}
use Rattle.apex_lexer.specs.declared.scan.Run.TheVariants.{Words, Letters, Digits, Blanks, OnLine, GoesOn}
use Rattle.apex_lexer.specs.Words.{sign_of}
use Rattle.apex_lexer.specs.Lexemes.{is_word_byte, is_blank, is_on_line, goes_on, is_escape, number_of}

abbrev pub test_of : Run → ℕ → Bool
test_of Words b = is_word_byte b
test_of Letters b = is_ascii_alphabetic b
test_of Digits b = is_ascii_digit b
test_of Blanks b = is_blank b
test_of OnLine b = is_on_line b
test_of GoesOn b = goes_on b

-- whether the first byte meets a test
abbrev pub begins : (ℕ → Bool) → List ℕ → Bool
begins test [] = false
begins test (b ∷ bs) = test b

abbrev pub is_long_letter : ℕ → Bool
is_long_letter b = eqb b 76 || eqb b 108

-- whether bytes begin with a dot and a digit
abbrev pub has_part : List ℕ → Bool
has_part [] = false
has_part (b ∷ bs) = eqb b 46 && begins is_ascii_digit bs

-- the first backslash that begins no escape, behind one more byte
abbrev pub noted_escape : Bool → Option ℕ → ℕ → ℕ → Option ℕ
noted_escape escaped (Some before) b at = Some before
noted_escape escaped None b at = cond (escaped && not (is_escape b)) (Some (at - 1)) None

-- what may stand in a sign behind its first byte: = & | + - >
abbrev pub is_second : ℕ → Bool
is_second b = eqb b 61 || (eqb b 38 || (eqb b 124 || (eqb b 43 || (eqb b 45 || eqb b 62))))

-- the sign that so many bytes at the front are
abbrev pub sign_if : ℕ → List ℕ → Option Sign
sign_if size text = cond (leb size (length text)) (sign_of (take size text)) None

-- the range of a fault lies in its piece, and no piece says that the text ends
abbrev pub Fits : ℕ → Lexeme → Type 0
Fits size Apart = Unit {0}
Fits size (Says kind) = kind ≢ End
Fits size (Wrong word low high) = (low < high) × (high ≤ size)

-- what bytes behind the first one are
abbrev pub behind_first : (List ℕ → Option Lexeme) → List ℕ → Option Lexeme
behind_first lexeme bytes = lexeme (drop 1 bytes)

-- what is found at the front of a text is a piece by these rules, and no longer front is one
pub record IsLongest (lexeme : List ℕ → Option Lexeme) (text : List ℕ) (found : Found) : Type 0 where
  pub some : 0 < found.size
  pub within : found.size ≤ length text
  pub fits : Fits found.size found.lexeme
  pub spells : lexeme (take found.size text) ≡ Some found.lexeme
  pub longest : (more : ℕ) → found.size < more → more ≤ length text → lexeme (take more text) ≡ None

-- behind digits: what a text goes on with, and how much of that is part of the number
pub record Goes (whole rest : List ℕ) (n : ℕ) (l : Lexeme) : Type 0 where
  pub within : n ≤ length rest
  pub fits : Fits (length whole + n) l
  pub spells : number_of whole (take n rest) ≡ Some l
  pub longest : (m : ℕ) → n < m → m ≤ length rest → number_of whole (take m rest) ≡ None
