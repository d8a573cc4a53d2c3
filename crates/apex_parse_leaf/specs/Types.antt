-- The grammar of types (docs/language.md, "Types"), in the notation of token_grammar.
--
-- `room` is how many forms may still be opened: each `<`, `[`, `(` and `{`, each prefix operator, cast, assignment and `?` opens one.
use Rattle.std.specs.Prelude.{ℕ, zero, suc, List, [], ◌∷◌, length, Option}
use Rattle.apex_lexer.specs.Reading.{Shown}
use Rattle.apex_lexer.specs.declared.token.Sign.TheVariants.{Dot, Comma, Less, More, OpenBracket, CloseBracket}
use Rattle.apex_syntax.specs.declared.word.Word.{Word}
use Rattle.apex_syntax.specs.declared.expr.TypeTree.{TypeTree}
use Rattle.apex_syntax.specs.declared.expr.TypeTree.TheViews.{roll-TypeTree}
use Rattle.token_grammar.specs.declared.fault.ParseWord.TheVariants.{TooDeep}
use Rattle.token_grammar.specs.declared.read.Names.TheVariants.{InCode, AllWords}
use Rattle.token_grammar.specs.Notation.{Rule, Give, Here, Since, Then, Choose, Many, Reads}
use Rattle.token_grammar.specs.Tokens.{sign, name, next_sign, optional, open_sign, refuse_here}

abbrev pub dot_word : Rule Word
dot_word = Then (sign Dot) (λ _. name AllWords)

-- a name, and one behind a dot where a dot follows
abbrev pub member : Rule (Option Word)
member = optional (next_sign Dot) dot_word

-- the types behind the first one between `<` and `>`
abbrev pub second_arg : Rule TypeTree → TypeTree → Rule (List TypeTree)
second_arg deeper a =
    Choose (next_sign Comma) (Then (sign Comma) (λ _. Then deeper (λ b. Give (a ∷ b ∷ [])))) (Give (a ∷ []))

abbrev pub type_args : ℕ → Rule TypeTree → Rule (List TypeTree)
type_args room deeper =
    Then (open_sign Less room) (λ _. Then deeper (λ a. Then (second_arg deeper a) (λ ts. Then (sign More) (λ _. Give ts))))

abbrev pub args_part : ℕ → Rule TypeTree → Rule (List TypeTree)
args_part room deeper = Choose (next_sign Less) (type_args room deeper) (Give [])

-- `[` and `]`
abbrev pub pair : ℕ → Rule (Unit {0})
pair room = Then (open_sign OpenBracket room) (λ _. sign CloseBracket)

abbrev pub arrays : ℕ → Rule ℕ
arrays room = Then (Many (next_sign OpenBracket) (pair room)) (λ ps. Give (length ps))

abbrev pub type_with : ℕ → Rule TypeTree → Rule TypeTree
type_with room deeper =
    Then Here (λ i. Then (name InCode) (λ x. Then member (λ m. Then (args_part room deeper) (λ ts. Then (arrays room) (λ k.
    Then (Since i) (λ s. Give (roll-TypeTree (record { span = s; name = x; member = m; args = ts; arrays = k }))))))))

abbrev pub type : ℕ → Rule TypeTree
type zero = type_with zero (refuse_here TooDeep)
type (suc room) = type_with (suc room) (type room)

-- a type in a form that is opened, where so many could be opened before that
abbrev pub deeper_type : ℕ → Rule TypeTree
deeper_type zero = refuse_here TooDeep
deeper_type (suc room) = type room

-- a type of any depth stands between two places
pub record IsType (tokens : List Shown) (at end : ℕ) : Type 0 where
  pub room : ℕ
  pub tree : TypeTree
  pub reads : Reads tokens (type room) at tree end
