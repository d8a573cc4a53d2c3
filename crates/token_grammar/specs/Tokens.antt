-- Rules and tests that every grammar of Apex uses.
use Rattle.std.specs.Prelude.{◌≡◌, ℕ, zero, suc, Bool, true, false, Option, Some, None, cond}
use Rattle.apex_text.specs.Fold.{folded}
use Rattle.apex_syntax.specs.declared.word.Word.{Word}
use Rattle.apex_lexer.specs.Reading.{Shown}
use Rattle.apex_lexer.specs.declared.token.Keyword.{Keyword}
use Rattle.apex_lexer.specs.declared.token.Reserved.{Reserved}
use Rattle.apex_lexer.specs.declared.token.Reserved.TheVariants.{Everywhere, InQuery, Nowhere}
use Rattle.apex_lexer.specs.declared.token.Sign.{Sign}
use Rattle.apex_lexer.specs.declared.token.TokenKind.{TokenKind}
use Rattle.apex_lexer.specs.declared.token.TokenKind.TheVariants.{Name, Keyword as IsKeyword, Sign as IsSign}
use Rattle.apex_lexer.specs.Reserved.{reserved}
use Rattle.token_grammar.specs.declared.read.Names.{Names}
use Rattle.token_grammar.specs.declared.read.Names.TheVariants.{InQuery as InQueryNames, InCode as CodeNames, AllWords}
use Rattle.token_grammar.specs.declared.fault.ParseWord.{ParseWord}
use Rattle.token_grammar.specs.declared.fault.ParseWord.TheVariants.{TooDeep}
use Rattle.token_grammar.specs.Notation.{Rule, Give, Refuse, Here, Is, Take, Then, Choose, Many, Test, span, kind_at}

abbrev pub sign : Sign → Rule (Unit {0})
sign s = Is (IsSign s)

abbrev pub word : Keyword → Rule (Unit {0})
word k = Is (IsKeyword k)

-- the next token says just this
abbrev pub next : TokenKind → Test
next kind tokens at = kind_at tokens at ≡ kind

abbrev pub next_sign : Sign → Test
next_sign s = next (IsSign s)

abbrev pub next_word : Keyword → Test
next_word k = next (IsKeyword k)

-- ---- forms that are opened: `room` is how many more may be open, and what is read is how many may be open inside

abbrev pub open_sign : Sign → ℕ → Rule ℕ
open_sign s zero = Then Here (λ place. Then (sign s) (λ _. Refuse TooDeep place))
open_sign s (suc room) = Then (sign s) (λ _. Give room)

abbrev pub open_word : Keyword → ℕ → Rule ℕ
open_word k zero = Then Here (λ place. Then (word k) (λ _. Refuse TooDeep place))
open_word k (suc room) = Then (word k) (λ _. Give room)

-- the reading stops here
abbrev pub refuse_here : {A : Type 0} → ParseWord → Rule A
refuse_here w = Then Here (λ place. Refuse w place)

-- ---- parts that may be absent, or repeated

-- the part, where the test says that it begins here
abbrev pub optional : {A : Type 0} → Test → Rule A → Rule (Option A)
optional test part = Choose test (Then part (λ x. Give (Some x))) (Give None)

-- as many as the test says, of which nothing is kept
abbrev pub skip : {A : Type 0} → Test → Rule A → Rule (Unit {0})
skip test item = Then (Many test item) (λ xs. Give tt)

-- ---- names

-- whether a word that is reserved so is a name there
abbrev pub may_be : Names → Reserved → Bool
may_be AllWords r = true
may_be CodeNames Everywhere = false
may_be CodeNames InQuery = true
may_be CodeNames Nowhere = true
may_be InQueryNames Everywhere = false
may_be InQueryNames InQuery = false
may_be InQueryNames Nowhere = true

-- whether a token is a name there
abbrev pub is_name : Names → TokenKind → Bool
is_name names Name = true
is_name names (IsKeyword k) = may_be names (reserved k)
is_name names _ = false

abbrev pub named : Shown → Word
named t = record { span = span t; name = folded t.bytes }

abbrev pub name_of : Names → Shown → Option Word
name_of names t = cond (is_name names t.kind) (Some (named t)) None

abbrev pub name : Names → Rule Word
name names = Take (name_of names)

abbrev pub next_name : Names → Test
next_name names tokens at = is_name names (kind_at tokens at) ≡ true
