-- What a call that reads a formula tells.
use Rattle.std.specs.Prelude.{◌≡◌, ◌≢◌, ◌<◌, ◌≤◌, ℕ, length, Bool, true, false, List, [], ◌∷◌, ◌++◌, drop, Option, None, Some, Result, Ok, Err}
use Rattle.formula_rules.specs.declared.fault.RuleFault.{RuleFault}
use Rattle.formula_rules.specs.declared.fault.RuleFault.TheVariants.{BadRule, NoMemory}
use Rattle.formula_rules.specs.declared.scan.Cut.{Cut}
use Rattle.formula_rules.specs.declared.scan.Run.{Run}
use Rattle.formula_rules.specs.declared.token.Token.{Token}
use Rattle.formula_rules.specs.declared.token.Token.TheVariants.{Word, Op, Open, Close, Comma}
use Rattle.formula_rules.specs.declared.words.Function.{Function}
use Rattle.formula_rules.specs.declared.words.Function.TheVariants as Function'
use Rattle.schema_names.specs.Names.{is_word_byte}
use Rattle.apex_schema.specs.declared.rule.RuleOp.{RuleOp}
use Rattle.formula_rules.specs.Tokens.{is_blank, is_number_byte, is_quoted, behind, token_at, HasTokens}
use Rattle.formula_rules.specs.Grammar.{function_of}

-- a definition's answer; want of memory is free
abbrev pub Tells : {A : Type 0} → Option A → Result A RuleFault → Type 0
Tells means (Ok x) = means ≡ Some x
Tells means (Err BadRule) = means ≡ None
Tells means (Err NoMemory) = Unit {0}

-- ---- tokens of a text

abbrev pub test_of : Run → ℕ → Bool
test_of Run.Blanks = is_blank
test_of Run.Words = is_word_byte
test_of Run.Numbers = is_number_byte
test_of Run.Quoted = is_quoted

-- the token at the front of a text, and how many bytes it has
abbrev pub Cuts : Option (Token × List ℕ) → List ℕ → Result Cut RuleFault → Type 0
Cuts means text (Ok cut) = means ≡ Some (cut.token, drop cut.size text)
Cuts means text (Err BadRule) = means ≡ None
Cuts means text (Err NoMemory) = Unit {0}

abbrev pub Shows : Option (Token × List ℕ) → List ℕ → Option Cut → Type 0
Shows means text (Some cut) = means ≡ Some (cut.token, drop cut.size text)
Shows means text None = means ≡ None

-- a token has bytes, no more than the text
abbrev pub IsWithin : Cut → List ℕ → Type 0
IsWithin cut text = (0 < cut.size) × (cut.size ≤ length text)

-- the next token behind blanks and the place behind it, or that there is none
abbrev pub NextIs : List ℕ → ℕ → Result (Option (Token × ℕ)) RuleFault → Type 0
NextIs text at (Ok None) = behind is_blank (drop at text) ≡ []
NextIs text at (Ok (Some r)) = token_at (behind is_blank (drop at text)) ≡ Some (r.0, drop r.1 text)
NextIs text at (Err BadRule) = (behind is_blank (drop at text) ≢ []) × (token_at (behind is_blank (drop at text)) ≡ None)
NextIs text at (Err NoMemory) = Unit {0}

-- the tokens of a text, or that it has none
abbrev pub AreTokens : List ℕ → Result (List Token) RuleFault → Type 0
AreTokens text (Ok tokens) = HasTokens text tokens
AreTokens text (Err BadRule) = (tokens : List Token) → HasTokens text tokens → ⊥
AreTokens text (Err NoMemory) = Unit {0}

-- ---- tokens

-- no `(` stands in front
abbrev pub is_unopened : List Token → Bool
is_unopened (Open ∷ tokens) = false
is_unopened _ = true

-- a `)` stands in front
abbrev pub is_closed : List Token → Bool
is_closed (Close ∷ tokens) = true
is_closed _ = false

abbrev pub is_comma : List Token → Bool
is_comma (Comma ∷ tokens) = true
is_comma _ = false

abbrev pub op_of : List Token → Option RuleOp
op_of (Op op ∷ tokens) = Some op
op_of _ = None

abbrev pub if_open : Option Function → List Token → Option Function
if_open function (Open ∷ tokens) = function
if_open function _ = None

-- the function whose word and `(` these tokens begin with
abbrev pub called : List Token → Option Function
called (Word word ∷ tokens) = if_open (function_of word) tokens
called _ = None

-- a call of it is a formula, and not a term of one
abbrev pub is_of_formulas : Function → Bool
is_of_formulas Function'.PriorValue = false
is_of_formulas Function'.Len = false
is_of_formulas _ = true

-- at a place stand a function's word and `(`, and behind them the tokens from another place on
abbrev pub Opens : List Token → ℕ → Function → ℕ → Type 0
Opens tokens at function inside = (word : List ℕ) × (function_of word ≡ Some function) × (drop at tokens ≡ Word word ∷ Open ∷ drop inside tokens)

-- ---- readings

-- the tokens from a place on begin with some that are this, and go on at the place behind them
abbrev pub Reads : {A : Type 0} → (List Token → A → Type 0) → List Token → ℕ → Result (A × ℕ) RuleFault → Type 0
Reads means tokens at (Ok r) = (front : List Token) × (drop at tokens ≡ front ++ drop r.1 tokens) × means front r.0
Reads means tokens at (Err fault) = Unit {0}

abbrev pub Gives : {A : Type 0} → List Token → Result (A × ℕ) RuleFault → A → List Token → Type 0
Gives tokens (Ok r) x rest = (x ≡ r.0) × (rest ≡ drop r.1 tokens)
Gives tokens (Err BadRule) x rest = ⊥
Gives tokens (Err NoMemory) x rest = Unit {0}

-- the answer is read; and whatever these tokens begin with that means something, where the tokens behind it end it, is the answer
pub record Told {A : Type 0} (means : List Token → A → Type 0) (ends : List Token → Bool) (tokens : List Token) (at : ℕ) (answer : Result (A × ℕ) RuleFault) : Type 0 where
  pub reads : Reads means tokens at answer
  pub gives : (front rest : List Token) (x : A) → drop at tokens ≡ front ++ rest → ends rest ≡ true → means front x → Gives tokens answer x rest

-- all the tokens are this, and nothing else
abbrev pub IsWhole : {A : Type 0} → (List Token → A → Type 0) → List Token → Result A RuleFault → Type 0
IsWhole {A} means tokens (Ok x) = means tokens x × ((y : A) → means tokens y → y ≡ x)
IsWhole {A} means tokens (Err BadRule) = (y : A) → means tokens y → ⊥
IsWhole means tokens (Err NoMemory) = Unit {0}
