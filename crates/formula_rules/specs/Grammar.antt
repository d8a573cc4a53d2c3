-- Which tokens are which formula (docs/platform.md, "Validation rules").
use Rattle.std.specs.Prelude.{◌≡◌, ℕ, zero, suc, Bool, true, false, cond, bytes_eq, codes, ◌⊎◌, List, [], ◌∷◌, ◌++◌, map, Option, None, Some, option_map, IsTrue}
use Rattle.apex_text.specs.Fold.{folded}
use Rattle.schema_names.specs.Names.{place_of}
use Rattle.schema_plans.specs.Formulas.{rule_fits}
use Rattle.apex_schema.specs.declared.schema.Field.{Field}
use Rattle.apex_schema.specs.declared.schema.Object.{Object}
use Rattle.apex_schema.specs.declared.rule.RuleOp.{RuleOp}
use Rattle.apex_schema.specs.declared.rule.RuleTerm.{RuleTerm}
use Rattle.apex_schema.specs.declared.rule.RuleTerm.TheVariants as Term
use Rattle.apex_schema.specs.declared.rule.Rule.{Rule}
use Rattle.apex_schema.specs.declared.rule.Rule.TheVariants as Form
use Rattle.formula_rules.specs.declared.token.Token.{Token}
use Rattle.formula_rules.specs.declared.token.Token.TheVariants.{Word, Number, Text, Op, Open, Close, Comma}
use Rattle.formula_rules.specs.declared.words.Function.{Function}
use Rattle.formula_rules.specs.declared.words.Function.TheVariants as Function'
use Rattle.formula_rules.specs.Tokens.{HasTokens}

-- ---- words, which have no case

-- the function that a word names
abbrev pub function_of : List ℕ → Option Function
function_of word =
    cond (bytes_eq word (codes "and")) (Some Function'.And) (
    cond (bytes_eq word (codes "or")) (Some Function'.Or) (
    cond (bytes_eq word (codes "not")) (Some Function'.Not) (
    cond (bytes_eq word (codes "isblank")) (Some Function'.IsBlank) (
    cond (bytes_eq word (codes "ischanged")) (Some Function'.IsChanged) (
    cond (bytes_eq word (codes "isnew")) (Some Function'.IsNew) (
    cond (bytes_eq word (codes "priorvalue")) (Some Function'.PriorValue) (
    cond (bytes_eq word (codes "len")) (Some Function'.Len) None)))))))

-- TRUE and FALSE
abbrev pub truth_of : List ℕ → Option Bool
truth_of word = cond (bytes_eq word (codes "true")) (Some true) (cond (bytes_eq word (codes "false")) (Some false) None)

-- TRUE and FALSE are never fields
abbrev pub unless_truth : Option Bool → Option ℕ → Option ℕ
unless_truth (Some b) n = None
unless_truth None n = n

abbrev pub truth_or : Option Bool → Option ℕ → Option RuleTerm
truth_or (Some b) n = Some (Term.Truth b)
truth_or None n = option_map Term.Field n

-- ---- one token

-- the field that a token names; `names` are those of the object's fields in their order
abbrev pub field_of : List (List ℕ) → Token → Option ℕ
field_of names (Word word) = unless_truth (truth_of word) (place_of names word)
field_of names _ = None

-- the term that a token alone is
abbrev pub term_of : List (List ℕ) → Token → Option RuleTerm
term_of names (Word word) = truth_or (truth_of word) (place_of names word)
term_of names (Number millionths) = Some (Term.Number millionths)
term_of names (Text text) = Some (Term.Text text)
term_of names _ = None

-- these tokens are one token, which means this
abbrev pub One : {A : Type 0} → (Token → Option A) → List Token → A → Type 0
One means tokens x = (token : Token) × (tokens ≡ token ∷ []) × (means token ≡ Some x)

-- these tokens are the name of one field, of which this is said
abbrev pub OfField : {A : Type 0} → List (List ℕ) → (ℕ → A) → List Token → A → Type 0
OfField names says tokens x = (field : ℕ) × One (field_of names) tokens field × (x ≡ says field)

-- ---- functions

-- these tokens are a function's word, and in parentheses behind it `inside`
abbrev pub Calls : Function → List Token → List Token → Type 0
Calls function inside tokens = (word : List ℕ) × (function_of word ≡ Some function) × (tokens ≡ Word word ∷ Open ∷ (inside ++ Close ∷ []))

abbrev pub Called : {A : Type 0} → (Function → List Token → A → Type 0) → List Token → A → Type 0
Called means tokens x = (function : Function) × (inside : List Token) × Calls function inside tokens × means function inside x

-- one or more, with commas between them
abbrev pub Each : {A : Type 0} → (List Token → A → Type 0) → List Token → List A → Type 0
Each means tokens [] = ⊥
Each means tokens (x ∷ []) = means tokens x
Each means tokens (x ∷ y ∷ xs) = (first : List Token) × (rest : List Token) × (tokens ≡ first ++ Comma ∷ rest) × means first x × Each means rest (y ∷ xs)

-- ---- terms and formulas; `room` is how many parentheses may be open at once

-- PRIORVALUE and LEN
abbrev pub IsMeasure : List (List ℕ) → Function → List Token → RuleTerm → Type 0
IsMeasure names Function'.PriorValue tokens t = OfField names Term.PriorValue tokens t
IsMeasure names Function'.Len tokens t = OfField names Term.Len tokens t
IsMeasure names _ tokens t = ⊥

abbrev pub IsTerm : List (List ℕ) → ℕ → List Token → RuleTerm → Type 0
IsTerm names zero tokens t = One (term_of names) tokens t
IsTerm names (suc room) tokens t = One (term_of names) tokens t ⊎ Called (IsMeasure names) tokens t

-- a comparison of two terms
abbrev pub IsComparison : List (List ℕ) → ℕ → List Token → Rule → Type 0
IsComparison names room tokens r =
    (a : RuleTerm) × (op : RuleOp) × (b : RuleTerm) × (left : List Token) × (right : List Token) × (tokens ≡ left ++ Op op ∷ right) ×
    IsTerm names room left a × IsTerm names room right b × (r ≡ Form.Compare a op b)

-- one or more formulas, of which this is said
abbrev pub OfEach : (List Token → Rule → Type 0) → (List Rule → Rule) → List Token → Rule → Type 0
OfEach means says tokens r = (rules : List Rule) × Each means tokens rules × (r ≡ says rules)

-- what stands in the parentheses of a formula's function; `within` tells which tokens are a formula in them
abbrev pub IsInside : List (List ℕ) → (List Token → Rule → Type 0) → Function → List Token → Rule → Type 0
IsInside names within Function'.And tokens r = OfEach within Form.And tokens r
IsInside names within Function'.Or tokens r = OfEach within Form.Or tokens r
IsInside names within Function'.Not tokens r = (inner : Rule) × within tokens inner × (r ≡ Form.Not inner)
IsInside names within Function'.IsBlank tokens r = OfField names Form.IsBlank tokens r
IsInside names within Function'.IsChanged tokens r = OfField names Form.IsChanged tokens r
IsInside names within Function'.IsNew tokens r = (tokens ≡ []) × (r ≡ Form.IsNew)
IsInside names within _ tokens r = ⊥

unfoldable pub IsFormulaWithin : List (List ℕ) → ℕ → List Token → Rule → Type 0
IsFormulaWithin names zero tokens r = IsComparison names zero tokens r
IsFormulaWithin names (suc room) tokens r = IsComparison names (suc room) tokens r ⊎ Called (IsInside names (IsFormulaWithin names room)) tokens r

-- ---- a whole text

-- the names of fields, without their case
abbrev pub field_names : List Field → List (List ℕ)
field_names fields = map (λ (f : Field). folded f.name) fields

-- a text is this formula of an object: its tokens are it, no more than 64 parentheses are open at once, and its types go together
pub record IsFormula (object : Object) (text : List ℕ) (r : Rule) : Type 0 where
  pub tokens : List Token
  pub spelled : HasTokens text tokens
  pub read : IsFormulaWithin (field_names object.fields) 64 tokens r
  pub fits : IsTrue (rule_fits object.fields r)
