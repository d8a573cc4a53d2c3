-- Which formulas are of an object (docs/platform.md, "Validation rules").
use Rattle.std.specs.Prelude.{ℕ, ◌&&◌, nat_lt, eqb, Bool, true, false, List, [], ◌∷◌, length, Option, None, Some, slice_get}
use Rattle.std.specs.List.{list_all}
use Rattle.apex_schema.specs.declared.rule.RuleOp.{RuleOp}
use Rattle.apex_schema.specs.declared.rule.RuleOp.TheVariants as Op
use Rattle.apex_schema.specs.declared.rule.RuleTerm.{RuleTerm}
use Rattle.apex_schema.specs.declared.rule.RuleTerm.TheVariants as Term
use Rattle.apex_schema.specs.declared.rule.Rule.{Rule}
use Rattle.apex_schema.specs.declared.rule.Rule.TheOpen.{Rule-F}
use Rattle.apex_schema.specs.declared.rule.Rule.TheFolds.{fold-Rule}
use Rattle.apex_schema.specs.declared.schema.FieldKind.{FieldKind}
use Rattle.apex_schema.specs.declared.schema.FieldKind.TheVariants as Kind
use Rattle.apex_schema.specs.declared.schema.Field.{Field}
use Rattle.apex_schema.specs.declared.schema.Object.{Object}
use Rattle.schema_plans.specs.Plans.{bind}

-- the types of terms
pub data Sort : Type 0 where
  number : Sort
  text : Sort
  truth : Sort
  id : Sort
  day : Sort
  moment : Sort

-- the type of a field's values
abbrev pub sort_of : FieldKind → Sort
sort_of Kind.Id = id
sort_of (Kind.Text n) = text
sort_of Kind.Number = number
sort_of Kind.Checkbox = truth
sort_of Kind.Date = day
sort_of Kind.Datetime = moment
sort_of (Kind.Lookup link) = id
sort_of (Kind.MasterDetail link) = id
sort_of (Kind.Rollup rollup) = number

abbrev pub field_sort : List Field → ℕ → Option Sort
field_sort fields n = bind (slice_get fields n) (λ (f : Field). Some (sort_of f.kind))

-- LEN counts the scalars of a text
abbrev pub length_sort : Option Sort → Option Sort
length_sort (Some text) = Some number
length_sort _ = None

-- the type of a term, where its field is there and LEN is of a text
abbrev pub term_sort : List Field → RuleTerm → Option Sort
term_sort fields (Term.Field n) = field_sort fields n
term_sort fields (Term.PriorValue n) = field_sort fields n
term_sort fields (Term.Len n) = length_sort (field_sort fields n)
term_sort fields (Term.Number d) = Some number
term_sort fields (Term.Text t) = Some text
term_sort fields (Term.Truth b) = Some truth

-- `=` and `<>`, and not `<` and its kin
abbrev pub is_equality : RuleOp → Bool
is_equality Op.Equal = true
is_equality Op.Differs = true
is_equality _ = false

-- both terms have one type, but that Ids and texts go together; only numbers, dates and moments have an order
abbrev pub compares : RuleOp → Sort → Sort → Bool
compares op number number = true
compares op text text = is_equality op
compares op text id = is_equality op
compares op id text = is_equality op
compares op id id = is_equality op
compares op truth truth = is_equality op
compares op day day = true
compares op moment moment = true
compares op _ _ = false

abbrev pub terms_fit : RuleOp → Option Sort → Option Sort → Bool
terms_fit op (Some a) (Some b) = compares op a b
terms_fit op _ _ = false

abbrev pub fit_step : List Field → Rule-F Bool → Bool
fit_step fields (Rule-F.And bs) = list_all (λ b. b) bs
fit_step fields (Rule-F.Or bs) = list_all (λ b. b) bs
fit_step fields (Rule-F.Not b) = b
fit_step fields (Rule-F.IsBlank n) = nat_lt n (length fields)
fit_step fields (Rule-F.IsChanged n) = nat_lt n (length fields)
fit_step fields Rule-F.IsNew = true
fit_step fields (Rule-F.Compare a op b) = terms_fit op (term_sort fields a) (term_sort fields b)

-- a formula names fields that are there, and compares terms that go together
abbrev pub rule_fits : List Field → Rule → Bool
rule_fits fields = fold-Rule Bool (fit_step fields)

-- one formula for each head of the object, each of it
abbrev pub fits : Object → List Rule → Bool
fits o rules = eqb (length rules) (length o.heads) && list_all (rule_fits o.fields) rules

-- one such list for each object
abbrev pub all_fit : List Object → List (List Rule) → Bool
all_fit [] [] = true
all_fit (o ∷ os) (rs ∷ rules) = fits o rs && all_fit os rules
all_fit _ _ = false
