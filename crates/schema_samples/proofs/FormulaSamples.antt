-- Which terms go together, in small cases that were worked out by hand.
use Rattle.std.proofs.Common.{◌≡◌, List, [], ◌∷◌, true, false, codes, Some, None, pos, refl}
use Rattle.apex_schema.specs.declared.rule.RuleOp.TheVariants as Op
use Rattle.apex_schema.specs.declared.rule.RuleTerm.TheVariants as Term
use Rattle.apex_schema.specs.declared.schema.FieldKind.{FieldKind}
use Rattle.apex_schema.specs.declared.schema.FieldKind.TheVariants as Kind
use Rattle.apex_schema.specs.declared.schema.Field.{Field}
use Rattle.schema_plans.specs.Formulas.{number, term_sort, terms_fit}

field : FieldKind → Field
field kind = record { name = []; kind = kind; required = false }

-- Id, a Text, a Number, a Date
fields : List Field
fields = field Kind.Id ∷ field (Kind.Text 80) ∷ field Kind.Number ∷ field Kind.Date ∷ []

length_of_text : term_sort fields (Term.Len 1) ≡ Some number
unfolding fields field
length_of_text = refl

length_of_number : term_sort fields (Term.Len 2) ≡ None
unfolding fields field
length_of_number = refl

no_field : term_sort fields (Term.Field 4) ≡ None
unfolding fields field
no_field = refl

id_as_text : terms_fit Op.Equal (term_sort fields (Term.Field 0)) (term_sort fields (Term.Text (codes "a"))) ≡ true
unfolding fields field
id_as_text = refl

text_order : terms_fit Op.Less (term_sort fields (Term.Field 1)) (term_sort fields (Term.Text (codes "a"))) ≡ false
unfolding fields field
text_order = refl

number_order : terms_fit Op.Less (term_sort fields (Term.PriorValue 2)) (term_sort fields (Term.Number (pos 1))) ≡ true
unfolding fields field
number_order = refl

date_number : terms_fit Op.Equal (term_sort fields (Term.Field 3)) (term_sort fields (Term.Number (pos 1))) ≡ false
unfolding fields field
date_number = refl

truth_text : terms_fit Op.Equal (term_sort fields (Term.Truth true)) (term_sort fields (Term.Field 1)) ≡ false
unfolding fields field
truth_text = refl
