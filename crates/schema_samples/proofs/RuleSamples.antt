-- What formulas come to over the rows of a save, worked out by hand.
use Rattle.std.proofs.Common.{◌≡◌, pos, true, false, [], ◌∷◌, codes, Some, None, refl}
use Rattle.std.specs.Str.{chars}
use Rattle.apex_num.specs.declared.cell.Cell.{Cell}
use Rattle.apex_num.specs.declared.cell.Cell.TheVariants.{Null, Bool as Truth, Num, Text, Id, Day, Moment}
use Rattle.apex_rows.specs.declared.row.Row.{Row}
use Rattle.apex_schema.specs.declared.rule.RuleOp.TheVariants as Op
use Rattle.apex_schema.specs.declared.rule.RuleTerm.TheVariants as Term
use Rattle.apex_schema.specs.declared.rule.Rule.{Rule}
use Rattle.apex_schema.specs.declared.rule.Rule.TheOpen.{Rule-F}
use Rattle.apex_schema.specs.declared.rule.Rule.TheViews.{roll-Rule}
use Rattle.apex_schema.specs.declared.rule.Rule.TheFolds.{fold-roll-Rule}
use Rattle.row_meaning.specs.Cells.{text_like}
use Rattle.row_meaning.specs.Rules.{rule_compares, rule_step, rule_value}

-- a row of a name and an amount
row : Cell → Cell → Row
row name amount = record { object = 0; id = codes "001D000000IqhSL"; cells = Id (codes "001D000000IqhSL") ∷ Null ∷ name ∷ amount ∷ [] }

before : Row
before = row (Text (codes "good")) (Num (pos 2500000))

after : Row
after = row (Text (codes "bad")) (Num (pos 2500000))

-- ---- what an update changes

changed : rule_step after (Some before) (Rule-F.IsChanged 2) ≡ true
unfolding after before row
changed = refl

unchanged : rule_step after (Some before) (Rule-F.IsChanged 3) ≡ false
unfolding after before row
unchanged = refl

changed_in_an_insert : rule_step after None (Rule-F.IsChanged 2) ≡ false
unfolding after before row
changed_in_an_insert = refl

-- a null and an empty text are both blank, and differ
null_to_empty : rule_step (row (Text []) Null) (Some (row Null Null)) (Rule-F.IsChanged 2) ≡ true
unfolding row
null_to_empty = refl

empty_is_blank : rule_step (row (Text []) Null) (Some (row Null Null)) (Rule-F.IsBlank 2) ≡ true
unfolding row
empty_is_blank = refl

id_is_not_blank : rule_step after None (Rule-F.IsBlank 0) ≡ false
unfolding after row
id_is_not_blank = refl

new_in_an_insert : rule_step after None Rule-F.IsNew ≡ true
new_in_an_insert = refl

new_in_an_update : rule_step after (Some before) Rule-F.IsNew ≡ false
new_in_an_update = refl

prior_of_an_update : rule_step after (Some before) (Rule-F.Compare (Term.PriorValue 2) Op.Equal (Term.Text (codes "good"))) ≡ true
unfolding after before row
prior_of_an_update = refl

prior_of_an_insert : rule_step after None (Rule-F.Compare (Term.PriorValue 2) Op.Differs (Term.Field 2)) ≡ false
unfolding after row
prior_of_an_insert = refl

less_than_before : rule_step (row Null (Num (pos 1))) (Some before) (Rule-F.Compare (Term.Field 3) Op.Less (Term.PriorValue 3)) ≡ true
unfolding before row
less_than_before = refl

-- ---- the six comparisons of 1 and 2, of nulls, of days

number_less : rule_compares Op.Less (Num (pos 1)) (Num (pos 2)) ≡ true
number_less = refl

number_at_most : rule_compares Op.AtMost (Num (pos 2)) (Num (pos 2)) ≡ true
number_at_most = refl

number_more : rule_compares Op.More (Num (pos 2)) (Num (pos 2)) ≡ false
number_more = refl

number_at_least : rule_compares Op.AtLeast (Num (pos 1)) (Num (pos 2)) ≡ false
number_at_least = refl

null_at_most : rule_compares Op.AtMost Null Null ≡ false
null_at_most = refl

day_more : rule_compares Op.More (Day (pos 3)) (Day (pos 1)) ≡ true
day_more = refl

moment_equal : rule_compares Op.Equal (Moment (pos 5)) (Moment (pos 5)) ≡ true
moment_equal = refl

truths_differ : rule_compares Op.Differs (Truth true) (Truth false) ≡ true
truths_differ = refl

text_no_id : rule_compares Op.Equal (Id (codes "001D000000IqhSL")) (Text (codes "no Id")) ≡ false
text_no_id = refl

text_as_id : rule_compares Op.Equal (Text (codes "001D000000IqhSL")) (Id (codes "001D000000IqhSL")) ≡ true
text_as_id = refl

-- two characters of six bytes
length_in_characters : rule_step (row (Text (195 ∷ 169 ∷ 240 ∷ 159 ∷ 152 ∷ 128 ∷ [])) Null) None (Rule-F.Compare (Term.Len 2) Op.Equal (Term.Number (pos 2000000))) ≡ true
unfolding row chars
length_in_characters = refl

-- ---- formulas in formulas

each_holds : rule_step after None (Rule-F.And (true ∷ true ∷ [])) ≡ true
each_holds = refl

one_fails : rule_step after None (Rule-F.And (true ∷ false ∷ [])) ≡ false
one_fails = refl

one_holds : rule_step after None (Rule-F.Or (false ∷ true ∷ [])) ≡ true
one_holds = refl

none_holds : rule_step after None (Rule-F.Or (false ∷ false ∷ [])) ≡ false
none_holds = refl

is_new : Rule
is_new = roll-Rule Rule-F.IsNew

not_new : Rule
not_new = roll-Rule (Rule-F.Not is_new)

not_in_an_insert : rule_value after None not_new ≡ false
unfolding is_new not_new
not_in_an_insert = simp fold-roll-Rule refl

not_in_an_update : rule_value after (Some before) not_new ≡ true
unfolding is_new not_new
not_in_an_update = simp fold-roll-Rule refl

-- ---- LIKE, with runs that meet again

like_twice : text_like (codes "mississippi") (codes "%iss%ip%") ≡ true
unfolding chars
like_twice = refl

like_late : text_like (codes "mississippi") (codes "m%iss_pp_") ≡ true
unfolding chars
like_late = refl

like_too_late : text_like (codes "mississippi") (codes "m%s_ipp_") ≡ true
unfolding chars
like_too_late = refl

like_at_the_end : text_like (codes "abab") (codes "%ab") ≡ true
unfolding chars
like_at_the_end = refl

like_not_at_the_end : text_like (codes "ababa") (codes "%ab") ≡ false
unfolding chars
like_not_at_the_end = refl

like_one_at_least : text_like (codes "a") (codes "_%_") ≡ false
unfolding chars
like_one_at_least = refl

like_taken_twice : text_like (codes "a\\b") (codes "a\\\\b") ≡ true
unfolding chars
like_taken_twice = refl

like_taken_letters : text_like (codes "abc") (codes "\\a\\b\\c") ≡ true
unfolding chars
like_taken_letters = refl

like_empty : text_like (codes "abc") [] ≡ false
unfolding chars
like_empty = refl

like_empty_of_nothing : text_like [] [] ≡ true
unfolding chars
like_empty_of_nothing = refl
