-- When a validation rule holds (docs/platform.md, "Validation rules").
use Rattle.std.specs.Prelude.{ℕ, ◌*◌, pos, ◌&&◌, ◌||◌, not, Bool, true, false, List, [], length, bytes_eq, Option, None, Some}
use Rattle.std.specs.List.{list_all, list_any}
use Rattle.std.specs.Ordering.{int_cmp, is_lt, is_gt, int_eq}
use Rattle.std.specs.declared.cmp.Ordering.{Ordering}
use Rattle.std.specs.Str.{chars}
use Rattle.apex_num.specs.declared.cell.Cell.{Cell}
use Rattle.apex_num.specs.declared.cell.Cell.TheVariants.{Null, Bool as Truth, Whole, Num, Text, Id, Day, Moment}
use Rattle.apex_num.specs.Ids.{long_id}
use Rattle.apex_schema.specs.declared.rule.RuleOp.{RuleOp}
use Rattle.apex_schema.specs.declared.rule.RuleOp.TheVariants as Op
use Rattle.apex_schema.specs.declared.rule.RuleTerm.{RuleTerm}
use Rattle.apex_schema.specs.declared.rule.RuleTerm.TheVariants as Term
use Rattle.apex_schema.specs.declared.rule.Rule.{Rule}
use Rattle.apex_schema.specs.declared.rule.Rule.TheOpen.{Rule-F}
use Rattle.apex_schema.specs.declared.rule.Rule.TheFolds.{fold-Rule}
use Rattle.apex_rows.specs.declared.row.Row.{Row}
use Rattle.row_meaning.specs.Cells.{is_null, stands}
use Rattle.row_meaning.specs.Conds.{cell_of}

abbrev pub same_truth : Bool → Bool → Bool
same_truth true b = b
same_truth false b = not b

-- a text is an Id, of 15 or of 18 characters
abbrev pub reads_as : List ℕ → List ℕ → Bool
reads_as text id = bytes_eq text id || bytes_eq text (long_id id)

-- two values are the same; texts are compared exactly, and an Id is the same as a text that reads as it
abbrev pub equals : Cell → Cell → Bool
equals Null Null = true
equals (Truth a) (Truth b) = same_truth a b
equals (Whole a) (Whole b) = int_eq a b
equals (Num a) (Num b) = int_eq a b
equals (Text a) (Text b) = bytes_eq a b
equals (Id a) (Id b) = bytes_eq a b
equals (Id a) (Text b) = reads_as b a
equals (Text a) (Id b) = reads_as a b
equals (Day a) (Day b) = int_eq a b
equals (Moment a) (Moment b) = int_eq a b
equals _ _ = false

-- how two numbers, dates or moments stand
abbrev pub order : Cell → Cell → Option Ordering
order (Num a) (Num b) = Some (int_cmp a b)
order (Day a) (Day b) = Some (int_cmp a b)
order (Moment a) (Moment b) = Some (int_cmp a b)
order _ _ = None

-- a comparison with a null is false, but that exactly one of two values is null makes them differ
abbrev pub rule_compares : RuleOp → Cell → Cell → Bool
rule_compares Op.Equal a b = not (is_null a || is_null b) && equals a b
rule_compares Op.Differs a b = not (equals a b)
rule_compares Op.Less a b = stands is_lt (order a b)
rule_compares Op.AtMost a b = stands (λ o. not (is_gt o)) (order a b)
rule_compares Op.More a b = stands is_gt (order a b)
rule_compares Op.AtLeast a b = stands (λ o. not (is_lt o)) (order a b)

-- a field is null or an empty text
abbrev pub is_blank : Cell → Bool
is_blank Null = true
is_blank (Text []) = true
is_blank _ = false

abbrev pub text_length : Cell → ℕ
text_length (Text t) = length (chars t)
text_length _ = 0

-- the row before; in an insert the new one
abbrev pub prior : Row → Option Row → Row
prior new None = new
prior new (Some old) = old

abbrev pub term_cell : Row → Option Row → RuleTerm → Cell
term_cell new old (Term.Field n) = cell_of new n
term_cell new old (Term.PriorValue n) = cell_of (prior new old) n
term_cell new old (Term.Len n) = Num (pos (1000000 * text_length (cell_of new n)))
term_cell new old (Term.Number d) = Num d
term_cell new old (Term.Text t) = Text t
term_cell new old (Term.Truth b) = Truth b

abbrev pub is_new : Option Row → Bool
is_new None = true
is_new (Some old) = false

abbrev pub rule_step : Row → Option Row → Rule-F Bool → Bool
rule_step new old (Rule-F.And bs) = list_all (λ b. b) bs
rule_step new old (Rule-F.Or bs) = list_any (λ b. b) bs
rule_step new old (Rule-F.Not b) = not b
rule_step new old (Rule-F.IsBlank n) = is_blank (cell_of new n)
rule_step new old (Rule-F.IsChanged n) = not (equals (cell_of (prior new old) n) (cell_of new n))
rule_step new old Rule-F.IsNew = is_new old
rule_step new old (Rule-F.Compare a op b) = rule_compares op (term_cell new old a) (term_cell new old b)

-- a rule holds of a new row and the old one
abbrev pub rule_value : Row → Option Row → Rule → Bool
rule_value new old = fold-Rule Bool (rule_step new old)
