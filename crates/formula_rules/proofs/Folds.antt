-- The value of a formula, by its parts.
use Rattle.std.proofs.Common.{◌≡◌, Bool, ◌&&◌, ◌||◌, List, [], ◌∷◌, map, Option, refl, sym, ap, ◌∙◌}
use Rattle.std.specs.List.{list_all, list_any}
use Rattle.apex_rows.specs.declared.row.Row.{Row}
use Rattle.apex_schema.specs.declared.rule.Rule.{Rule}
use Rattle.apex_schema.specs.declared.rule.Rule.TheVariants.{And, Or, rolls-And, rolls-Or}
use Rattle.apex_schema.specs.declared.rule.Rule.TheFolds.{fold-Rule, fold-roll-Rule}
use Rattle.apex_schema.specs.declared.rule.Rule.TheOpen.{Rule-F}
use Rattle.row_meaning.specs.Rules.{rule_step, rule_value}
use Rattle.schema_plans.specs.Formulas.{fit_step, rule_fits}
use Rattle.apex_schema.specs.declared.schema.Field.{Field}

any_map : (f : Rule → Bool) (rules : List Rule) → list_any (λ b. b) (map f rules) ≡ list_any f rules
any_map f [] = refl
any_map f (r ∷ rules) = ap (λ t. f r || t) (any_map f rules)

all_map : (f : Rule → Bool) (rules : List Rule) → list_all (λ b. b) (map f rules) ≡ list_all f rules
all_map f [] = refl
all_map f (r ∷ rules) = ap (λ t. f r && t) (all_map f rules)

module _ (new : Row) (old : Option Row) where
  pub and_value : (rules : List Rule) → rule_value new old (And rules) ≡ list_all (rule_value new old) rules
  and_value rules = ap (fold-Rule Bool (rule_step new old)) (sym (rolls-And rules)) ∙ fold-roll-Rule Bool (rule_step new old) (Rule-F.And rules) ∙ all_map (rule_value new old) rules

  pub or_value : (rules : List Rule) → rule_value new old (Or rules) ≡ list_any (rule_value new old) rules
  or_value rules = ap (fold-Rule Bool (rule_step new old)) (sym (rolls-Or rules)) ∙ fold-roll-Rule Bool (rule_step new old) (Rule-F.Or rules) ∙ any_map (rule_value new old) rules

module _ (fields : List Field) where
  pub and_fits : (rules : List Rule) → rule_fits fields (And rules) ≡ list_all (rule_fits fields) rules
  and_fits rules = ap (fold-Rule Bool (fit_step fields)) (sym (rolls-And rules)) ∙ fold-roll-Rule Bool (fit_step fields) (Rule-F.And rules) ∙ all_map (rule_fits fields) rules

  pub or_fits : (rules : List Rule) → rule_fits fields (Or rules) ≡ list_all (rule_fits fields) rules
  or_fits rules = ap (fold-Rule Bool (fit_step fields)) (sym (rolls-Or rules)) ∙ fold-roll-Rule Bool (fit_step fields) (Rule-F.Or rules) ∙ all_map (rule_fits fields) rules
