use Rattle.std.proofs.Common.{◌≡◌, drop}
use Rattle.std.specs.List.{list_all}
use Rattle.schema_plans.specs.Formulas.{rule_fits}
use Rattle.formula_rules.proofs.types.+fits.Given as goal

abbrev pub invariant-all_fit-loop-rule : goal.invariant-all_fit-loop-rule
invariant-all_fit-loop-rule l = list_all (rule_fits l.fields) (drop l.rule-index l.rules) ≡ list_all (rule_fits l.fields) l.rules
