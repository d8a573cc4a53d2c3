use Rattle.std.proofs.Common.{◌≡◌, drop}
use Rattle.std.specs.List.{list_all, list_any}
use Rattle.std.specs.Option.{option_copied}
use Rattle.row_meaning.specs.Rules.{rule_value}
use Rattle.formula_rules.proofs.holds.+rule.Given as goal

abbrev pub invariant-all_hold-loop-rule : goal.invariant-all_hold-loop-rule
invariant-all_hold-loop-rule l = list_all (rule_value l.new (option_copied l.old)) (drop l.rule-index l.rules) ≡ list_all (rule_value l.new (option_copied l.old)) l.rules

abbrev pub invariant-one_holds-loop-rule : goal.invariant-one_holds-loop-rule
invariant-one_holds-loop-rule l = list_any (rule_value l.new (option_copied l.old)) (drop l.rule-index l.rules) ≡ list_any (rule_value l.new (option_copied l.old)) l.rules
