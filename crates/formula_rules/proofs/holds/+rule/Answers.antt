use Rattle.std.proofs.Common.{ap, sym, ◌∙◌}
use Rattle.std.specs.Option.{option_copied}
use Rattle.row_meaning.specs.Rules.{rule_value}
use Rattle.formula_rules.proofs.Folds.{and_value, or_value}
use Rattle.formula_rules.proofs.holds.+rule.Goals as goal

pub rule_holds-returns-in-And : goal.rule_holds-returns-in-And
rule_holds-returns-in-And t c =
    c.all_hold.ensures ∙ sym (and_value c.args.new.now (option_copied c.args.old) c.in-And.rules) ∙ ap (rule_value c.args.new.now (option_copied c.args.old)) (sym c.in-And.is)

pub rule_holds-returns-in-Or : goal.rule_holds-returns-in-Or
rule_holds-returns-in-Or t c =
    c.one_holds.ensures ∙ sym (or_value c.args.new.now (option_copied c.args.old) c.in-Or.rules) ∙ ap (rule_value c.args.new.now (option_copied c.args.old)) (sym c.in-Or.is)
