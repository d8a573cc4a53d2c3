use Rattle.std.proofs.Common.{ap, sym, ◌∙◌}
use Rattle.schema_plans.specs.Formulas.{rule_fits}
use Rattle.formula_rules.proofs.Folds.{and_fits, or_fits}
use Rattle.formula_rules.proofs.types.+fits.Goals as goal

pub rule_fits-returns-in-And : goal.rule_fits-returns-in-And
rule_fits-returns-in-And t c =
    c.all_fit.ensures ∙ sym (and_fits c.args.fields.now c.in-And.rules) ∙ ap (rule_fits c.args.fields.now) (sym c.in-And.is)

pub rule_fits-returns-in-Or : goal.rule_fits-returns-in-Or
rule_fits-returns-in-Or t c =
    c.all_fit-in-Or.ensures ∙ sym (or_fits c.args.fields.now c.in-Or.rules) ∙ ap (rule_fits c.args.fields.now) (sym c.in-Or.is)
