use Rattle.std.proofs.Common.{sym, ◌∙◌}
use Rattle.formula_rules.proofs.read.read_rule.Goals as goal

pub returns-clause-only : goal.returns-clause-only
returns-clause-only c = λ other h. c.in_ok-rule.ensures.only other h ∙ sym c.into_value.ensures
