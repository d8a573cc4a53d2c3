use Rattle.std.proofs.Common.{sym, ◌∙◌, ◌+◌}
use Rattle.formula_rules.specs.Grammar.{field_of}
use Rattle.formula_rules.proofs.Told.{one}
use Rattle.formula_rules.proofs.grammar.field.Goals as goal

pub returns-in-Some-field_of-clause-told : goal.returns-in-Some-field_of-clause-told
returns-in-Some-field_of-clause-told c =
    one (field_of c.args.fields.now.names.items) c.args.tokens.now c.args.at (c.args.at + 1) c.in-Some.token.now c.in-Some-field_of.field c.in-Some.ensures.at (sym c.field_of.ensures ∙ c.in-Some-field_of.is)
