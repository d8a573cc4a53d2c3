use Rattle.std.proofs.Common.{sym, ◌∙◌, ◌+◌}
use Rattle.formula_rules.specs.Grammar.{term_of}
use Rattle.formula_rules.proofs.Told.{one}
use Rattle.formula_rules.proofs.grammar.short_term.Goals as goal

pub returns-in-Some-2-clause-told : goal.returns-in-Some-2-clause-told
returns-in-Some-2-clause-told c =
    one (term_of c.args.fields.now.names.items) c.args.tokens.now c.args.at (c.args.at + 1) c.in-Some.token.now c.in-Some-2.term c.in-Some.ensures.at (sym c.in_ok-term-in-Some.ensures ∙ c.in-Some-2.is)
