use Rattle.std.proofs.Common.{rules, ◌≡◌, Err}
use Rattle.formula_rules.specs.Grammar.{IsMeasure}
use Rattle.formula_rules.proofs.Told.{call_fails, call_told}
use Rattle.formula_rules.proofs.grammar.measure.Goals as goal

pub returns-in_err-term-clause-told : goal.returns-in_err-term-clause-told
returns-in_err-term-clause-told c =
    let e : c.from_residual.result ≡ Err c.in_err-term.field-0.0 = search rules in
    rw e (call_fails (IsMeasure c.args.fields.now.names.items) c.args.tokens.now c.args.at c.args.function c.args.inside c.requires.opens c.in_err-term.field-0.0 c.in_err-term.ensures.told)

pub returns-clause-told : goal.returns-clause-told
returns-clause-told c =
    call_told (IsMeasure c.args.fields.now.names.items) c.args.tokens.now c.args.at c.args.function c.args.inside c.requires.opens c.in_ok-term.term c.in_ok-term.end c.in_ok-behind.behind c.in_ok-term.ensures.told c.in_ok-behind.ensures.at
