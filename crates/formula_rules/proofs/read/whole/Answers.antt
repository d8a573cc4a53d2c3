use Rattle.std.proofs.Common.{rules, arith, ◌≡◌, Err}
use Rattle.formula_rules.specs.Grammar.{IsFormulaWithin}
use Rattle.formula_rules.proofs.Whole.{all_read, rest_left, not_read}
use Rattle.formula_rules.proofs.read.whole.Goals as goal

pub returns-in_err-rule : goal.returns-in_err-rule
returns-in_err-rule c =
    let e : c.from_residual.result ≡ Err c.in_err-rule.field-0.0 = search rules in
    rw e (not_read (IsFormulaWithin c.args.fields.now.names.items 64) c.args.tokens.now c.in_err-rule.field-0.0 c.in_err-rule.ensures.told)

pub returns-then-end-tokens : goal.returns-then-end-tokens
returns-then-end-tokens c =
    rest_left (IsFormulaWithin c.args.fields.now.names.items 64) c.args.tokens.now c.in_ok-rule.rule c.in_ok-rule.end c.in_ok-rule.ensures.told (omega arith)

pub returns : goal.returns
returns c =
    all_read (IsFormulaWithin c.args.fields.now.names.items 64) c.args.tokens.now c.in_ok-rule.rule c.in_ok-rule.end c.in_ok-rule.ensures.told (omega arith)
