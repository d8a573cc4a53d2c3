use Rattle.std.proofs.Common.{rules, ◌≡◌, Err}
use Rattle.apex_schema.specs.declared.rule.RuleTerm.TheVariants.{PriorValue, Len}
use Rattle.formula_rules.proofs.Told.{no_field}
use Rattle.formula_rules.proofs.grammar.measured.Goals as goal

pub returns-in_err-n-in-PriorValue-clause-told : goal.returns-in_err-n-in-PriorValue-clause-told
returns-in_err-n-in-PriorValue-clause-told c =
    let e : c.from_residual.result ≡ Err c.in_err-n-in-PriorValue.field-0.0 = search rules in
    rw (c.in-PriorValue.is, e) (no_field c.args.fields.now.names.items PriorValue c.args.tokens.now c.args.at c.in_err-n-in-PriorValue.field-0.0 c.in_err-n-in-PriorValue.ensures.told)

pub returns-in_err-n-in-Len-clause-told : goal.returns-in_err-n-in-Len-clause-told
returns-in_err-n-in-Len-clause-told c =
    let e : c.from_residual-in_err-n-in-Len.result ≡ Err c.in_err-n-in-Len.field-0.0 = search rules in
    rw (c.in-Len.is, e) (no_field c.args.fields.now.names.items Len c.args.tokens.now c.args.at c.in_err-n-in-Len.field-0.0 c.in_err-n-in-Len.ensures.told)
