use Rattle.std.proofs.Common.{rules, ◌≡◌, false, Ok, Err}
use Rattle.schema_plans.specs.Formulas.{rule_fits}
use Rattle.formula_rules.specs.Grammar.{field_names, IsFormulaWithin}
use Rattle.formula_rules.specs.Readings.{IsWhole}
use Rattle.formula_rules.proofs.Whole.{only, unread, unfit}
use Rattle.formula_rules.proofs.read.read_rule_by.Goals as goal

pub returns-in_err-rule-clause-none : goal.returns-in_err-rule-clause-none
returns-in_err-rule-clause-none c =
    let fault = c.in_err-rule.field-0.0 in
    let names = c.args.fields.now.names.items in
    let are : names ≡ field_names c.args.object.now.fields = c.requires in
    let told : IsWhole (IsFormulaWithin names 64) c.in_ok-tokens.tokens (Err fault) = search rules in
    let e : c.from_residual-in_err-rule.result ≡ Err fault = search rules in
    rw e (unread c.args.object.now c.args.text.now c.in_ok-tokens.tokens c.in_ok-tokens.ensures names are fault told)

pub returns-then-rule_fits-clause-only : goal.returns-then-rule_fits-clause-only
returns-then-rule_fits-clause-only c =
    let names = c.args.fields.now.names.items in
    let are : names ≡ field_names c.args.object.now.fields = c.requires in
    let told : IsWhole (IsFormulaWithin names 64) c.in_ok-tokens.tokens (Ok c.in_ok-rule.rule) = search rules in
    only c.args.object.now c.args.text.now c.in_ok-tokens.tokens c.in_ok-tokens.ensures names are c.in_ok-rule.rule told

pub returns-clause-none : goal.returns-clause-none
returns-clause-none c = λ bad.
    let names = c.args.fields.now.names.items in
    let are : names ≡ field_names c.args.object.now.fields = c.requires in
    let told : IsWhole (IsFormulaWithin names 64) c.in_ok-tokens.tokens (Ok c.in_ok-rule.rule) = search rules in
    let not_fit : rule_fits c.args.object.now.fields c.in_ok-rule.rule ≡ false = search rules in
    unfit c.args.object.now c.args.text.now c.in_ok-tokens.tokens c.in_ok-tokens.ensures names are c.in_ok-rule.rule told not_fit
