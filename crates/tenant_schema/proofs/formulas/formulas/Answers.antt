use Rattle.std.proofs.Common.{rules, ◌≡◌, ◌<◌, ◌++◌, ◌∷◌, [], length, Err, subst}
use Rattle.tenant_schema.specs.Answers.{IsTold}
use Rattle.tenant_schema.proofs.Steps.{rule_step, bad_step}
use Rattle.tenant_schema.proofs.formulas.formulas.Goals as goal

pub returns-in-Err-BadRule : goal.returns-in-Err-BadRule
returns-in-Err-BadRule c =
    let within : c.rules.i < length c.args.rules.now = search rules in
    bad_step c.args.object.now c.args.rules.now c.rules.i c.index-rules-i.result c.rules.read within c.index-rules-i.is c.rules.invariant
    (subst (λ fault. IsTold c.args.object.now c.index-rules-i.result (Err fault)) c.in-Err-BadRule.field-0-is c.in-Err-BadRule.ensures)

pub rules-preserved : goal.rules-preserved
rules-preserved c =
    let within : c.rules.i < length c.args.rules.now = search rules in
    let more : c.push.new.self ≡ c.rules.read ++ c.in-Ok.rule ∷ [] = search rules in
    rw more (rule_step c.args.object.now c.args.rules.now c.rules.i c.index-rules-i.result c.rules.read c.in-Ok.rule within c.index-rules-i.is c.rules.invariant c.in-Ok.ensures.0 c.in-Ok.ensures.1)
