use Rattle.std.proofs.Common.{rules, ◌≡◌, ◌++◌, ◌∷◌, [], map, Err, IsTrue, subst, sym, ap, ◌∙◌}
use Rattle.std.proofs.lemmas.List.{map_push}
use Rattle.schema_plans.specs.Formulas.{all_fit}
use Rattle.tenant_schema.proofs.Steps.{all_fits, rule_fails}
use Rattle.tenant_schema.proofs.deploy.deploy_schema.Goals as goal

pub returns-in_err-rules-clause-deployed : goal.returns-in_err-rules-clause-deployed
returns-in_err-rules-clause-deployed c =
    let e : c.from_residual-in_err-rules.result ≡ Err c.in_err-rules.field-0.0 = search rules in
    let built = c.in_ok-schema.ensures.built in
    rw e (rule_fails c.args.plan.now c.in_ok-schema.schema built.0 built.1 c.in_err-rules.field-0.0 c.in_err-rules.ensures)

pub with_rules-requires : goal.with_rules-requires
with_rules-requires c =
    let built = c.in_ok-schema.ensures.built in
    let all : map (λ list. list.items) c.into_vec.result.items ≡ map (λ list. list.items) c.in_ok-rules.rules ++ [] ∷ [] =
    ap (map (λ list. list.items)) (c.into_vec.ensures ∙ c.in-Ok.ensures.ok) ∙ map_push (λ list. list.items) c.in_ok-rules.rules c.new.result ∙ ap (λ l. map (λ list. list.items) c.in_ok-rules.rules ++ l ∷ []) c.new.ensures.items in
    subst (λ l. IsTrue (all_fit c.in_ok-schema.schema.objects l)) (sym all) (all_fits c.args.plan.now c.in_ok-schema.schema built.0 built.1 (map (λ list. list.items) c.in_ok-rules.rules) c.in_ok-rules.ensures)
