use Rattle.std.proofs.Common.{◌≡◌, rules, arith, sym, ◌∙◌, map, subst}
use Rattle.std.proofs.lemmas.Grind.{common_steps}
use Rattle.apex_schema.specs.declared.schema.Schema.{Schema}
use Rattle.schema_plans.specs.Validity.{IsValid, with_rules}
use Rattle.schema_build.proofs.RuleSteps.{with_rules_valid, fit_long, map_long}
use Rattle.schema_build.proofs.formulas.with_rules.Goals as goal

pub set_each-requires : goal.set_each-requires
set_each-requires c =
    let long = fit_long c.args.schema.objects _ c.requires in
    let items : c.deref_mut.result.now ≡ c.args.schema.objects = search rules in
    rw items (long ∙ map_long (λ list. list.items) c.args.rules.items)

pub returns-clause-valid : goal.returns-clause-valid
returns-clause-valid c = λ v.
    let made : Schema = record { roles = c.args.schema.roles; users = c.args.schema.users; objects = c.of.result } in
    let set : made ≡ with_rules c.args.schema (map (λ list. list.items) c.args.rules.items) = grind (arith, common_steps) in
    subst IsValid (sym set) (with_rules_valid c.args.schema _ c.requires v)
