-- What a call that reads the rules of a plan tells.
use Rattle.std.specs.Prelude.{◌≡◌, ℕ, List, Some, slice_get, Result, Ok, Err}
use Rattle.formula_rules.specs.declared.fault.RuleFault.{RuleFault}
use Rattle.formula_rules.specs.declared.fault.RuleFault.TheVariants.{BadRule, NoMemory as NoMemoryFor}
use Rattle.formula_rules.specs.Grammar.{IsFormula}
use Rattle.schema_plans.specs.declared.plan.SchemaPlan.{SchemaPlan}
use Rattle.schema_plans.specs.declared.plan.ObjectPlan.{ObjectPlan}
use Rattle.schema_plans.specs.declared.plan.RulePlan.{RulePlan}
use Rattle.apex_schema.specs.declared.rule.Rule.{Rule}
use Rattle.apex_schema.specs.declared.schema.Object.{Object}
use Rattle.schema_plans.specs.declared.plan_fault.SchemaFault.{SchemaFault}
use Rattle.schema_plans.specs.declared.plan_fault.SchemaFault.TheVariants.{Wrong, NoMemory}
use Rattle.tenant_schema.specs.declared.formulas.RulesFault.{RulesFault}
use Rattle.tenant_schema.specs.declared.formulas.RulesFault.TheVariants.{Bad, NoMemory as NoRoom}
use Rattle.tenant_schema.specs.Deployed.{AreFormulas, IsFirstBad, HaveFormulas, bad_rule, IsRuleFault}

-- the formula of a rule, its only one, or that it has none
abbrev pub IsTold : Object → RulePlan → Result Rule RuleFault → Type 0
IsTold o p (Ok r) = IsFormula o p.when r × ((other : Rule) → IsFormula o p.when other → other ≡ r)
IsTold o p (Err BadRule) = (r : Rule) → IsFormula o p.when r → ⊥
IsTold o p (Err NoMemoryFor) = Unit {0}

-- the rules are these formulas, and no others
abbrev pub AreOnly : Object → List RulePlan → List Rule → Type 0
AreOnly o ps rules = AreFormulas o ps rules × ((other : List Rule) → AreFormulas o ps other → other ≡ rules)

abbrev pub NotRead : Object → List RulePlan → RulesFault → Type 0
NotRead o ps (Bad at) = (bad : RulePlan) × (slice_get ps at ≡ Some bad) × IsFirstBad o ps bad
NotRead o ps NoRoom = Unit {0}

-- the fault of the rule at a place
abbrev pub FaultOf : ObjectPlan → ℕ → SchemaFault → Type 0
FaultOf p at (Wrong fault) = (bad : RulePlan) × (slice_get p.rules at ≡ Some bad) × (fault ≡ bad_rule p bad)
FaultOf p at NoMemory = Unit {0}

abbrev pub NotOfObject : Object → ObjectPlan → SchemaFault → Type 0
NotOfObject o p (Wrong fault) = (bad : RulePlan) × IsFirstBad o p.rules bad × (fault ≡ bad_rule p bad)
NotOfObject o p NoMemory = Unit {0}

-- the rules of all objects are these formulas, and no others
abbrev pub HaveOnly : SchemaPlan → List (List Rule) → Type 0
HaveOnly plan rules = HaveFormulas plan 0 plan.objects rules × ((other : List (List Rule)) → HaveFormulas plan 0 plan.objects other → other ≡ rules)

abbrev pub NoFormulas : SchemaPlan → SchemaFault → Type 0
NoFormulas plan (Wrong fault) = IsRuleFault plan 0 plan.objects fault
NoFormulas plan NoMemory = Unit {0}
