-- The schema of a plan with the formulas of its rules (docs/platform.md, "Schemas").
use Rattle.std.specs.Prelude.{◌≡◌, ◌⊎◌, ℕ, ◌+◌, List, [], ◌∷◌, ◌++◌, codes, Some, None, Result, Ok, Err}
use Rattle.schema_plans.specs.declared.plan.SchemaPlan.{SchemaPlan}
use Rattle.schema_plans.specs.declared.plan.ObjectPlan.{ObjectPlan}
use Rattle.schema_plans.specs.declared.plan.RulePlan.{RulePlan}
use Rattle.apex_schema.specs.declared.rule.Rule.{Rule}
use Rattle.apex_schema.specs.declared.schema.Object.{Object}
use Rattle.apex_schema.specs.declared.schema.Schema.{Schema}
use Rattle.fault_words.specs.declared.fault.Fault.{Fault}
use Rattle.fault_words.specs.declared.fault.FaultWord.TheVariants.{BadRule}
use Rattle.schema_plans.specs.declared.plan_fault.SchemaFault.{SchemaFault}
use Rattle.schema_plans.specs.declared.plan_fault.SchemaFault.TheVariants.{Wrong, NoMemory}
use Rattle.schema_plans.specs.Plans.{schema_fault, field_place}
use Rattle.schema_plans.specs.Schemas.{object_of, schema_of}
use Rattle.schema_plans.specs.Validity.{with_rules}
use Rattle.formula_rules.specs.Grammar.{IsFormula}

-- ---- the rules of one object

-- the texts of these rules are these formulas
abbrev pub AreFormulas : Object → List RulePlan → List Rule → Type 0
AreFormulas o [] rules = rules ≡ []
AreFormulas o (p ∷ ps) [] = ⊥
AreFormulas o (p ∷ ps) (r ∷ rules) = IsFormula o p.when r × AreFormulas o ps rules

-- the text of this rule is no formula, and those of the rules before it are
abbrev pub IsFirstBad : Object → List RulePlan → RulePlan → Type 0
IsFirstBad o [] bad = ⊥
IsFirstBad o (p ∷ ps) bad = (((r : Rule) → IsFormula o p.when r → ⊥) × (bad ≡ p)) ⊎ (((r : Rule) × IsFormula o p.when r) × IsFirstBad o ps bad)

-- ---- all objects

-- the rules of these planned objects are these formulas, a list for each object; their numbers go from i on
abbrev pub HaveFormulas : SchemaPlan → ℕ → List ObjectPlan → List (List Rule) → Type 0
HaveFormulas plan i [] rules = rules ≡ []
HaveFormulas plan i (o ∷ os) [] = ⊥
HaveFormulas plan i (o ∷ os) (rs ∷ rules) = AreFormulas (object_of plan i o) o.rules rs × HaveFormulas plan (i + 1) os rules

-- the fault of a rule whose text is no formula
abbrev pub bad_rule : ObjectPlan → RulePlan → Fault
bad_rule o p = record { place = codes "schema " ++ field_place o p.name; word = BadRule }

-- it is the fault of the first such rule
abbrev pub IsRuleFault : SchemaPlan → ℕ → List ObjectPlan → Fault → Type 0
IsRuleFault plan i [] fault = ⊥
IsRuleFault plan i (o ∷ os) fault =
    ((bad : RulePlan) × IsFirstBad (object_of plan i o) o.rules bad × (fault ≡ bad_rule o bad)) ⊎
    (((rs : List Rule) × AreFormulas (object_of plan i o) o.rules rs) × IsRuleFault plan (i + 1) os fault)

-- ---- a schema

-- the schema that a plan without fault says, with the formulas that the rules of its objects are; RowShare has none
pub record IsDeployed (plan : SchemaPlan) (schema : Schema) : Type 0 where
  pub rules : List (List Rule)
  pub faultless : schema_fault plan ≡ None
  pub read : HaveFormulas plan 0 plan.objects rules
  pub said : schema ≡ with_rules (schema_of plan) (rules ++ [] ∷ [])

-- the first fault of the plan, or, where it has none, that of its rules
abbrev pub IsFault : SchemaPlan → Fault → Type 0
IsFault plan fault = (schema_fault plan ≡ Some fault) ⊎ ((schema_fault plan ≡ None) × IsRuleFault plan 0 plan.objects fault)

-- what deploying a plan tells; want of memory is free
abbrev pub Deploys : SchemaPlan → Result Schema SchemaFault → Type 0
Deploys plan (Ok schema) = IsDeployed plan schema × ((other : Schema) → IsDeployed plan other → other ≡ schema)
Deploys plan (Err (Wrong fault)) = IsFault plan fault × ((schema : Schema) → IsDeployed plan schema → ⊥)
Deploys plan (Err NoMemory) = Unit {0}
