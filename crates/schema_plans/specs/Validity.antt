-- Which schemas are valid (docs/platform.md, "Schemas"): those that a plan without fault says, with formulas of their objects.
use Rattle.std.specs.Prelude.{◌≡◌, ◌≤◌, ℕ, zero, suc, ◌||◌, Bool, IsTrue, List, [], ◌∷◌, length, map, None}
use Rattle.std.specs.List.{list_all}
use Rattle.schema_plans.specs.declared.plan.SchemaPlan.{SchemaPlan}
use Rattle.apex_schema.specs.declared.rule.Rule.{Rule}
use Rattle.apex_schema.specs.declared.schema.Object.{Object}
use Rattle.apex_schema.specs.declared.schema.Schema.{Schema}
use Rattle.schema_plans.specs.Plans.{is_empty, schema_fault}
use Rattle.schema_plans.specs.Schemas.{schema_of}
use Rattle.schema_plans.specs.Formulas.{fits}

-- an object with these formulas
abbrev pub with_formulas : Object → List Rule → Object
with_formulas o rs = record o { rules = rs }

abbrev pub bare : Object → Object
bare o = with_formulas o []

-- the schema without its formulas
abbrev pub without_rules : Schema → Schema
without_rules s = record s { objects = map bare s.objects }

-- these objects with these formulas, a list for each
abbrev pub with_each : List Object → List (List Rule) → List Object
with_each (o ∷ os) (rs ∷ rules) = with_formulas o rs ∷ with_each os rules
with_each os [] = os
with_each [] (rs ∷ rules) = []

-- these objects, the one at this place with these formulas
abbrev pub set_formulas : List Object → ℕ → List Rule → List Object
set_formulas [] at rs = []
set_formulas (o ∷ os) zero rs = with_formulas o rs ∷ os
set_formulas (o ∷ os) (suc at) rs = o ∷ set_formulas os at rs

abbrev pub with_rules : Schema → List (List Rule) → Schema
with_rules s rules = record s { objects = with_each s.objects rules }

-- an object has no formula yet, or one for each head, each of it
abbrev pub is_furnished : Object → Bool
is_furnished o = is_empty o.rules || fits o o.rules

-- the schema is what a plan without fault says, its formulas are of their objects, and each user has an Id
pub record IsValid (s : Schema) : Type 0 where
  pub plan : SchemaPlan
  pub faultless : schema_fault plan ≡ None
  pub said : without_rules s ≡ schema_of plan
  pub furnished : IsTrue (list_all is_furnished s.objects)
  pub few_users : length s.users ≤ 1000000
