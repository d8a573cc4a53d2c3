-- A plan says one schema; and the formulas of its rules are read, or one is the first that isn't.
use Rattle.std.proofs.Common.{◌≡◌, inl, inr, ℕ, ◌+◌, List, [], ◌∷◌, ◌++◌, sym, ap, ap₂, ◌∙◌}
use Rattle.apex_schema.specs.declared.rule.Rule.{Rule}
use Rattle.apex_schema.specs.declared.schema.Object.{Object}
use Rattle.apex_schema.specs.declared.schema.Schema.{Schema}
use Rattle.fault_words.specs.declared.fault.Fault.{Fault}
use Rattle.schema_plans.specs.declared.plan.SchemaPlan.{SchemaPlan}
use Rattle.schema_plans.specs.declared.plan.ObjectPlan.{ObjectPlan}
use Rattle.schema_plans.specs.declared.plan.RulePlan.{RulePlan}
use Rattle.schema_plans.specs.Schemas.{object_of, schema_of}
use Rattle.schema_plans.specs.Validity.{with_rules}
use Rattle.tenant_schema.specs.Deployed.{AreFormulas, IsFirstBad, HaveFormulas, bad_rule, IsRuleFault, IsDeployed}
use Rattle.tenant_front.proofs.Formulas.{formula_once}

-- ---- the rules of one object

module _ (o : Object) where
  formulas_once : (ps : List RulePlan) (rules others : List Rule) → AreFormulas o ps rules → AreFormulas o ps others → others ≡ rules
  formulas_once [] rules others h k = k ∙ sym h
  formulas_once (p ∷ ps) [] others h k = absurd h
  formulas_once (p ∷ ps) (r ∷ rules) [] h k = absurd k
  formulas_once (p ∷ ps) (r ∷ rules) (s ∷ others) h k = ap₂ (λ x l. x ∷ l) (formula_once o p.when r s h.0 k.0) (formulas_once ps rules others h.1 k.1)

  bad_once : (ps : List RulePlan) (bad other : RulePlan) → IsFirstBad o ps bad → IsFirstBad o ps other → other ≡ bad
  bad_once [] bad other h k = absurd h
  bad_once (p ∷ ps) bad other (inl (none, is)) (inl (nor, at)) = at ∙ sym is
  bad_once (p ∷ ps) bad other (inl (none, is)) (inr ((r, f), k)) = absurd (none r f)
  bad_once (p ∷ ps) bad other (inr ((r, f), h)) (inl (none, is)) = absurd (none r f)
  bad_once (p ∷ ps) bad other (inr (f, h)) (inr (g, k)) = bad_once ps bad other h k

  bad_or_formulas : (ps : List RulePlan) (bad : RulePlan) (rules : List Rule) → IsFirstBad o ps bad → AreFormulas o ps rules → ⊥
  bad_or_formulas [] bad rules h k = h
  bad_or_formulas (p ∷ ps) bad [] h k = k
  bad_or_formulas (p ∷ ps) bad (r ∷ rules) (inl (none, is)) k = none r k.0
  bad_or_formulas (p ∷ ps) bad (r ∷ rules) (inr (f, h)) k = bad_or_formulas ps bad rules h k.1

-- ---- the rules of all objects

module _ (plan : SchemaPlan) where
  have_once : (i : ℕ) (os : List ObjectPlan) (rules others : List (List Rule)) → HaveFormulas plan i os rules → HaveFormulas plan i os others → others ≡ rules
  have_once i [] rules others h k = k ∙ sym h
  have_once i (o ∷ os) [] others h k = absurd h
  have_once i (o ∷ os) (rs ∷ rules) [] h k = absurd k
  have_once i (o ∷ os) (rs ∷ rules) (ss ∷ others) h k =
      ap₂ (λ x l. x ∷ l) (formulas_once (object_of plan i o) o.rules rs ss h.0 k.0) (have_once (i + 1) os rules others h.1 k.1)

  pub rule_fault_once : (i : ℕ) (os : List ObjectPlan) (fault other : Fault) → IsRuleFault plan i os fault → IsRuleFault plan i os other → other ≡ fault
  rule_fault_once i [] fault other h k = absurd h
  rule_fault_once i (o ∷ os) fault other (inl (bad, h, is)) (inl (worse, k, at)) = at ∙ ap (bad_rule o) (bad_once (object_of plan i o) o.rules bad worse h k) ∙ sym is
  rule_fault_once i (o ∷ os) fault other (inl (bad, h, is)) (inr ((rs, f), k)) = absurd (bad_or_formulas (object_of plan i o) o.rules bad rs h f)
  rule_fault_once i (o ∷ os) fault other (inr ((rs, f), h)) (inl (bad, k, is)) = absurd (bad_or_formulas (object_of plan i o) o.rules bad rs k f)
  rule_fault_once i (o ∷ os) fault other (inr (f, h)) (inr (g, k)) = rule_fault_once (i + 1) os fault other h k

  pub rule_or_fault : (i : ℕ) (os : List ObjectPlan) (rules : List (List Rule)) (fault : Fault) → HaveFormulas plan i os rules → IsRuleFault plan i os fault → ⊥
  rule_or_fault i [] rules fault h k = k
  rule_or_fault i (o ∷ os) [] fault h k = h
  rule_or_fault i (o ∷ os) (rs ∷ rules) fault h (inl (bad, k, is)) = bad_or_formulas (object_of plan i o) o.rules bad rs k h.0
  rule_or_fault i (o ∷ os) (rs ∷ rules) fault h (inr (g, k)) = rule_or_fault (i + 1) os rules fault h.1 k

  -- ---- schemas

  pub deployed_once : (schema other : Schema) → IsDeployed plan schema → IsDeployed plan other → other ≡ schema
  deployed_once schema other h k =
      k.said ∙ ap (λ rules. with_rules (schema_of plan) (rules ++ [] ∷ [])) (have_once 0 plan.objects h.rules k.rules h.read k.read) ∙ sym h.said
