-- Rules that are read one after the other.
use Rattle.std.proofs.Common.{arith, ◌≡◌, ◌<◌, ◌+◌, ℕ, zero, suc, IsTrue, eqb, eq-eqb, List, [], ◌∷◌, ◌++◌, length, map, take, drop, get_or, slice_get, Result, Ok, Err, IfOk, IfErr, Some, None, inl, inr, refl, sym, ap, ap₂, ◌∙◌, subst}
use Rattle.std.specs.List.{list_all}
use Rattle.std.proofs.lemmas.Bool.{and_from}
use Rattle.std.proofs.lemmas.List.{take_more, take-append-drop, length-take, length-append}
use Rattle.std.proofs.Math.Seq.{drop-cons}
use Rattle.schema_plans.specs.declared.plan_fault.SchemaFault.{SchemaFault}
use Rattle.schema_plans.specs.declared.plan_fault.SchemaFault.TheVariants.{Wrong, NoMemory}
use Rattle.schema_plans.specs.declared.plan.SchemaPlan.{SchemaPlan}
use Rattle.schema_plans.specs.declared.plan.ObjectPlan.{ObjectPlan}
use Rattle.schema_plans.specs.declared.plan.RulePlan.{RulePlan}
use Rattle.apex_schema.specs.declared.rule.Rule.{Rule}
use Rattle.apex_schema.specs.declared.schema.Object.{Object}
use Rattle.fault_words.specs.declared.fault.Fault.{Fault}
use Rattle.schema_plans.specs.Formulas.{rule_fits, fits, all_fit}
use Rattle.schema_plans.specs.Plans.{schema_fault}
use Rattle.schema_plans.specs.Schemas.{numbered, object_of, row_share, head_of, schema_of}
use Rattle.apex_schema.specs.declared.schema.Schema.{Schema}
use Rattle.formula_rules.specs.Grammar.{IsFormula}
use Rattle.tenant_schema.specs.Deployed.{AreFormulas, IsFirstBad, HaveFormulas, bad_rule, IsRuleFault, Deploys}
use Rattle.tenant_schema.specs.Answers.{IsTold, AreOnly, HaveOnly, NotOfObject, NoFormulas}
use Rattle.formula_rules.specs.declared.fault.RuleFault.{RuleFault}
use Rattle.formula_rules.specs.declared.fault.RuleFault.TheVariants.{BadRule, NoMemory as NoMemoryFor}

-- ---- one rule

-- what is said of a text is said of the rule that has it
pub told : (o : Object) (p : RulePlan) (text : List ℕ) (answer : Result Rule RuleFault) → text ≡ p.when → IfOk answer (λ r. IsFormula o text r) → IfOk answer (λ r. (other : Rule) → IsFormula o text other → other ≡ r)
    → IfErr answer (λ fault. fault ≡ BadRule → (r : Rule) → IsFormula o text r → ⊥) → IsTold o p answer
told o p text (Ok r) e a b c = (subst (λ t. IsFormula o t r) e a, λ other f. b other (subst (λ t. IsFormula o t other) (sym e) f))
told o p text (Err BadRule) e a b c = λ r f. c refl r (subst (λ t. IsFormula o t r) (sym e) f)
told o p text (Err NoMemoryFor) e a b c = tt

-- ---- the rules of one object

module _ (o : Object) where
  are_more : (ps : List RulePlan) (rules : List Rule) (p : RulePlan) (r : Rule) → AreFormulas o ps rules → IsFormula o p.when r → AreFormulas o (ps ++ p ∷ []) (rules ++ r ∷ [])
  are_more [] rules p r e f = subst (λ l. AreFormulas o (p ∷ []) (l ++ r ∷ [])) (sym e) (f, refl)
  are_more (q ∷ ps) [] p r h f = absurd h
  are_more (q ∷ ps) (s ∷ rules) p r h f = (h.0, are_more ps rules p r h.1 f)

  -- the last of them
  are_last : (ps : List RulePlan) (rules : List Rule) (p : RulePlan) → AreFormulas o (ps ++ p ∷ []) rules → (front : List Rule) × (r : Rule) × (rules ≡ front ++ r ∷ []) × AreFormulas o ps front × IsFormula o p.when r
  are_last [] [] p h = absurd h
  are_last [] (r ∷ rules) p h = ([], r, ap (λ l. r ∷ l) h.1, refl, h.0)
  are_last (q ∷ ps) [] p h = absurd h
  are_last (q ∷ ps) (s ∷ rules) p h =
      let l = are_last ps rules p h.1 in (s ∷ l.0, l.1, ap (λ x. s ∷ x) l.2, (h.0, l.3), l.4)

  pub none_only : AreOnly o [] []
  none_only = (refl, λ other h. h)

  pub only_more : (ps : List RulePlan) (rules : List Rule) (p : RulePlan) (r : Rule) → AreOnly o ps rules → IsFormula o p.when r → ((s : Rule) → IsFormula o p.when s → s ≡ r) → AreOnly o (ps ++ p ∷ []) (rules ++ r ∷ [])
  only_more ps rules p r h f one = (
    are_more ps rules p r h.0 f,
    λ other k.
        let l = are_last ps other p k in l.2 ∙ ap₂ (λ x y. x ++ y ∷ []) (h.1 l.0 l.3) (one l.1 l.4),
  )

  pub bad_there : (ps : List RulePlan) (rules : List Rule) (p : RulePlan) (rest : List RulePlan) → AreFormulas o ps rules → ((r : Rule) → IsFormula o p.when r → ⊥) → IsFirstBad o (ps ++ p ∷ rest) p
  bad_there [] rules p rest h bad = inl (bad, refl)
  bad_there (q ∷ ps) [] p rest h bad = absurd h
  bad_there (q ∷ ps) (s ∷ rules) p rest h bad = inr ((s, h.0), bad_there ps rules p rest h.1 bad)

  -- where a rule is bad, not all are formulas
  pub bad_none : (ps : List RulePlan) (bad : RulePlan) → IsFirstBad o ps bad → (rules : List Rule) → AreFormulas o ps rules → ⊥
  bad_none [] bad b rules h = b
  bad_none (p ∷ ps) bad b [] h = h
  bad_none (p ∷ ps) bad (inl b) (r ∷ rules) h = b.0 r h.0
  bad_none (p ∷ ps) bad (inr b) (r ∷ rules) h = bad_none ps bad b.1 rules h.1

  fits_of : (ps : List RulePlan) (rules : List Rule) → AreFormulas o ps rules → (length rules ≡ length (map head_of ps)) × IsTrue (list_all (rule_fits o.fields) rules)
  fits_of [] rules e = (ap length e, ap (λ l. list_all (rule_fits o.fields) l) e)
  fits_of (p ∷ ps) [] h = absurd h
  fits_of (p ∷ ps) (r ∷ rules) h = let f = fits_of ps rules h.1 in (ap suc f.0, and_from (rule_fits o.fields r) (list_all (rule_fits o.fields) rules) h.0.fits f.1)

-- ---- all objects

module _ (plan : SchemaPlan) where
  have_more : (i : ℕ) (os : List ObjectPlan) (rules : List (List Rule)) (o : ObjectPlan) (rs : List Rule) → HaveFormulas plan i os rules → AreFormulas (object_of plan (i + length os) o) o.rules rs
      → HaveFormulas plan i (os ++ o ∷ []) (rules ++ rs ∷ [])
  have_more i [] rules o rs e f =
      let at : i + 0 ≡ i = omega arith in
      subst (λ l. HaveFormulas plan i (o ∷ []) (l ++ rs ∷ [])) (sym e) (subst (λ n. AreFormulas (object_of plan n o) o.rules rs) at f, refl)
  have_more i (q ∷ os) [] o rs h f = absurd h
  have_more i (q ∷ os) (s ∷ rules) o rs h f =
      let at : i + length (q ∷ os) ≡ i + 1 + length os = omega arith in
      (h.0, have_more (i + 1) os rules o rs h.1 (subst (λ n. AreFormulas (object_of plan n o) o.rules rs) at f))

  have_last : (i : ℕ) (os : List ObjectPlan) (rules : List (List Rule)) (o : ObjectPlan) → HaveFormulas plan i (os ++ o ∷ []) rules
      → (front : List (List Rule)) × (rs : List Rule) × (rules ≡ front ++ rs ∷ []) × HaveFormulas plan i os front × AreFormulas (object_of plan (i + length os) o) o.rules rs
  have_last i [] [] o h = absurd h
  have_last i [] (rs ∷ rules) o h =
      let at : i ≡ i + 0 = omega arith in ([], rs, ap (λ l. rs ∷ l) h.1, refl, subst (λ n. AreFormulas (object_of plan n o) o.rules rs) at h.0)
  have_last i (q ∷ os) [] o h = absurd h
  have_last i (q ∷ os) (s ∷ rules) o h =
      let l = have_last (i + 1) os rules o h.1 in
      let at : i + 1 + length os ≡ i + length (q ∷ os) = omega arith in
      (s ∷ l.0, l.1, ap (λ x. s ∷ x) l.2, (h.0, l.3), subst (λ n. AreFormulas (object_of plan n o) o.rules l.1) at l.4)

  -- these planned objects have these formulas and no others
  abbrev pub HaveOnlyOf : List ObjectPlan → List (List Rule) → Type 0
  HaveOnlyOf os rules = HaveFormulas plan 0 os rules × ((other : List (List Rule)) → HaveFormulas plan 0 os other → other ≡ rules)

  pub nothing_yet : HaveOnlyOf [] []
  nothing_yet = (refl, λ other h. h)

  pub object_more : (os : List ObjectPlan) (rules : List (List Rule)) (o : ObjectPlan) (rs : List Rule) → HaveOnlyOf os rules → AreOnly (object_of plan (length os) o) o.rules rs → HaveOnlyOf (os ++ o ∷ []) (rules ++ rs ∷ [])
  object_more os rules o rs h f =
      let at : length os ≡ 0 + length os = omega arith in
      let back : 0 + length os ≡ length os = omega arith in (
        have_more 0 os rules o rs h.0 (subst (λ n. AreFormulas (object_of plan n o) o.rules rs) at f.0),
        λ other k.
            let l = have_last 0 os other o k in
            l.2 ∙ ap₂ (λ x y. x ++ y ∷ []) (h.1 l.0 l.3) (f.1 l.1 (subst (λ n. AreFormulas (object_of plan n o) o.rules l.1) back l.4)),
      )

  fault_from : (i : ℕ) (os : List ObjectPlan) (rules : List (List Rule)) (o : ObjectPlan) (rest : List ObjectPlan) (bad : RulePlan) (fault : Fault) → HaveFormulas plan i os rules
      → IsFirstBad (object_of plan (i + length os) o) o.rules bad → fault ≡ bad_rule o bad → IsRuleFault plan i (os ++ o ∷ rest) fault
  fault_from i [] rules o rest bad fault h b is =
      let at : i + 0 ≡ i = omega arith in inl (bad, subst (λ n. IsFirstBad (object_of plan n o) o.rules bad) at b, is)
  fault_from i (q ∷ os) [] o rest bad fault h b is = absurd h
  fault_from i (q ∷ os) (s ∷ rules) o rest bad fault h b is =
      let at : i + length (q ∷ os) ≡ i + 1 + length os = omega arith in
      inr ((s, h.0), fault_from (i + 1) os rules o rest bad fault h.1 (subst (λ n. IsFirstBad (object_of plan n o) o.rules bad) at b) is)

  pub fault_there : (os : List ObjectPlan) (rules : List (List Rule)) (o : ObjectPlan) (rest : List ObjectPlan) (bad : RulePlan) (fault : Fault) → HaveOnlyOf os rules
      → IsFirstBad (object_of plan (length os) o) o.rules bad → fault ≡ bad_rule o bad → IsRuleFault plan 0 (os ++ o ∷ rest) fault
  fault_there os rules o rest bad fault h b is =
      let at : length os ≡ 0 + length os = omega arith in fault_from 0 os rules o rest bad fault h.0 (subst (λ n. IsFirstBad (object_of plan n o) o.rules bad) at b) is

  pub fault_none : (i : ℕ) (os : List ObjectPlan) (fault : Fault) → IsRuleFault plan i os fault → (rules : List (List Rule)) → HaveFormulas plan i os rules → ⊥
  fault_none i [] fault b rules h = b
  fault_none i (o ∷ os) fault b [] h = h
  fault_none i (o ∷ os) fault (inl b) (rs ∷ rules) h = bad_none (object_of plan i o) o.rules b.0 b.1 rs h.0
  fault_none i (o ∷ os) fault (inr b) (rs ∷ rules) h = fault_none (i + 1) os fault b.1 rules h.1

  -- formulas of all planned objects and none of RowShare fit the schema's objects
  pub fit_all : (i : ℕ) (os : List ObjectPlan) (rules : List (List Rule)) → HaveFormulas plan i os rules → IsTrue (all_fit (numbered (object_of plan) i os ++ row_share ∷ []) (rules ++ [] ∷ []))
  fit_all i [] rules e = ap (λ l. all_fit (row_share ∷ []) (l ++ [] ∷ [])) e
  fit_all i (o ∷ os) [] h = absurd h
  fit_all i (o ∷ os) (rs ∷ rules) h =
      let f = fits_of (object_of plan i o) o.rules rs h.0 in
      and_from (fits (object_of plan i o) rs) (all_fit (numbered (object_of plan) (i + 1) os ++ row_share ∷ []) (rules ++ [] ∷ []))
      (and_from (eqb (length rs) (length (map head_of o.rules))) (list_all (rule_fits (object_of plan i o).fields) rs) (eq-eqb (length rs) (length (map head_of o.rules)) f.0) f.1)
      (fit_all (i + 1) os rules h.1)

-- the object at a place of those that are made
pub made_at : {A B : Type 0} (f : ℕ → A → B) (start : ℕ) (xs : List A) (more : List B) (i : ℕ) (d : A) (e : B) → i < length xs → get_or (numbered f start xs ++ more) i e ≡ f (start + i) (get_or xs i d)
made_at f start [] more i d e lt = absurd (omega arith)
made_at f start (x ∷ xs) more zero d e lt = ap (λ n. f n x) (let z : start ≡ start + 0 = omega arith in z)
made_at f start (x ∷ xs) more (suc i) d e lt = made_at f (start + 1) xs more i d e (omega arith) ∙ ap (λ n. f n (get_or xs i d)) (let z : start + 1 + i ≡ start + suc i = omega arith in z)

pub numbered_long : {A B : Type 0} (f : ℕ → A → B) (start : ℕ) (xs : List A) → length (numbered f start xs) ≡ length xs
numbered_long f start [] = refl
numbered_long f start (x ∷ xs) = ap suc (numbered_long f (start + 1) xs)

-- ---- one more, by its place

split_at : {A : Type 0} (xs : List A) (i : ℕ) (x : A) → i < length xs → x ≡ get_or xs i x → xs ≡ take i xs ++ x ∷ drop (suc i) xs
split_at xs i x lt is = sym (take-append-drop i xs) ∙ ap (λ l. take i xs ++ l) (drop-cons xs i x lt ∙ ap (λ y. y ∷ drop (suc i) xs) (sym is))

next : {A : Type 0} (xs : List A) (i : ℕ) (x : A) → i < length xs → x ≡ get_or xs i x → take (i + 1) xs ≡ take i xs ++ x ∷ []
next xs i x lt is = take_more xs i x lt ∙ ap (λ y. take i xs ++ y ∷ []) (sym is)

there : {A : Type 0} (xs : List A) (i : ℕ) (x : A) → i < length xs → x ≡ get_or xs i x → slice_get xs i ≡ Some x
there [] i x lt is = absurd (omega arith)
there (y ∷ xs) zero x lt is = ap Some (sym is)
there (y ∷ xs) (suc i) x lt is = there xs i x (omega arith) is

taken_long : {A : Type 0} (xs : List A) (i : ℕ) → i < length xs → length (take i xs) ≡ i
taken_long xs i lt = let l = length-take i xs in omega arith

pub rule_step : (o : Object) (ps : List RulePlan) (i : ℕ) (p : RulePlan) (rules : List Rule) (r : Rule) → i < length ps → p ≡ get_or ps i p → AreOnly o (take i ps) rules → IsFormula o p.when r
    → ((s : Rule) → IsFormula o p.when s → s ≡ r) → AreOnly o (take (i + 1) ps) (rules ++ r ∷ [])
rule_step o ps i p rules r lt is h f one = subst (λ l. AreOnly o l (rules ++ r ∷ [])) (sym (next ps i p lt is)) (only_more o (take i ps) rules p r h f one)

pub bad_step : (o : Object) (ps : List RulePlan) (i : ℕ) (p : RulePlan) (rules : List Rule) → i < length ps → p ≡ get_or ps i p → AreOnly o (take i ps) rules → ((r : Rule) → IsFormula o p.when r → ⊥)
    → (bad : RulePlan) × (slice_get ps i ≡ Some bad) × IsFirstBad o ps bad
bad_step o ps i p rules lt is h bad = (p, there ps i p lt is, subst (λ l. IsFirstBad o l p) (sym (split_at ps i p lt is)) (bad_there o (take i ps) rules p (drop (suc i) ps) h.0 bad))

module _ (plan : SchemaPlan) (objects : List Object) (made : objects ≡ numbered (object_of plan) 0 plan.objects ++ row_share ∷ []) (i : ℕ) (lt : i < length plan.objects) where
  pub within : i < length objects
  within =
      let a = ap length made in
      let b = length-append (numbered (object_of plan) 0 plan.objects) (row_share ∷ []) in
      let c = numbered_long (object_of plan) 0 plan.objects in omega arith

  module _ (p : ObjectPlan) (is : p ≡ get_or plan.objects i p) (o : Object) (at : o ≡ get_or objects i o) where
    object_is : o ≡ object_of plan (length (take i plan.objects)) p
    object_is =
        let n : 0 + i ≡ length (take i plan.objects) = let l = taken_long plan.objects i lt in omega arith in
        at ∙ ap (λ l. get_or l i o) made ∙ made_at (object_of plan) 0 plan.objects (row_share ∷ []) i p o lt ∙ ap₂ (λ k q. object_of plan k q) n (sym is)

    pub object_step : (rules : List (List Rule)) (rs : List Rule) → HaveOnlyOf plan (take i plan.objects) rules → AreOnly o p.rules rs → HaveOnlyOf plan (take (i + 1) plan.objects) (rules ++ rs ∷ [])
    object_step rules rs h f =
        subst (λ l. HaveOnlyOf plan l (rules ++ rs ∷ [])) (sym (next plan.objects i p lt is)) (object_more plan (take i plan.objects) rules p rs h (subst (λ x. AreOnly x p.rules rs) object_is f))

    pub fault_step : (rules : List (List Rule)) (fault : SchemaFault) → HaveOnlyOf plan (take i plan.objects) rules → NotOfObject o p fault → NoFormulas plan fault
    fault_step rules (Wrong fault) h (bad, first, of) =
        subst (λ l. IsRuleFault plan 0 l fault) (sym (split_at plan.objects i p lt is))
        (fault_there plan (take i plan.objects) rules p (drop (suc i) plan.objects) bad fault h (subst (λ x. IsFirstBad x p.rules bad) object_is first) of)
    fault_step rules NoMemory h f = tt

-- ---- a schema

module _ (plan : SchemaPlan) (schema : Schema) (faultless : schema_fault plan ≡ None) (made : schema ≡ schema_of plan) where
  pub objects_made : schema.objects ≡ numbered (object_of plan) 0 plan.objects ++ row_share ∷ []
  objects_made = ap (λ (s : Schema). s.objects) made

  module _ (rules : List (List Rule)) (h : HaveOnly plan rules) where
    pub all_fits : IsTrue (all_fit schema.objects (rules ++ [] ∷ []))
    all_fits = subst (λ os. IsTrue (all_fit os (rules ++ [] ∷ []))) (sym objects_made) (fit_all plan 0 plan.objects rules h.0)

  pub rule_fails : (fault : SchemaFault) → NoFormulas plan fault → Deploys plan (Err fault)
  rule_fails (Wrong fault) h = (inr (faultless, h), λ other d. fault_none plan 0 plan.objects fault h d.rules d.read)
  rule_fails NoMemory h = tt
