-- Formulas that are set one object after the other, and what stays valid.
use Rattle.std.proofs.Common.{arith, ◌≡◌, ◌+◌, ◌<◌, ◌≤◌, ℕ, zero, suc, ◌&&◌, ◌||◌, Bool, true, false, IsTrue, List, [], ◌∷◌, ◌++◌, length, map, get_or, None, refl, sym, ap, ◌∙◌, subst}
use Rattle.std.proofs.Math.ListN.{set}
use Rattle.std.specs.List.{list_all}
use Rattle.apex_schema.specs.declared.rule.Rule.{Rule}
use Rattle.apex_schema.specs.declared.schema.Object.{Object}
use Rattle.apex_schema.specs.declared.schema.Schema.{Schema}
use Rattle.schema_plans.specs.declared.plan.SchemaPlan.{SchemaPlan}
use Rattle.schema_plans.specs.declared.plan.ObjectPlan.{ObjectPlan}
use Rattle.schema_plans.specs.Plans.{is_empty, schema_fault}
use Rattle.schema_plans.specs.Schemas.{numbered, object_of, row_share, schema_of, user_of}
use Rattle.schema_plans.specs.Formulas.{fits, all_fit}
use Rattle.schema_plans.specs.Validity.{with_formulas, bare, with_each, set_formulas, with_rules, is_furnished, IsValid}

each_none : (os : List Object) → with_each os [] ≡ os
each_none [] = refl
each_none (o ∷ os) = refl

pub set_is : (os : List Object) (at : ℕ) (o : Object) (rs : List Rule) → at < length os → o ≡ get_or os at o → set os at (with_formulas o rs) ≡ set_formulas os at rs
set_is [] at o rs h e = absurd (omega arith)
set_is (p ∷ os) zero o rs h e = ap (λ x. with_formulas x rs ∷ os) e
set_is (p ∷ os) (suc at) o rs h e = ap (λ l. p ∷ l) (set_is os at o rs (omega arith) e)

pub each_more : (os : List Object) (done : List (List Rule)) (rs : List Rule) → length done < length os → set_formulas (with_each os done) (length done) rs ≡ with_each os (done ++ rs ∷ [])
each_more [] done rs h = absurd (omega arith)
each_more (o ∷ os) [] rs h = ap (λ l. with_formulas o rs ∷ l) (sym (each_none os))
each_more (o ∷ os) (d ∷ done) rs h = ap (λ l. with_formulas o d ∷ l) (each_more os done rs (omega arith))

pub each_long : (os : List Object) (done : List (List Rule)) → length (with_each os done) ≡ length os
each_long [] [] = refl
each_long [] (d ∷ done) = refl
each_long (o ∷ os) [] = refl
each_long (o ∷ os) (d ∷ done) = ap suc (each_long os done)

bare_each : (os : List Object) (rules : List (List Rule)) → map bare (with_each os rules) ≡ map bare os
bare_each [] [] = refl
bare_each [] (rs ∷ rules) = refl
bare_each (o ∷ os) [] = refl
bare_each (o ∷ os) (rs ∷ rules) = ap (λ l. bare o ∷ l) (bare_each os rules)

second_of : (a b : Bool) → IsTrue (a && b) → IsTrue b
second_of true b h = h
second_of false b h = absurd (cc)

first_of_two : (a b : Bool) → IsTrue (a && b) → IsTrue a
first_of_two true b h = refl
first_of_two false b h = absurd (cc)

both : (a b : Bool) → IsTrue a → IsTrue b → IsTrue (a && b)
both true b h k = k
both false b h k = absurd (cc)

right : (a b : Bool) → IsTrue b → IsTrue (a || b)
right true b h = refl
right false b h = h

furnished_each : (os : List Object) (rules : List (List Rule)) → IsTrue (all_fit os rules) → IsTrue (list_all is_furnished (with_each os rules))
furnished_each [] [] h = refl
furnished_each [] (rs ∷ rules) h = absurd (cc)
furnished_each (o ∷ os) [] h = absurd (cc)
furnished_each (o ∷ os) (rs ∷ rules) h =
    both (is_furnished (with_formulas o rs)) (list_all is_furnished (with_each os rules)) (right (is_empty rs) (fits o rs) (first_of_two (fits o rs) (all_fit os rules) h))
    (furnished_each os rules (second_of (fits o rs) (all_fit os rules) h))

pub with_rules_valid : (s : Schema) (rules : List (List Rule)) → IsTrue (all_fit s.objects rules) → IsValid s → IsValid (with_rules s rules)
with_rules_valid s rules h v = record {
  plan = v.plan;
  faultless = v.faultless;
  said = ap (λ os. record s { objects = os }) (bare_each s.objects rules) ∙ v.said;
  furnished = furnished_each s.objects rules h;
  few_users = v.few_users;
}

-- ---- a schema that is built has no formulas

bare_made : (plan : SchemaPlan) (i : ℕ) (os : List ObjectPlan) → map bare (numbered (object_of plan) i os ++ row_share ∷ []) ≡ numbered (object_of plan) i os ++ row_share ∷ []
bare_made plan i [] = refl
bare_made plan i (o ∷ os) = ap (λ l. object_of plan i o ∷ l) (bare_made plan (i + 1) os)

furnished_made : (plan : SchemaPlan) (i : ℕ) (os : List ObjectPlan) → IsTrue (list_all is_furnished (numbered (object_of plan) i os ++ row_share ∷ []))
furnished_made plan i [] = refl
furnished_made plan i (o ∷ os) = furnished_made plan (i + 1) os

pub map_long : {A B : Type 0} (f : A → B) (xs : List A) → length (map f xs) ≡ length xs
map_long f [] = refl
map_long f (y ∷ xs) = ap suc (map_long f xs)

pub built_valid : (plan : SchemaPlan) (s : Schema) → length plan.users ≤ 1000000 → (schema_fault plan ≡ None) × (s ≡ schema_of plan) → IsValid s
built_valid plan s few h = subst IsValid (sym h.1) (record {
  plan = plan;
  faultless = h.0;
  said = ap (λ os. record (schema_of plan) { objects = os }) (bare_made plan 0 plan.objects);
  furnished = furnished_made plan 0 plan.objects;
  few_users = subst (λ n. n ≤ 1000000) (sym (map_long (user_of plan) plan.users)) few;
})

-- lists that fit are as many as the objects
pub fit_long : (os : List Object) (rules : List (List Rule)) → IsTrue (all_fit os rules) → length os ≡ length rules
fit_long [] [] h = refl
fit_long [] (rs ∷ rules) h = absurd (cc)
fit_long (o ∷ os) [] h = absurd (cc)
fit_long (o ∷ os) (rs ∷ rules) h = ap suc (fit_long os rules (second_of (fits o rs) (all_fit os rules) h))
