-- The objects of a schema that is deployed have prefixes of three letters or digits.
use Rattle.std.proofs.Common.{arith, ◌≡◌, refl, sym, subst, ℕ, suc, ◌+◌, ◌≤◌, ◌⊎◌, inl, inr, Bool, true, false, List, [], ◌∷◌, ◌++◌, length, Option, None, Some}
use Rattle.std.specs.Prelude.{◌&&◌, ◌||◌, not, nat_lt, eqb, All, codes, bytes_eq, take}
use Rattle.std.specs.List.{list_all}
use Rattle.std.proofs.lemmas.Bool.{and_parts, or_cases, or_parts, ltb-true, eqb-true}
use Rattle.std.proofs.lemmas.List.{length-map}
use Rattle.std.proofs.lemmas.List.Elements.{All-cons, All-nil}
use Rattle.apex_num.specs.Ids.{IsAlphanumeric}
use Rattle.schema_plans.specs.declared.plan.ObjectPlan.{ObjectPlan}
use Rattle.schema_plans.specs.declared.plan.SchemaPlan.{SchemaPlan}
use Rattle.fault_words.specs.declared.fault.FaultWord.{FaultWord}
use Rattle.fault_words.specs.declared.fault.FaultWord.TheVariants.{Duplicate, BadName, BadPrefix}
use Rattle.apex_schema.specs.declared.rule.Rule.{Rule}
use Rattle.apex_schema.specs.declared.schema.Object.{Object}
use Rattle.apex_schema.specs.declared.schema.Schema.{Schema}
use Rattle.apex_text.specs.Fold.{folded}
use Rattle.schema_names.specs.Names.{is_letter, is_digit, has, is_bad_name}
use Rattle.schema_plans.specs.Plans.{or_later, first_of, when, standing, is_taken, object_names, row_share_name, is_prefix, prefixes, is_bad_prefix, object_word, object_fault, people_fault, data_fault, all_fields_fault, rules_fault}
use Rattle.schema_plans.specs.Schemas.{numbered, object_of, row_share, schema_of, user_of}
use Rattle.schema_plans.specs.Validity.{with_each}
use Rattle.record_ids.specs.Ids.{IsPrefix, most}
use Rattle.save_stages.specs.Does.{AllPrefixed, IsSound}
use Rattle.tenant_schema.specs.Deployed.{IsDeployed}

-- ---- letters and digits

between : (low high b : ℕ) → (nat_lt low b && nat_lt b high) ≡ true → (suc low ≤ b) × (suc b ≤ high)
between low high b e =
    let both = and_parts (nat_lt low b) (nat_lt b high) e in
    (ltb-true low b both.0, ltb-true b high both.1)

capital_or_small : (b : ℕ) → (nat_lt 64 b && nat_lt b 91) ≡ true ⊎ (nat_lt 96 b && nat_lt b 123) ≡ true → IsAlphanumeric b
capital_or_small b (inl e) = let w = between 64 91 b e in inr (inl (omega (arith, w.0), omega (arith, w.1)))
capital_or_small b (inr e) = let w = between 96 123 b e in inr (inr (omega (arith, w.0), omega (arith, w.1)))

letter_or_digit : (b : ℕ) → is_letter b ≡ true ⊎ is_digit b ≡ true → IsAlphanumeric b
letter_or_digit b (inl e) = capital_or_small b (or_cases (nat_lt 64 b && nat_lt b 91) (nat_lt 96 b && nat_lt b 123) e)
letter_or_digit b (inr e) = let w = between 47 58 b e in inl (omega (arith, w.0), omega (arith, w.1))

all_alphanumeric : (bs : List ℕ) → list_all (λ b. is_letter b || is_digit b) bs ≡ true → All IsAlphanumeric bs
all_alphanumeric [] e = All-nil IsAlphanumeric
all_alphanumeric (b ∷ bs) e =
    let both = and_parts (is_letter b || is_digit b) (list_all (λ c. is_letter c || is_digit c) bs) e in
    All-cons IsAlphanumeric b bs (letter_or_digit b (or_cases (is_letter b) (is_digit b) both.0)) (all_alphanumeric bs both.1)

prefix_of : (prefix : List ℕ) → is_prefix prefix ≡ true → IsPrefix prefix
prefix_of prefix e =
    let front = and_parts (eqb (length prefix) 3 && list_all (λ b. is_letter b || is_digit b) prefix) (not (has (codes "005" ∷ codes "00r" ∷ []) prefix)) e in
    let both = and_parts (eqb (length prefix) 3) (list_all (λ b. is_letter b || is_digit b) prefix) front.0 in
    (eqb-true (length prefix) 3 both.0, all_alphanumeric prefix both.1)

digit : (b : ℕ) → 48 ≤ b → b ≤ 57 → IsAlphanumeric b
digit b low high = inl (low, high)

small : (b : ℕ) → 97 ≤ b → b ≤ 122 → IsAlphanumeric b
small b low high = inr (inr (low, high))

-- that of RowShare
share_prefix : IsPrefix (codes "00r")
share_prefix = (
  refl,
  All-cons IsAlphanumeric 48 (48 ∷ 114 ∷ []) (digit 48 (omega arith) (omega arith))
      (All-cons IsAlphanumeric 48 (114 ∷ []) (digit 48 (omega arith) (omega arith))
      (All-cons IsAlphanumeric 114 [] (small 114 (omega arith) (omega arith)) (All-nil IsAlphanumeric))),
)

-- ---- a plan without fault

none_first : {A : Type 0} (a b : Option A) → or_later a b ≡ None → a ≡ None
none_first None b e = refl
none_first (Some a) b e = cc

none_later : {A : Type 0} (a b : Option A) → or_later a b ≡ None → b ≡ None
none_later None b e = e
none_later (Some a) b e = cc

none_standing : (name : List ℕ) (w : Option FaultWord) → standing name w ≡ None → w ≡ None
none_standing name None e = refl
none_standing name (Some w) e = cc

not_when : (b : Bool) (w : FaultWord) → when b w ≡ None → b ≡ false
not_when true w e = cc
not_when false w e = refl

not_false : (b : Bool) → not b ≡ false → b ≡ true
not_false true e = refl
not_false false e = cc

object_prefix : (plan : SchemaPlan) (i : ℕ) (o : ObjectPlan) → object_fault plan i o ≡ None → IsPrefix o.prefix
object_prefix plan i o e =
    let word = none_standing o.name (object_word plan i o) e in
    let behind = none_later (when (is_taken (object_names plan) i o.name || bytes_eq (folded o.name) row_share_name) Duplicate) (or_later (when (is_bad_name o.name) BadName) (when (is_bad_prefix plan i o.prefix) BadPrefix)) word in
    let last = none_later (when (is_bad_name o.name) BadName) (when (is_bad_prefix plan i o.prefix) BadPrefix) behind in
    let good = not_when (is_bad_prefix plan i o.prefix) BadPrefix last in
    let parts = or_parts (not (is_prefix o.prefix)) (has (take i (prefixes plan)) o.prefix) good in
    prefix_of o.prefix (not_false (is_prefix o.prefix) parts.0)

planned : (plan : SchemaPlan) (i : ℕ) (os : List ObjectPlan) → first_of (object_fault plan) i os ≡ None → AllPrefixed (numbered (object_of plan) i os)
planned plan i [] e = tt
planned plan i (o ∷ os) e = (
  object_prefix plan i o (none_first (object_fault plan i o) (first_of (object_fault plan) (i + 1) os) e),
  planned plan (i + 1) os (none_later (object_fault plan i o) (first_of (object_fault plan) (i + 1) os) e),
)

one_more : (os : List Object) (o : Object) → AllPrefixed os → IsPrefix o.prefix → AllPrefixed (os ++ o ∷ [])
one_more [] o h p = (p, tt)
one_more (q ∷ os) o h p = (h.0, one_more os o h.1 p)

formulas : (os : List Object) (rules : List (List Rule)) → AllPrefixed os → AllPrefixed (with_each os rules)
formulas [] [] h = tt
formulas [] (rs ∷ rules) h = tt
formulas (o ∷ os) [] h = h
formulas (o ∷ os) (rs ∷ rules) h = (h.0, formulas os rules h.1)

pub sound : (plan : SchemaPlan) (schema : Schema) → IsDeployed plan schema → length plan.users ≤ 1000000 → IsSound schema
sound plan schema d users =
    let fields = none_later (people_fault plan) (data_fault plan) d.faultless in
    let objects = none_first (first_of (object_fault plan) 0 plan.objects) (or_later (all_fields_fault plan 0 [] plan.objects) (first_of rules_fault 0 plan.objects)) fields in
    let all = one_more (numbered (object_of plan) 0 plan.objects) row_share (planned plan 0 plan.objects objects) share_prefix in
    let many : most ≡ 14776336 = refl in
    let same = length-map plan.users (user_of plan) in
    subst IsSound (sym d.said) (record {
      prefixes = formulas (schema_of plan).objects (d.rules ++ [] ∷ []) all;
      users = omega (arith, users, many, same);
    })
