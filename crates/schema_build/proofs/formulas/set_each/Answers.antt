use Rattle.std.proofs.Common.{◌≡◌, ◌<◌, ◌+◌, ◌∷◌, ◌++◌, ℕ, suc, List, [], length, map, append_assoc, length-append, arith, sym, ap, ◌∙◌, subst}
use Rattle.std.proofs.lemmas.List.{length_push}
use Rattle.apex_schema.specs.declared.rule.Rule.{Rule}
use Rattle.apex_schema.specs.declared.schema.Object.{Object}
use Rattle.schema_plans.specs.Validity.{set_formulas, with_each}
use Rattle.schema_build.proofs.RuleSteps.{each_more, each_long, map_long}
use Rattle.schema_build.proofs.formulas.set_each.Goals as goal

map_push : {A B : Type 0} (f : A → B) (xs : List A) (x : A) → map f (xs ++ x ∷ []) ≡ map f xs ++ f x ∷ []
map_push f [] x = Rattle.std.proofs.Common.refl
map_push f (y ∷ xs) x = ap (λ l. f y ∷ l) (map_push f xs x)

one_more : {A : Type 0} (f : A → List Rule) (os now after : List Object) (done : List A) (x : A) (at : ℕ) → at ≡ length done → at < length now → now ≡ with_each os (map f done)
    → after ≡ set_formulas now at (f x) → after ≡ with_each os (map f (done ++ x ∷ []))
one_more f os now after done x at e h is new =
    let long : length now ≡ length os = ap length is ∙ each_long os (map f done) in
    let size : length (map f done) ≡ length done = map_long f done in
    new ∙ ap (λ l. set_formulas l at (f x)) is ∙ ap (λ n. set_formulas (with_each os (map f done)) n (f x)) (e ∙ sym size) ∙ each_more os (map f done) (f x) (omega arith) ∙ ap (with_each os) (sym (map_push f done x))

rest_more : {A : Type 0} (done rest left all : List A) (x : A) → done ++ rest ≡ all → rest ≡ x ∷ left → (done ++ x ∷ []) ++ left ≡ all
rest_more done rest left all x e is = append_assoc done (x ∷ []) left ∙ ap (λ l. done ++ l) (sym is) ∙ e

here : {A : Type 0} (done rest left all : List A) (x : A) → done ++ rest ≡ all → rest ≡ x ∷ left → length done < length all
here done rest left all x e is = let l = length-append done rest in let m = ap length e in let n = ap length is in omega arith

pub set_at-requires : goal.set_at-requires
set_at-requires c =
    let short = here c.loop-list.yielded c.loop-list.list-iterator.rest.items c.next.new.self.rest.items c.args.rules.items c.in-Some.list c.loop-list.invariant.2 c.in-Some.ensures.steps.0 in
    omega (arith, short)

pub loop-list-preserved : goal.loop-list-preserved
loop-list-preserved c =
    let all = c.args.rules.items in
    let short = here c.loop-list.yielded c.loop-list.list-iterator.rest.items c.next.new.self.rest.items all c.in-Some.list c.loop-list.invariant.2 c.in-Some.ensures.steps.0 in
    let within : c.loop-list.at < length c.loop-list.objects = omega (arith, short) in
    let more = length_push c.loop-list.yielded c.in-Some.list in (
      omega (arith, more),
      one_more (λ list. list.items) c.args.objects.now c.loop-list.objects c.set_at.new.objects c.loop-list.yielded c.in-Some.list c.loop-list.at c.loop-list.invariant.0 within c.loop-list.invariant.1 c.set_at.ensures,
      rest_more c.loop-list.yielded c.loop-list.list-iterator.rest.items c.next.new.self.rest.items all c.in-Some.list c.loop-list.invariant.2 c.in-Some.ensures.steps.0,
    )
