-- What is taken out of lists of tenants, one behind the other.
use Rattle.std.proofs.Common.{arith, ◌≡◌, refl, sym, ap, ◌∙◌, ℕ, zero, suc, ◌+◌, ◌<◌, ◌≤◌, List, [], ◌∷◌, ◌++◌, append_assoc, append-nil, drop, get_or, length, Option, None, Some}
use Rattle.std.specs.Prelude.{slice_set}
use Rattle.attempt_run.specs.declared.plan.Plan.{Plan}
use Rattle.stack_code.specs.declared.image.Image.{Image}
use Rattle.tenant_parts.specs.declared.part.TenantPart.{TenantPart}
use Rattle.tenant_runs.specs.Steps.{image_in, images_in, numbered}

drop_here : {A : Type 0} (xs : List A) (t : ℕ) (d : A) → t < length xs → drop t xs ≡ get_or xs t d ∷ drop (suc t) xs
drop_here [] t d lt = absurd (omega (arith, lt))
drop_here (x ∷ xs) zero d lt = refl
drop_here (x ∷ xs) (suc t) d lt = drop_here xs t d (omega (arith, lt))

drop_set : {A : Type 0} (xs : List A) (t : ℕ) (x : A) → drop (suc t) (slice_set xs t x) ≡ drop (suc t) xs
drop_set [] t x = refl
drop_set (y ∷ xs) zero x = refl
drop_set (y ∷ xs) (suc t) x = drop_set xs t x

pub length_set : {A : Type 0} (xs : List A) (t : ℕ) (x : A) → length (slice_set xs t x) ≡ length xs
length_set [] t x = refl
length_set (y ∷ xs) zero x = refl
length_set (y ∷ xs) (suc t) x = ap suc (length_set xs t x)

drop_all : {A : Type 0} (xs : List A) (t : ℕ) → length xs ≤ t → drop t xs ≡ []
drop_all [] zero le = refl
drop_all [] (suc t) le = refl
drop_all (x ∷ xs) zero le = absurd (omega (arith, le))
drop_all (x ∷ xs) (suc t) le = drop_all xs t (omega (arith, le))

module _ (whole : List (ℕ × TenantPart)) (parts : List (Option TenantPart)) (t : ℕ) (taken : Option TenantPart) (lt : t < length parts) (is : taken ≡ get_or parts t taken) where
  here : (later : List (Option TenantPart)) (all : List (ℕ × TenantPart)) → whole ≡ all ++ numbered t (drop t parts) → later ≡ slice_set parts t None → whole ≡ all ++ numbered t (taken ∷ drop (t + 1) later)
  here later all h e =
      let next : suc t ≡ t + 1 = omega arith in
      h
      ∙ ap (λ ps. all ++ numbered t ps) (drop_here parts t taken lt)
      ∙ ap (λ p. all ++ numbered t (p ∷ drop (suc t) parts)) (sym is)
      ∙ ap (λ ps. all ++ numbered t (taken ∷ ps)) (sym (drop_set parts t None))
      ∙ ap (λ ps. all ++ numbered t (taken ∷ drop (suc t) ps)) (sym e)
      ∙ ap (λ n. all ++ numbered t (taken ∷ drop n later)) next

  pub numbered_none : (later : List (Option TenantPart)) (all : List (ℕ × TenantPart)) → whole ≡ all ++ numbered t (drop t parts) → later ≡ slice_set parts t None → taken ≡ None → whole ≡ all ++ numbered (t + 1) (drop (t + 1) later)
  numbered_none later all h e none =
      let next : suc t ≡ t + 1 = omega arith in
      here later all h e ∙ ap (λ p. all ++ numbered t (p ∷ drop (t + 1) later)) none ∙ ap (λ n. all ++ numbered n (drop (t + 1) later)) next

  pub numbered_some : (later : List (Option TenantPart)) (all more : List (ℕ × TenantPart)) (part : TenantPart) → whole ≡ all ++ numbered t (drop t parts) → later ≡ slice_set parts t None → taken ≡ Some part → more ≡ all ++ (t, part) ∷ [] → whole ≡ more ++ numbered (t + 1) (drop (t + 1) later)
  numbered_some later all more part h e some one =
      let next : suc t ≡ t + 1 = omega arith in
      here later all h e
      ∙ ap (λ p. all ++ numbered t (p ∷ drop (t + 1) later)) some
      ∙ ap (λ n. all ++ (t, part) ∷ numbered n (drop (t + 1) later)) next
      ∙ sym (append_assoc all ((t, part) ∷ []) (numbered (t + 1) (drop (t + 1) later)))
      ∙ sym (ap (λ xs. xs ++ numbered (t + 1) (drop (t + 1) later)) one)

pub numbered_end : (whole all : List (ℕ × TenantPart)) (parts : List (Option TenantPart)) (t : ℕ) → length parts ≤ t → whole ≡ all ++ numbered t (drop t parts) → all ≡ whole
numbered_end whole all parts t le h = sym (h ∙ ap (λ ps. all ++ numbered t ps) (drop_all parts t le) ∙ append-nil all)

pub image_next : (whole images more : List (Option Image)) (plans later : List (Option Plan)) (t : ℕ) (taken : Option Plan) → t < length plans → taken ≡ get_or plans t taken → whole ≡ images ++ images_in (drop t plans) → later ≡ slice_set plans t None → more ≡ images ++ image_in taken ∷ [] → whole ≡ more ++ images_in (drop (t + 1) later)
image_next whole images more plans later t taken lt is h e one =
    let next : suc t ≡ t + 1 = omega arith in
    h
    ∙ ap (λ ps. images ++ images_in ps) (drop_here plans t taken lt)
    ∙ ap (λ p. images ++ image_in p ∷ images_in (drop (suc t) plans)) (sym is)
    ∙ ap (λ ps. images ++ image_in taken ∷ images_in ps) (sym (drop_set plans t None))
    ∙ ap (λ ps. images ++ image_in taken ∷ images_in (drop (suc t) ps)) (sym e)
    ∙ ap (λ n. images ++ image_in taken ∷ images_in (drop n later)) next
    ∙ sym (append_assoc images (image_in taken ∷ []) (images_in (drop (t + 1) later)))
    ∙ sym (ap (λ xs. xs ++ images_in (drop (t + 1) later)) one)

pub image_end : (whole images : List (Option Image)) (plans : List (Option Plan)) (t : ℕ) → length plans ≤ t → whole ≡ images ++ images_in (drop t plans) → images ≡ whole
image_end whole images plans t le h = sym (h ∙ ap (λ ps. images ++ images_in ps) (drop_all plans t le) ∙ append-nil images)
