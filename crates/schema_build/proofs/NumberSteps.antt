-- The Numbers of objects, field by field and object by object.
use Rattle.std.specs.Prelude.{◌≡◌, ℕ, zero, suc, ◌+◌, ◌<◌, ◌&&◌, cond, Bool, true, false, List, [], ◌∷◌, ◌++◌, take, get_or, length, slice_get, bytes_eq, Option, None, Some}
use Rattle.std.proofs.Common.{refl, sym, ap, ◌∙◌, arith, length-take}
use Rattle.std.proofs.lemmas.List.{take_more}
use Rattle.apex_text.specs.Fold.{folded}
use Rattle.schema_plans.specs.declared.plan.FieldPlan.{FieldPlan}
use Rattle.schema_names.specs.Names.{or_at}
use Rattle.schema_plans.specs.Plans.{bind, is_number, number_from}

behind : (b : Bool) (k j : ℕ) (p q : Option ℕ) (same : Bool) → q ≡ or_at p same j → cond b (Some k) q ≡ or_at (cond b (Some k) p) same j
behind true k j p q same e = refl
behind false k j p q same e = e

append_number : (k j : ℕ) (fs : List FieldPlan) (f : FieldPlan) (n : List ℕ) → j ≡ k + length fs → number_from k (fs ++ f ∷ []) n ≡ or_at (number_from k fs n) (is_number f.kind && bytes_eq (folded f.name) n) j
append_number k j [] f n e = ap (λ m. cond (is_number f.kind && bytes_eq (folded f.name) n) (Some m) None) (let g : k ≡ j = omega arith in g)
append_number k j (g ∷ fs) f n e =
    behind (is_number g.kind && bytes_eq (folded g.name) n) k j (number_from (k + 1) fs n) (number_from (k + 1) (fs ++ f ∷ []) n) (is_number f.kind && bytes_eq (folded f.name) n) (append_number (k + 1) j fs f n (omega arith))

pub one_number_more : (fs : List FieldPlan) (i : ℕ) (f : FieldPlan) (n : List ℕ) → i < length fs → f ≡ get_or fs i f → number_from 2 (take (i + 1) fs) n ≡ or_at (number_from 2 (take i fs) n) (is_number f.kind && bytes_eq (folded f.name) n) (i + 2)
one_number_more fs i f n h e =
    ap (λ l. number_from 2 l n) (take_more fs i f h ∙ ap (λ y. take i fs ++ y ∷ []) (sym e)) ∙ append_number 2 (i + 2) (take i fs) f n (let l = length-take i fs in omega arith)

one_more : {A B C : Type 0} (f : A → Option C) (g : B → Option C) (xs : List A) (ys : List B) (x : A) (y : B) → length xs ≡ length ys → ((d : ℕ) → bind (slice_get xs d) f ≡ bind (slice_get ys d) g) → f x ≡ g y → (d : ℕ) → bind (slice_get (xs ++ x ∷ []) d) f ≡ bind (slice_get (ys ++ y ∷ []) d) g
one_more f g [] [] x y l h e zero = e
one_more f g [] [] x y l h e (suc d) = refl
one_more f g [] (b ∷ ys) x y l h e d = absurd (omega arith)
one_more f g (a ∷ xs) [] x y l h e d = absurd (omega arith)
one_more f g (a ∷ xs) (b ∷ ys) x y l h e zero = h zero
one_more f g (a ∷ xs) (b ∷ ys) x y l h e (suc d) = one_more f g xs ys x y (omega arith) (λ k. h (suc k)) e d

pub one_object_more : {A B C : Type 0} (xs after : List A) (ys all : List B) (x : A) (y : B) (i : ℕ) (f : A → Option C) (g : B → Option C) → ys ≡ all → i < length ys → y ≡ get_or ys i y → after ≡ xs ++ x ∷ [] → length xs ≡ i
    → ((d : ℕ) → bind (slice_get xs d) f ≡ bind (slice_get (take i all) d) g) → f x ≡ g y → (d : ℕ) → bind (slice_get after d) f ≡ bind (slice_get (take (i + 1) all) d) g
one_object_more xs after ys all x y i f g s h is new l same e d =
    let long = length-take i ys in
    let size : length xs ≡ length (take i ys) = omega arith in
    let next : take (i + 1) ys ≡ take i ys ++ y ∷ [] = take_more ys i y h ∙ ap (λ z. take i ys ++ z ∷ []) (sym is) in
    let before : (k : ℕ) → bind (slice_get xs k) f ≡ bind (slice_get (take i ys) k) g = λ k. same k ∙ ap (λ l. bind (slice_get (take i l) k) g) (sym s) in
    ap (λ l. bind (slice_get l d) f) new ∙ one_more f g xs (take i ys) x y size before e d ∙ ap (λ l. bind (slice_get l d) g) (sym next) ∙ ap (λ l. bind (slice_get (take (i + 1) l) d) g) s
