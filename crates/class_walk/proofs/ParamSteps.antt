-- Types of parameters, one by one.
use Rattle.std.proofs.Common.{◌≡◌, ◌≢◌, suc, Bool, true, false, ◌&&◌, List, [], ◌∷◌, length, Option, refl, ap, ◌∙◌}
use Rattle.static_types.specs.declared.kind.ValueType.{ValueType}
use Rattle.class_walk.specs.Signatures.{same_param, same_params}

and_false : (b : Bool) → (b && false) ≡ false
and_false true = refl
and_false false = refl

pub other_length : (xs ys : List (Option ValueType)) → length xs ≢ length ys → same_params xs ys ≡ false
other_length [] [] n = absurd (n refl)
other_length [] (b ∷ ys) n = refl
other_length (a ∷ xs) [] n = refl
other_length (a ∷ xs) (b ∷ ys) n = ap (λ r. same_param a b && r) (other_length xs ys (λ e. n (ap suc e))) ∙ and_false (same_param a b)
