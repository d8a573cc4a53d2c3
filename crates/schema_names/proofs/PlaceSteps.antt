-- The place of a name, name by name.
use Rattle.std.specs.Prelude.{◌≡◌, ℕ, ◌+◌, ◌<◌, cond, Bool, true, false, List, [], ◌∷◌, ◌++◌, take, get_or, length, bytes_eq, Option, None, Some}
use Rattle.std.proofs.Common.{refl, sym, ap, ◌∙◌, arith, length-take}
use Rattle.std.proofs.lemmas.List.{take_more}
use Rattle.schema_names.specs.Names.{one_more, place_of, or_at}

one_more_at : (p : Option ℕ) (same : Bool) (k : ℕ) → one_more (or_at p same k) ≡ or_at (one_more p) same (k + 1)
one_more_at None true k = refl
one_more_at None false k = refl
one_more_at (Some i) same k = refl

behind : (b : Bool) (p q : Option ℕ) (same : Bool) (k : ℕ) → q ≡ or_at (one_more p) same k → cond b (Some 0) q ≡ or_at (cond b (Some 0) (one_more p)) same k
behind true p q same k e = refl
behind false p q same k e = e

append_at : (ns : List (List ℕ)) (x n : List ℕ) (k : ℕ) → length ns ≡ k → place_of (ns ++ x ∷ []) n ≡ or_at (place_of ns n) (bytes_eq x n) k
append_at [] x n k e = ap (λ j. cond (bytes_eq x n) (Some j) None) e
append_at (m ∷ ns) x n k e = behind (bytes_eq m n) (place_of ns n) (one_more (place_of (ns ++ x ∷ []) n)) (bytes_eq x n) k (ap one_more (append_at ns x n (length ns) refl) ∙ one_more_at (place_of ns n) (bytes_eq x n) (length ns) ∙ ap (λ j. or_at (one_more (place_of ns n)) (bytes_eq x n) j) (let g : length ns + 1 ≡ k = omega arith in g))

pub one_place_more : (names : List (List ℕ)) (i : ℕ) (d x n : List ℕ) → i < length names → x ≡ get_or names i d → place_of (take (i + 1) names) n ≡ or_at (place_of (take i names) n) (bytes_eq x n) i
one_place_more names i d x n h e =
    ap (λ l. place_of l n) (take_more names i d h ∙ ap (λ y. take i names ++ y ∷ []) (sym e)) ∙ append_at (take i names) x n i (let l = length-take i names in omega arith)
