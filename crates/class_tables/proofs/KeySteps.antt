-- The place of a key, key by key.
use Rattle.std.specs.Prelude.{◌≡◌, ℕ, ◌+◌, ◌<◌, cond, Bool, true, false, List, [], ◌∷◌, ◌++◌, take, get_or, length, Option, None, Some}
use Rattle.std.proofs.Common.{refl, sym, ap, ◌∙◌, arith, length-take}
use Rattle.std.proofs.lemmas.List.{take_more}
use Rattle.schema_names.specs.Names.{one_more, or_at}
use Rattle.class_tables.specs.declared.key.MethodKey.{MethodKey}
use Rattle.class_tables.specs.Keys.{key_eq, place_of_key}

one_more_at : (p : Option ℕ) (same : Bool) (k : ℕ) → one_more (or_at p same k) ≡ or_at (one_more p) same (k + 1)
one_more_at None true k = refl
one_more_at None false k = refl
one_more_at (Some i) same k = refl

behind : (b : Bool) (p q : Option ℕ) (same : Bool) (k : ℕ) → q ≡ or_at (one_more p) same k → cond b (Some 0) q ≡ or_at (cond b (Some 0) (one_more p)) same k
behind true p q same k e = refl
behind false p q same k e = e

append_at : (ks : List MethodKey) (x n : MethodKey) (k : ℕ) → length ks ≡ k → place_of_key (ks ++ x ∷ []) n ≡ or_at (place_of_key ks n) (key_eq x n) k
append_at [] x n k e = ap (λ j. cond (key_eq x n) (Some j) None) e
append_at (m ∷ ks) x n k e =
    behind (key_eq m n) (place_of_key ks n) (one_more (place_of_key (ks ++ x ∷ []) n)) (key_eq x n) k
    (ap one_more (append_at ks x n (length ks) refl) ∙ one_more_at (place_of_key ks n) (key_eq x n) (length ks) ∙ ap (λ j. or_at (one_more (place_of_key ks n)) (key_eq x n) j) (let g : length ks + 1 ≡ k = omega arith in g))

pub one_key_more : (keys : List MethodKey) (i : ℕ) (d x n : MethodKey) → i < length keys → x ≡ get_or keys i d → place_of_key (take (i + 1) keys) n ≡ or_at (place_of_key (take i keys) n) (key_eq x n) i
one_key_more keys i d x n h e =
    ap (λ l. place_of_key l n) (take_more keys i d h ∙ ap (λ y. take i keys ++ y ∷ []) (sym e)) ∙ append_at (take i keys) x n i (let l = length-take i keys in omega arith)
