-- One of several names is a name, name by name.
use Rattle.std.specs.Prelude.{◌≡◌, ◌<◌, ◌+◌, ◌||◌, ℕ, Bool, true, false, List, [], ◌∷◌, ◌++◌, map, take, get_or, length, bytes_eq}
use Rattle.std.proofs.Common.{refl, sym, ap, subst, ◌∙◌}
use Rattle.std.proofs.lemmas.List.{take_more, take-map}
use Rattle.schema_names.specs.Names.{has}

or_none : (b : Bool) → b || false ≡ b
or_none true = refl
or_none false = refl

or_or : (a b c : Bool) → a || (b || c) ≡ (a || b) || c
or_or true b c = refl
or_or false b c = refl

has_append : (ns : List (List ℕ)) (x n : List ℕ) → has (ns ++ x ∷ []) n ≡ has ns n || bytes_eq x n
has_append [] x n = or_none (bytes_eq x n)
has_append (m ∷ ns) x n = ap (λ b. bytes_eq m n || b) (has_append ns x n) ∙ or_or (bytes_eq m n) (has ns n) (bytes_eq x n)

append_map : {A : Type 0} (f : A → List ℕ) (xs : List A) (x : A) → map f (xs ++ x ∷ []) ≡ map f xs ++ f x ∷ []
append_map f [] x = refl
append_map f (y ∷ xs) x = ap (λ l. f y ∷ l) (append_map f xs x)

pub has_one_more : {A : Type 0} (f : A → List ℕ) (xs ys : List A) (i : ℕ) (d : A) (n : List ℕ) → ys ≡ xs → i < length ys → has (take (i + 1) (map f xs)) n ≡ has (take i (map f xs)) n || bytes_eq (f (get_or ys i d)) n
has_one_more f xs ys i d n s h =
    let more : take (i + 1) (map f ys) ≡ take i (map f ys) ++ f (get_or ys i d) ∷ [] =
    take-map f (i + 1) ys ∙ ap (map f) (take_more ys i d h) ∙ append_map f (take i ys) (get_or ys i d) ∙ ap (λ l. l ++ f (get_or ys i d) ∷ []) (sym (take-map f i ys)) in
    subst (λ l. has (take (i + 1) (map f l)) n ≡ has (take i (map f l)) n || bytes_eq (f (get_or ys i d)) n) s
    (ap (λ l. has l n) more ∙ has_append (take i (map f ys)) (f (get_or ys i d)) n)
