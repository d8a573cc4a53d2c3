-- Steps of walks: how what is done so far and what is left come to the whole.
use Rattle.std.proofs.Common.{◌≡◌, List, [], ◌∷◌, ◌++◌, refl, ap}
use Rattle.type_names.specs.Walks.{Walk, Gives, Wrong, onward, all}

-- the parts that are done, and those that are left
abbrev pub behind : {A : Type 0} → List A → Walk (List A) → Walk (List A)
behind done rest = onward rest (λ more. Gives (done ++ more))

pub nothing_done : {A : Type 0} (w : Walk (List A)) → w ≡ behind [] w
nothing_done (Gives xs) = refl
nothing_done (Wrong fault) = refl

assoc : {A : Type 0} (xs : List A) (a : A) (ys : List A) → xs ++ (a ∷ ys) ≡ (xs ++ a ∷ []) ++ ys
assoc [] a ys = refl
assoc (x ∷ xs) a ys = ap (λ l. x ∷ l) (assoc xs a ys)

pub one_done : {A : Type 0} (done : List A) (a : A) (ws : List (Walk A)) → behind done (all (Gives a ∷ ws)) ≡ behind (done ++ a ∷ []) (all ws)
one_done done a ws = by (all ws)
  where
    by : (w : Walk (List _)) → behind done (onward w (λ more. Gives (a ∷ more))) ≡ behind (done ++ a ∷ []) w
    by (Gives ys) = ap Gives (assoc done a ys)
    by (Wrong fault) = refl
