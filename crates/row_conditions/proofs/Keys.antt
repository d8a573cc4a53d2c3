-- Values and their keys.
use Rattle.std.proofs.Common.{◌≡◌, ◌<◌, ◌+◌, ℕ, Bool, true, false, List, [], ◌∷◌, length, take, get_or, map, refl, sym, ap, ◌∙◌, arith}
use Rattle.std.specs.Prelude.{◌||◌}
use Rattle.std.specs.List.{list_any}
use Rattle.std.proofs.lemmas.List.Folds.{list_any_more}
use Rattle.std.proofs.lemmas.Map.Text.{is_eq-slice_cmp}
use Rattle.apex_num.specs.declared.cell.Cell.{Cell}
use Rattle.apex_num.specs.declared.cell.Cell.TheVariants.{Bool as Truth}
use Rattle.apex_num.specs.contracts.cell.CellEq.TheImpl.Laws.{laws-law}
use Rattle.row_meaning.specs.Cells.{same_cell}
use Rattle.row_conditions.specs.Keys.{key_of, key_eq, has}

same_truth : (a b : Bool) → key_eq (Truth a) (Truth b) ≡ same_cell (Truth a) (Truth b)
same_truth true true = refl
same_truth true false = refl
same_truth false true = refl
same_truth false false = refl

pub same_key : (a b : Cell) → key_eq (key_of a) (key_of b) ≡ same_cell a b
same_key a b = grind (arith, same_truth, is_eq-slice_cmp)

-- a key more
pub key_more : (new old now : List Cell) (c cell key : Cell) → old ≡ now → key ≡ key_of cell → has new c ≡ (has old c || key_eq key (key_of c)) → has new c ≡ (has now c || same_cell c cell)
key_more new old now c cell key is e h =
    h ∙ ap (λ keys. has keys c || key_eq key (key_of c)) is ∙ ap (λ (k : Cell). has now c || key_eq k (key_of c)) e
    ∙ ap (λ b. has now c || b) (laws-law.symm (key_of cell) (key_of c) ∙ same_key c cell)

-- ---- one more value

or_over : (a b d : Bool) → ((a || b) || d) ≡ (a || (b || d))
or_over true b d = refl
or_over false b d = refl

pub any_more : {A : Type 0} (p : A → Bool) (xs : List A) (i : ℕ) (x : A) → i < length xs → x ≡ get_or xs i x → (old so_far new : Bool) → so_far ≡ (old || list_any p (take i xs)) → new ≡ (so_far || p x) →
    new ≡ (old || list_any p (take (i + 1) xs))
any_more p xs i x lt is old so_far new h k =
    k ∙ ap (λ b. b || p x) h ∙ or_over old (list_any p (take i xs)) (p x) ∙ ap (λ b. old || b) (ap (λ y. list_any p (take i xs) || p y) is ∙ sym (list_any_more p xs i x lt))

any_of : {A B : Type 0} (p : B → Bool) (f : A → B) (xs : List A) → list_any p (map f xs) ≡ list_any (λ x. p (f x)) xs
any_of p f [] = refl
any_of p f (x ∷ xs) = ap (λ b. p (f x) || b) (any_of p f xs)

pub any_of_more : {A B : Type 0} (p : B → Bool) (f : A → B) (xs : List A) (i : ℕ) (x : A) (y : B) → i < length xs → x ≡ get_or xs i x → y ≡ f x → (old so_far new : Bool) → so_far ≡ (old || list_any p (map f (take i xs))) → new ≡ (so_far || p y) →
    new ≡ (old || list_any p (map f (take (i + 1) xs)))
any_of_more p f xs i x y lt is e old so_far new h k =
    any_more (λ a. p (f a)) xs i x lt is old so_far new (h ∙ ap (λ b. old || b) (any_of p f (take i xs))) (k ∙ ap (λ b. so_far || p b) e)
    ∙ ap (λ b. old || b) (sym (any_of p f (take (i + 1) xs)))
