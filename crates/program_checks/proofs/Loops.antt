-- Loops that check each element.
use Rattle.std.proofs.Common.{◌≡◌, ℕ, ◌+◌, ◌<◌, ◌≤◌, zero, suc, List, [], ◌∷◌, length, get_or, take, take_all, All, Bool, Some, slice_get, sym, ap, ◌∙◌, subst, ⊎_elim, arith}
use Rattle.std.proofs.lemmas.Bool.{cases_lt}
use Rattle.std.proofs.lemmas.List.Elements.{All-more, All-get_or}
use Rattle.std.proofs.lemmas.Option.{slice_get-get_or}
use Rattle.stack_code.specs.declared.code.Instr.{Instr}
use Rattle.stack_code.specs.Checked.{FineAt, IsFine}

-- ---- what holds of each element

pub all_more : {X : Type 0} (P : X → Type 0) (xs : List X) (n : ℕ) (x : X) → n < length xs → x ≡ get_or xs n x → P x → All P (take n xs) → All P (take (n + 1) xs)
all_more P xs n x lt is p h = All-more P xs n x lt h (subst P is p)

pub all_over : {X : Type 0} (P : X → Type 0) (xs : List X) (n : ℕ) → length xs ≤ n → All P (take n xs) → All P xs
all_over P xs n le h = subst (All P) (take_all n xs le) h

pub not_all : {X : Type 0} (P : X → Type 0) (xs : List X) (n : ℕ) (x : X) → n < length xs → x ≡ get_or xs n x → (P x → ⊥) → All P xs → ⊥
not_all P xs n x lt is bad h = bad (subst P (sym is) (All-get_or P xs n x lt h))

-- ---- what holds at each place of a code

pub fine_more : (b : Bool) (code : List Instr) (n : ℕ) (x : Instr) → n < length code → x ≡ get_or code n x → ((k : ℕ) (i : Instr) → k < n → slice_get code k ≡ Some i → FineAt b code k i) → FineAt b code n x → (k : ℕ) (i : Instr) → k < n + 1 → slice_get code k ≡ Some i → FineAt b code k i
fine_more b code n x lt is h fine k i le e =
    ⊎_elim (λ l. h k i l e) (λ g. let same : n ≡ k = omega arith in let one : Some x ≡ Some i = sym (slice_get-get_or code n x lt ∙ ap Some (sym is)) ∙ ap (slice_get code) same ∙ e in let eq : x ≡ i = cc in subst (λ m. FineAt b code m i) same (subst (FineAt b code n) eq fine)) (cases_lt k n)

pub below_length : {A : Type 0} (xs : List A) (i : ℕ) (x : A) → slice_get xs i ≡ Some x → i < length xs
below_length [] i x h = cc
below_length (y ∷ xs) zero x h = omega arith
below_length (y ∷ xs) (suc i) x h = let t = below_length xs i x h in omega arith

pub fine_over : (b : Bool) (code : List Instr) (n : ℕ) → length code ≤ n → ((k : ℕ) (i : Instr) → k < n → slice_get code k ≡ Some i → FineAt b code k i) → IsFine b code
fine_over b code n le h pc i e = let t = below_length code pc i e in h pc i (omega arith) e

pub not_fine : (b : Bool) (code : List Instr) (n : ℕ) (x : Instr) → n < length code → x ≡ get_or code n x → (FineAt b code n x → ⊥) → IsFine b code → ⊥
not_fine b code n x lt is bad h = bad (h n x (slice_get-get_or code n x lt ∙ ap Some (sym is)))
