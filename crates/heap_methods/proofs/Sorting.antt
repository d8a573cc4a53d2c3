-- The order of values, and that the list that rises by it is the sorted one.
use Rattle.std.proofs.Common.{◌≡◌, ℕ, ℤ, unsigned_abs, ◌+◌, Bool, true, false, cond, eqb, List, [], ◌∷◌, refl, sym, ◌∙◌, arith, IsPermutation}
use Rattle.std.specs.Cmp.{IsStrictWeakOrder, IsTotalOrder, then_total, on_total, nat_cmp_total, int_cmp_total}
use Rattle.std.specs.Cmp.Lexicographic.{slice_cmp, nat_list_cmp_total}
use Rattle.std.specs.List.{AllByRecursion}
use Rattle.std.specs.List.Sorted.{IsSortedBy}
use Rattle.std.specs.Ordering.{nat_cmp, int_cmp, ordering_then, ordering_reverse, is_lt}
use Rattle.std.specs.declared.cmp.Ordering.{Ordering}
use Rattle.std.specs.declared.cmp.Ordering.TheVariants.{Less, Equal, Greater}
use Rattle.std.proofs.lemmas.List.Sorted.{ranks_by}
use Rattle.std.proofs.lemmas.Map.Lookups.{exact_unsigned, exact_signed, exact_bytes}
use Rattle.apex_num.specs.declared.cell.Cell.TheVariants as C
use Rattle.txn_heap.specs.declared.thing.Value.{Value}
use Rattle.txn_heap.specs.declared.thing.Value.TheVariants.{Plain, Object}
use Rattle.heap_methods.specs.Order.{kind, number, bytes, by_content, compared, less, put_in, sorted}
use Rattle.heap_methods.proofs.Sorts.{hit, times, Rises, times_kept, only_sorted, rises}

total : IsTotalOrder compared
total = then_total (on_total kind nat_cmp_total) (then_total (on_total number int_cmp_total) (on_total bytes nat_list_cmp_total))

pub weak : IsStrictWeakOrder less
weak = ranks_by total (λ (v : Value). v)

-- ---- values that tie are the same

first_tied : (a b : Ordering) → ordering_then a b ≡ Equal → a ≡ Equal
first_tied Less b h = h
first_tied Equal b h = refl
first_tied Greater b h = h

second_tied : (a b : Ordering) → ordering_then a b ≡ Equal → b ≡ Equal
second_tied Less b h = cc
second_tied Equal b h = h
second_tied Greater b h = cc

value_from : ℕ → ℤ → List ℕ → Value
value_from k n bs =
    cond (eqb k 1) (Plain (C.Bool (eqb (unsigned_abs n) 1)))
    (cond (eqb k 2) (Plain (C.Whole n))
    (cond (eqb k 3) (Plain (C.Num n))
    (cond (eqb k 4) (Plain (C.Text bs))
    (cond (eqb k 5) (Plain (C.Id bs))
    (cond (eqb k 6) (Plain (C.Day n))
    (cond (eqb k 7) (Plain (C.Moment n))
    (cond (eqb k 8) (Object (record { place = unsigned_abs n })) (Plain C.Null))))))))

back : (v : Value) → value_from (kind v) (number v) (bytes v) ≡ v
unfolding value_from
back (Plain C.Null) = refl
back (Plain (C.Bool true)) = refl
back (Plain (C.Bool false)) = refl
back (Plain (C.Whole n)) = refl
back (Plain (C.Num n)) = refl
back (Plain (C.Text bs)) = refl
back (Plain (C.Id bs)) = refl
back (Plain (C.Day n)) = refl
back (Plain (C.Moment n)) = refl
back (Object r) = refl

tied : (a b : Value) → compared a b ≡ Equal → a ≡ b
tied a b h =
    let content = second_tied (nat_cmp (kind a) (kind b)) (by_content a b) h in
    let k = exact_unsigned (kind a) (kind b) (first_tied (nat_cmp (kind a) (kind b)) (by_content a b) h) in
    let n = exact_signed (number a) (number b) (first_tied (int_cmp (number a) (number b)) (slice_cmp nat_cmp (bytes a) (bytes b)) content) in
    let t = exact_bytes (bytes a) (bytes b) (second_tied (int_cmp (number a) (number b)) (slice_cmp nat_cmp (bytes a) (bytes b)) content) in
    sym (back a) ∙ (λ i. value_from (k i) (n i) (t i)) ∙ back b

neither : (r s : Ordering) → r ≡ ordering_reverse s → is_lt r ≡ false → is_lt s ≡ false → r ≡ Equal
neither Less s e p q = cc
neither Equal s e p q = refl
neither Greater Less e p q = cc
neither Greater Equal e p q = cc
neither Greater Greater e p q = cc

pub exact : (a b : Value) → less a b ≡ false → less b a ≡ false → a ≡ b
exact a b p q = tied a b (neither (compared a b) (compared b a) (total.antisymm a b) p q)

-- ---- what the definition sorts

put_all : (P : Value → Type 0) (x : Value) (ys : List Value) → P x → AllByRecursion P ys → AllByRecursion P (put_in x ys)
put_all P x [] here all = (here, tt)
put_all P x (y ∷ ys) here all = go (less y x) (put_all P x ys here all.1)
  where
    go : (b : Bool) → AllByRecursion P (put_in x ys) → AllByRecursion P (cond b (y ∷ put_in x ys) (x ∷ (y ∷ ys)))
    go true rest = (all.0, rest)
    go false rest = (here, all)

all_behind : (x y : Value) → less y x ≡ false → (ys : List Value) → AllByRecursion (λ w. less w y ≡ false) ys → AllByRecursion (λ w. less w x ≡ false) ys
all_behind x y h [] all = tt
all_behind x y h (w ∷ ws) all = (weak.chain w y x all.0 h, all_behind x y h ws all.1)

put_rises : (x : Value) (ys : List Value) → Rises less weak ys → Rises less weak (put_in x ys)
put_rises x [] up = (tt, tt)
put_rises x (y ∷ ys) up = go (less y x) refl (put_rises x ys up.1)
  where
    go : (b : Bool) → less y x ≡ b → Rises less weak (put_in x ys) → Rises less weak (cond b (y ∷ put_in x ys) (x ∷ (y ∷ ys)))
    go true e rest = (put_all (λ w. less w y ≡ false) x ys (weak.one_way y x e) up.0, rest)
    go false e rest = ((e, all_behind x y e ys up.0), up)

pub sorted_rises : (xs : List Value) → Rises less weak (sorted xs)
sorted_rises [] = tt
sorted_rises (x ∷ xs) = put_rises x (sorted xs) (sorted_rises xs)

put_times : (z x : Value) (ys : List Value) → times less weak z (put_in x ys) ≡ hit less weak z x + times less weak z ys
put_times z x [] = refl
put_times z x (y ∷ ys) = go (less y x) (put_times z x ys)
  where
    go : (b : Bool) → times less weak z (put_in x ys) ≡ hit less weak z x + times less weak z ys → times less weak z (cond b (y ∷ put_in x ys) (x ∷ (y ∷ ys))) ≡ hit less weak z x + (hit less weak z y + times less weak z ys)
    go true h = omega (arith, h)
    go false h = refl

pub sorted_times : (z : Value) (xs : List Value) → times less weak z (sorted xs) ≡ times less weak z xs
sorted_times z [] = refl
sorted_times z (x ∷ xs) = let h = put_times z x (sorted xs) in let g = sorted_times z xs in omega (arith, h, g)

pub sort_is : (xs ys : List Value) → IsPermutation xs ys → IsSortedBy less ys → ys ≡ sorted xs
sort_is xs ys moves up =
    only_sorted less weak exact ys (sorted xs) (rises less weak ys up) (sorted_rises xs) (λ z. times_kept less weak z xs ys moves ∙ sym (sorted_times z xs))
