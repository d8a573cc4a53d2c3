-- Records one after the other, from a place on.
use Rattle.std.proofs.Common.{◌≡◌, ℕ, zero, suc, ◌+◌, ◌-◌, ◌<◌, ◌≤◌, ◌^◌, ◌⊎◌, min, List, [], ◌∷◌, ◌++◌, length, slice_get, Option, refl, ap, sym, subst, ◌∙◌, append_assoc, append-nil, inl, inr, arith}
use Rattle.std.proofs.lemmas.Bool.{cases_lt}
use Rattle.std.proofs.lemmas.Option.{slice_get_past}
use Rattle.save_statements.specs.declared.firing.Left.{Left}
use Rattle.txn_heap.specs.Changes.{changed}
use Rattle.txn_heap.specs.Guards.{error_of, guard_in}
use Rattle.txn_heap.specs.declared.thing.Guard.TheVariants.{Fixed}
use Rattle.txn_heap.specs.declared.thing.Thing.{Thing}
use Rattle.txn_heap.specs.declared.thing.Thing.TheVariants as T
use Rattle.trigger_things.specs.Lefts.{closed, left_at, lefts, row_of}

-- the place behind, or one as far behind the last thing
abbrev Next : ℕ → ℕ → ℕ → Type 0
Next size p q = (q ≡ p + 2) ⊎ ((size ≤ q) × (size ≤ p + 2))

cases_next : (p q size : ℕ) → q ≡ min (p + 2) (2 ^ 64 - 1) → size < 2 ^ 64 → (p + 2 < 2 ^ 64) ⊎ (2 ^ 64 ≤ p + 2) → Next size p q
cases_next p q size is small (inl here) = inl (omega (arith, is, here))
cases_next p q size is small (inr far) = inr (omega (arith, is, far, small), omega (arith, far, small))

pub next_within : (p q size length_is : ℕ) → q ≡ min (p + 2) (2 ^ 64 - 1) → size ≡ length_is → size < 2 ^ 64 → Next length_is p q
next_within p q size n is e small = subst (λ k. Next k p q) e (cases_next p q size is small (cases_lt (p + 2) (2 ^ 64)))

-- ---- how they are left

left_past : (heap : List Thing) (p q : ℕ) → length heap ≤ p → length heap ≤ q → left_at heap p ≡ left_at heap q
left_past heap p q hp hq =
    ap (λ (t : Option Thing). record { row = row_of t; message = error_of (guard_in (slice_get heap p)) }) (slice_get_past heap (suc p) (omega arith) ∙ sym (slice_get_past heap (suc q) (omega arith)))
    ∙ ap (λ (t : Option Thing). record { row = row_of (slice_get heap (suc q)); message = error_of (guard_in t) }) (slice_get_past heap p hp ∙ sym (slice_get_past heap q hq))

lefts_past : (n : ℕ) (heap : List Thing) (p q : ℕ) → length heap ≤ p → length heap ≤ q → lefts n p heap ≡ lefts n q heap
lefts_past zero heap p q hp hq = refl
lefts_past (suc n) heap p q hp hq =
    ap (λ (l : Left). l ∷ lefts n (suc (suc p)) heap) (left_past heap p q hp hq)
    ∙ ap (λ ls. left_at heap q ∷ ls) (lefts_past n heap (suc (suc p)) (suc (suc q)) (omega arith) (omega arith))

lefts_next : (n : ℕ) (heap : List Thing) (p q : ℕ) → Next (length heap) p q → lefts n q heap ≡ lefts n (suc (suc p)) heap
lefts_next n heap p q (inl is) = let e : q ≡ suc (suc p) = omega (arith, is) in ap (λ k. lefts n k heap) e
lefts_next n heap p q (inr past) = lefts_past n heap q (suc (suc p)) past.0 (omega (arith, past.1))

pub lefts_more : (count i p q : ℕ) (heap : List Thing) (before after : List Left) (one : Left) (all : List Left) → i < count → Next (length heap) p q → one ≡ left_at heap p → after ≡ before ++ one ∷ [] →
    before ++ lefts (count - i) p heap ≡ all → after ++ lefts (count - (i + 1)) q heap ≡ all
lefts_more count i p q heap before after one all h next is more e =
    let n : ℕ = count - (i + 1) in
    let k : count - i ≡ suc n = omega arith in
    ap (λ ls. ls ++ lefts n q heap) more ∙ append_assoc before (one ∷ []) (lefts n q heap)
    ∙ ap (λ (l : Left). before ++ l ∷ lefts n q heap) is
    ∙ ap (λ ls. before ++ left_at heap p ∷ ls) (lefts_next n heap p q next)
    ∙ ap (λ m. before ++ lefts m p heap) (sym k)
    ∙ e

pub lefts_over : (count i p : ℕ) (heap : List Thing) (before all : List Left) → count ≤ i → before ++ lefts (count - i) p heap ≡ all → before ≡ all
lefts_over count i p heap before all h e =
    let k : count - i ≡ 0 = omega arith in
    sym (append-nil before) ∙ ap (λ m. before ++ lefts m p heap) (sym k) ∙ e

-- ---- how they are closed

changed_past : (xs : List Thing) (i : ℕ) (f : Thing → Thing) → length xs ≤ i → changed i f xs ≡ xs
changed_past [] i f h = refl
changed_past (x ∷ xs) zero f h = absurd (omega arith)
changed_past (x ∷ xs) (suc i) f h = ap (λ l. x ∷ l) (changed_past xs i f (omega arith))

closed_past : (n : ℕ) (heap : List Thing) (p : ℕ) → length heap ≤ p → closed n p heap ≡ heap
closed_past zero heap p h = refl
closed_past (suc n) heap p h = ap (closed n (suc (suc p))) (changed_past heap p (λ _. T.Guard Fixed) h) ∙ closed_past n heap (suc (suc p)) (omega arith)

closed_next : (n : ℕ) (heap : List Thing) (p q : ℕ) → Next (length heap) p q → closed n q heap ≡ closed n (suc (suc p)) heap
closed_next n heap p q (inl is) = let e : q ≡ suc (suc p) = omega (arith, is) in ap (λ k. closed n k heap) e
closed_next n heap p q (inr past) = closed_past n heap q past.0 ∙ sym (closed_past n heap (suc (suc p)) (omega (arith, past.1)))

pub closed_more : (count i p q : ℕ) (heap after all : List Thing) → i < count → Next (length after) p q → after ≡ changed p (λ _. T.Guard Fixed) heap →
    closed (count - i) p heap ≡ all → closed (count - (i + 1)) q after ≡ all
closed_more count i p q heap after all h next is e =
    let n : ℕ = count - (i + 1) in
    let k : count - i ≡ suc n = omega arith in
    closed_next n after p q next ∙ ap (closed n (suc (suc p))) is ∙ ap (λ m. closed m p heap) (sym k) ∙ e

pub closed_over : (count i p : ℕ) (heap all : List Thing) → count ≤ i → closed (count - i) p heap ≡ all → heap ≡ all
closed_over count i p heap all h e =
    let k : count - i ≡ 0 = omega arith in
    ap (λ m. closed m p heap) (sym k) ∙ e
