-- The laws, one by one.
use Rattle.std.proofs.Common.{◌≡◌, ◌≢◌, ℕ, zero, suc, ◌+◌, ◌<◌, Bool, true, false, not, cond, ◌||◌, if◌then◌else◌, filter, List, [], ◌∷◌, ◌++◌, length, None, Some, slice_get, refl, sym, ap, ◌∙◌, true≢false, arith}
use Rattle.std.specs.Cmp.{IsEquivalence}
use Rattle.std.specs.List.{AllByRecursion}
use Rattle.std.specs.Map.{lookup}
use Rattle.std.proofs.lemmas.Map.Keys.{IsDistinct-head, IsDistinct-tail}
use Rattle.apex_num.specs.declared.cell.Cell.{Cell}
use Rattle.apex_num.specs.contracts.cell.CellEq.TheImpl.Laws.{laws-law}
use Rattle.txn_heap.specs.Changes.{changed}
use Rattle.txn_heap.specs.Equal.{same}
use Rattle.txn_heap.specs.Words.{has, with_keys, without_key, value_at, with_entry, keys_of}
use Rattle.txn_heap.specs.declared.thing.Thing.{Thing}
use Rattle.txn_heap.specs.declared.thing.Value.{Value}
use Rattle.heap_methods.specs.Methods.{outcome}
use Rattle.heap_methods.specs.Order.{less, sorted}
use Rattle.heap_methods.specs.Outcomes.{Outcome, done, Tells, Spells, Becomes, Makes, Fails, Answers}
use Rattle.heap_methods.proofs.Sorting.{weak, sorted_rises, sorted_times}
use Rattle.heap_methods.proofs.Sorts as all
use Rattle.heap_laws.specs.Laws as laws

equal : IsEquivalence same
equal = laws-law

-- ---- the frame

changed_elsewhere : (heap : List Thing) (p n : ℕ) (f : Thing → Thing) → n ≢ p → slice_get (changed p f heap) n ≡ slice_get heap n
changed_elsewhere [] p n f h = refl
changed_elsewhere (t ∷ ts) zero zero f h = absurd (h refl)
changed_elsewhere (t ∷ ts) zero (suc n) f h = refl
changed_elsewhere (t ∷ ts) (suc p) zero f h = refl
changed_elsewhere (t ∷ ts) (suc p) (suc n) f h = changed_elsewhere ts p n f (λ e. h (ap suc e))

pub still_there : (heap more : List Thing) (n : ℕ) → n < length heap → slice_get (heap ++ more) n ≡ slice_get heap n
still_there [] more n h = absurd (omega arith)
still_there (t ∷ ts) more zero h = refl
still_there (t ∷ ts) more (suc n) h = still_there ts more n (omega arith)

frame : (o : Outcome) (p : ℕ) (heap after : List Thing) (v : Value) (n : ℕ) → done p heap o ≡ Answers v after → n ≢ p → n < length heap → slice_get after n ≡ slice_get heap n
frame (Tells w) p heap after v n e h l = let is : heap ≡ after = cc in ap (λ x. slice_get x n) (sym is)
frame (Spells t) p heap after v n e h l = let is : heap ≡ after = cc in ap (λ x. slice_get x n) (sym is)
frame (Becomes t w) p heap after v n e h l = let is : changed p (λ _. t) heap ≡ after = cc in ap (λ x. slice_get x n) (sym is) ∙ changed_elsewhere heap p n (λ _. t) h
frame (Makes t) p heap after v n e h l = let is : heap ++ t ∷ [] ≡ after = cc in ap (λ x. slice_get x n) (sym is) ∙ still_there heap (t ∷ []) n l
frame (Fails class message) p heap after v n e h l = cc

pub only_its_thing : laws.OnlyItsThing
only_its_thing which place args heap after v n e h l = frame (outcome which place args heap) place heap after v n e h l

-- ---- maps

pub put_keeps : laws.PutKeepsPlaces
put_keeps [] k v h = absurd (true≢false (sym h))
put_keeps (e ∷ es) k v h = go (same k e.0) h (put_keeps es k v)
  where
    go : (b : Bool) → (b || has k (keys_of es)) ≡ true → (has k (keys_of es) ≡ true → keys_of (with_entry es k v) ≡ keys_of es) → keys_of (if b then (e.0, v) ∷ es else e ∷ with_entry es k v) ≡ e.0 ∷ keys_of es
    go true h f = refl
    go false h f = ap (λ l. e.0 ∷ l) (f h)

pub put_found : laws.PutIsFound
put_found [] k v = ap (λ b. cond b (Some v) None) (equal.refl k)
put_found (e ∷ es) k v = go (same k e.0) refl (put_found es k v)
  where
    go : (b : Bool) → same k e.0 ≡ b → value_at k (with_entry es k v) ≡ Some v → value_at k (if b then (e.0, v) ∷ es else e ∷ with_entry es k v) ≡ Some v
    go true is f = ap (λ b. cond b (Some v) (lookup (same k) es)) is
    go false is f = ap (λ b. cond b (Some e.1) (value_at k (with_entry es k v))) is ∙ f

-- ---- sets

all_stay : (k x : Cell) (ks : List Cell) → same k x ≡ true → AllByRecursion (λ y. same x y ≡ false) ks → ks ≡ filter (λ y. not (same k y)) ks
all_stay k x [] e h = refl
all_stay k x (y ∷ ys) e h =
    let apart : same k y ≡ false = equal.congr k x y e ∙ h.0 in
    ap (λ l. y ∷ l) (all_stay k x ys e h.1) ∙ sym (ap (λ b. cond (not b) (y ∷ filter (λ z. not (same k z)) ys) (filter (λ z. not (same k z)) ys)) apart)

pub removal_keeps : laws.RemovalKeepsOrder
removal_keeps [] k d = refl
removal_keeps (x ∷ xs) k d = go (same k x) refl (removal_keeps xs k (IsDistinct-tail same x xs d))
  where
    go : (b : Bool) → same k x ≡ b → without_key xs k ≡ filter (λ y. not (same k y)) xs → cond b xs (x ∷ without_key xs k) ≡ cond (not b) (x ∷ filter (λ y. not (same k y)) xs) (filter (λ y. not (same k y)) xs)
    go true e f = all_stay k x xs e (IsDistinct-head same x xs d)
    go false e f = ap (λ l. x ∷ l) f

pub added_where_new : laws.AddedWhereNew
added_where_new ks [] h = refl
added_where_new ks (k ∷ more) h = ap (λ b. with_keys (if b then ks else ks ++ k ∷ []) more) h.0 ∙ added_where_new ks more h.1

-- ---- sort

rises_so : (xs : List Value) → all.Rises less weak xs → laws.Rises xs
rises_so [] h = tt
rises_so (x ∷ xs) h = (h.0, rises_so xs h.1)

pub sort_rises : laws.SortRises
sort_rises xs = rises_so (sorted xs) (sorted_rises xs)

times_so : (z : Value) (xs : List Value) → all.times less weak z xs ≡ laws.times z xs
times_so z [] = refl
times_so z (x ∷ xs) = ap (λ n. cond (less z x) 0 (cond (less x z) 0 1) + n) (times_so z xs)

pub sort_keeps : laws.SortKeepsItems
sort_keeps xs z = sym (times_so z (sorted xs)) ∙ sorted_times z xs ∙ times_so z xs
