-- Rows by their places.
use Rattle.std.proofs.Common.{◌≡◌, ℕ, zero, suc, ◌+◌, ◌<◌, ◌≤◌, Bool, true, false, cond, List, [], ◌∷◌, length, take, get_or, Some, refl, sym, ap, ◌∙◌, arith, eqb, lt-ltb, le-ltb}
use Rattle.std.specs.Prelude.{◌||◌, slice_get, filter}
use Rattle.std.specs.Ordering.{nat_cmp, match_ordering}
use Rattle.std.specs.BTreeMap.{insert_entry}
use Rattle.std.specs.Map.{values_of}
use Rattle.std.specs.declared.cmp.Ordering.TheVariants.{Less, Equal, Greater}
use Rattle.std.proofs.lemmas.Bool.{eq-eqb, ne_eqb}
use Rattle.std.proofs.lemmas.List.Folds.{list_any_more}
use Rattle.apex_rows.specs.declared.row.Row.{Row}
use Rattle.save_meaning.specs.Inserts.{ids_of}
use Rattle.delete_cascades.specs.Layers.{has_place, marked}
use Rattle.delete_cascades.proofs.Tests.{or_more, or_none}

-- ---- the order of places

is_less : (a b : ℕ) → a < b → nat_cmp a b ≡ Less
is_less a b h = ap (λ t. cond t Less (cond (eqb a b) Equal Greater)) (lt-ltb a b h)

is_equal : (a b : ℕ) → a ≡ b → nat_cmp a b ≡ Equal
is_equal a b h = ap (λ t. cond t Less (cond (eqb a b) Equal Greater)) (le-ltb a b (omega arith)) ∙ ap (λ t. cond t Equal Greater) (eq-eqb a b h)

is_greater : (a b : ℕ) → b < a → nat_cmp a b ≡ Greater
is_greater a b h = ap (λ t. cond t Less (cond (eqb a b) Equal Greater)) (le-ltb a b (omega arith)) ∙ ap (λ t. cond t Equal Greater) (ne_eqb a b (λ e. omega arith))

-- ---- tests that agree at the places of a list mark the same rows

pub agree : (rows : List Row) (k : ℕ) (t u : ℕ → Bool) → ((n : ℕ) → k ≤ n → n < k + length rows → t n ≡ u n) → marked t k rows ≡ marked u k rows
agree [] k t u h = refl
agree (r ∷ rows) k t u h =
    ap (λ b. cond b ((k, r.id) ∷ marked t (suc k) rows) (marked t (suc k) rows)) (h k (omega arith) (omega arith))
    ∙ ap (λ ms. cond (u k) ((k, r.id) ∷ ms) ms) (agree rows (suc k) t u (λ n a b. h n (omega arith) (omega arith)))

-- ---- a place more

module _ (p : ℕ) (id : List ℕ) where
  -- before all of them
  in_front : (rows : List Row) (k : ℕ) (t : ℕ → Bool) → p < k → insert_entry nat_cmp (marked t k rows) p id ≡ (p, id) ∷ marked t k rows
  in_front [] k t lt = refl
  in_front (r ∷ rows) k t lt = by (t k) (in_front rows (suc k) t (omega arith)) where
    by : (b : Bool) → insert_entry nat_cmp (marked t (suc k) rows) p id ≡ (p, id) ∷ marked t (suc k) rows →
        insert_entry nat_cmp (cond b ((k, r.id) ∷ marked t (suc k) rows) (marked t (suc k) rows)) p id ≡ (p, id) ∷ cond b ((k, r.id) ∷ marked t (suc k) rows) (marked t (suc k) rows)
    by true h =
        ap (λ o. match_ordering o ((p, id) ∷ (k, r.id) ∷ marked t (suc k) rows) ((k, id) ∷ marked t (suc k) rows) ((k, r.id) ∷ insert_entry nat_cmp (marked t (suc k) rows) p id)) (is_less p k lt)
    by false h = h

  -- in its place
  pub marked_more : (rows : List Row) (k q : ℕ) (t : ℕ → Bool) (row : Row) → p ≡ k + q → slice_get rows q ≡ Some row → row.id ≡ id →
      insert_entry nat_cmp (marked t k rows) p id ≡ marked (λ n. t n || eqb p n) k rows
  marked_more [] k q t row e at is = cc
  marked_more (r ∷ rows) k zero t row e at is = by (t k) where
    u : ℕ → Bool
    u n = t n || eqb p n

    same : r.id ≡ id
    same = let s : r ≡ row = cc in ap (λ (x : Row). x.id) s ∙ is

    rest : marked t (suc k) rows ≡ marked (λ n. t n || eqb p n) (suc k) rows
    rest = agree rows (suc k) t (λ n. t n || eqb p n) (λ n a b. sym (or_none (t n)) ∙ ap (λ x. t n || x) (sym (ne_eqb p n (λ z. omega arith))))

    by : (b : Bool) → insert_entry nat_cmp (cond b ((k, r.id) ∷ marked t (suc k) rows) (marked t (suc k) rows)) p id ≡
        cond (b || eqb p k) ((k, r.id) ∷ marked (λ n. t n || eqb p n) (suc k) rows) (marked (λ n. t n || eqb p n) (suc k) rows)
    by true =
        ap (λ o. match_ordering o ((p, id) ∷ (k, r.id) ∷ marked t (suc k) rows) ((k, id) ∷ marked t (suc k) rows) ((k, r.id) ∷ insert_entry nat_cmp (marked t (suc k) rows) p id)) (is_equal p k (omega arith))
        ∙ ap (λ i. (k, i) ∷ marked t (suc k) rows) (sym same)
        ∙ ap (λ ms. (k, r.id) ∷ ms) rest
    by false =
        in_front rows (suc k) t (omega arith)
        ∙ ap (λ n. (n, id) ∷ marked t (suc k) rows) (let z : p ≡ k = omega arith in z)
        ∙ ap (λ i. (k, i) ∷ marked t (suc k) rows) (sym same)
        ∙ ap (λ ms. (k, r.id) ∷ ms) rest
        ∙ ap (λ b. cond b ((k, r.id) ∷ marked (λ n. t n || eqb p n) (suc k) rows) (marked (λ n. t n || eqb p n) (suc k) rows)) (sym (eq-eqb p k (omega arith)))
  marked_more (r ∷ rows) k (suc q) t row e at is = by (t k) (marked_more rows (suc k) q t row (omega arith) at is) where
    by : (b : Bool) → insert_entry nat_cmp (marked t (suc k) rows) p id ≡ marked (λ n. t n || eqb p n) (suc k) rows →
        insert_entry nat_cmp (cond b ((k, r.id) ∷ marked t (suc k) rows) (marked t (suc k) rows)) p id ≡
        cond (b || eqb p k) ((k, r.id) ∷ marked (λ n. t n || eqb p n) (suc k) rows) (marked (λ n. t n || eqb p n) (suc k) rows)
    by true h =
        ap (λ o. match_ordering o ((p, id) ∷ (k, r.id) ∷ marked t (suc k) rows) ((k, id) ∷ marked t (suc k) rows) ((k, r.id) ∷ insert_entry nat_cmp (marked t (suc k) rows) p id)) (is_greater p k (omega arith))
        ∙ ap (λ ms. (k, r.id) ∷ ms) h
    by false h =
        h ∙ ap (λ b. cond b ((k, r.id) ∷ marked (λ n. t n || eqb p n) (suc k) rows) (marked (λ n. t n || eqb p n) (suc k) rows)) (sym (ne_eqb p k (λ z. omega arith)))

-- no row stands there
pub none_more : (rows : List Row) (p : ℕ) (t : ℕ → Bool) → length rows ≤ p → marked t 0 rows ≡ marked (λ n. t n || eqb p n) 0 rows
none_more rows p t le = agree rows 0 t (λ n. t n || eqb p n) (λ n a b. sym (or_none (t n)) ∙ ap (λ x. t n || x) (sym (ne_eqb p n (λ z. omega arith))))

-- ---- places, one after the other

pub place_next : (rows : List Row) (t : ℕ → Bool) (places : List ℕ) (i : ℕ) → i < length places →
    marked (λ n. (t n || has_place (take i places) n) || eqb (get_or places i 0) n) 0 rows ≡ marked (λ n. t n || has_place (take (i + 1) places) n) 0 rows
place_next rows t places i lt =
    agree rows 0 (λ n. (t n || has_place (take i places) n) || eqb (get_or places i 0) n) (λ n. t n || has_place (take (i + 1) places) n)
    (λ n a b. or_more (t n) (has_place (take i places) n) (eqb (get_or places i 0) n) ∙ ap (λ x. t n || x) (sym (list_any_more (λ (q : ℕ). eqb q n) places i 0 lt)))

-- ---- what was marked, as a filter

pub found_is : (rows : List Row) (k : ℕ) (t : ℕ → Bool) (test : Row → Bool) → ((m n : ℕ) (row : Row) → m ≡ k + n → slice_get rows n ≡ Some row → t m ≡ test row) →
    values_of (marked t k rows) ≡ ids_of (filter test rows)
found_is [] k t test h = refl
found_is (r ∷ rows) k t test h =
    ap (λ b. values_of (cond b ((k, r.id) ∷ marked t (suc k) rows) (marked t (suc k) rows))) (h k 0 r (omega arith) refl)
    ∙ by (test r) (found_is rows (suc k) t test (λ m n row e at. h m (suc n) row (omega arith) at))
  where
    by : (b : Bool) → values_of (marked t (suc k) rows) ≡ ids_of (filter test rows) →
        values_of (cond b ((k, r.id) ∷ marked t (suc k) rows) (marked t (suc k) rows)) ≡ ids_of (cond b (r ∷ filter test rows) (filter test rows))
    by true h = ap (λ is. r.id ∷ is) h
    by false h = h
