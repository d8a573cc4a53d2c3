-- Rows that are looked up by their Ids.
use Rattle.std.proofs.Common.{◌≡◌, refl, sym, ap, ◌∙◌, ℕ, zero, suc, ◌+◌, ◌<◌, Bool, true, false, cond, List, [], ◌∷◌, length, drop, get_or, Option, None, Some, Bor, arith, add-one}
use Rattle.std.specs.Prelude.{slice_get, bytes_eq}
use Rattle.std.specs.Option.{option_copied}
use Rattle.std.specs.Slice.{IsItemAt}
use Rattle.std.proofs.lemmas.Option.{slice_get_past}
use Rattle.apex_rows.specs.declared.row.Row.{Row}
use Rattle.row_meaning.specs.Stores.{find}
use Rattle.save_loading.specs.Places.{row_at}

-- what is left of a list begins with what stands there
pub here : {A : Type 0} (i : ℕ) (xs : List A) (x : A) → i < length xs → x ≡ get_or xs i x → drop i xs ≡ x ∷ drop (i + 1) xs
here i xs x lt e = go i xs x lt e ∙ ap (λ n. x ∷ drop n xs) (sym (add-one i)) where
  go : {A : Type 0} (i : ℕ) (xs : List A) (x : A) → i < length xs → x ≡ get_or xs i x → drop i xs ≡ x ∷ drop (suc i) xs
  go i [] x lt e = absurd (omega arith)
  go zero (y ∷ xs) x lt e = ap (λ z. z ∷ xs) (sym e)
  go (suc i) (y ∷ xs) x lt e = go i xs x (omega arith) e

there : {A : Type 0} (i : ℕ) (xs : List A) (x : A) → i < length xs → x ≡ get_or xs i x → slice_get xs i ≡ Some x
there i [] x lt e = absurd (omega arith)
there zero (y ∷ xs) x lt e = ap (λ z. Some z) (sym e)
there (suc i) (y ∷ xs) x lt e = there i xs x (omega arith) e

-- what a slice lends at a place
pub lent : {A : Type 0} (xs : List A) (i : ℕ) (r : Option (Bor A)) → IsItemAt xs i r → option_copied r ≡ slice_get xs i
lent xs i None h = sym (slice_get_past xs i h.3)
lent xs i (Some x) h = sym (there i xs x.now h.3.0 h.1)

-- with the place of one row more, in front of the others
pub placed_more : (rows : List Row) (i : ℕ) (row : Row) (old new : Option ℕ) (id : List ℕ) → i < length rows → row ≡ get_or rows i row → new ≡ cond (bytes_eq row.id id) (Some i) old →
    row_at rows old ≡ find (drop (i + 1) rows) id → row_at rows new ≡ find (drop i rows) id
placed_more rows i row old new id lt e n h = ap (row_at rows) n ∙ by (bytes_eq row.id id) ∙ sym (ap (λ rs. find rs id) (here i rows row lt e)) where
  by : (b : Bool) → row_at rows (cond b (Some i) old) ≡ cond b (Some row) (find (drop (i + 1) rows) id)
  by true = there i rows row lt e
  by false = h
