-- Places of rows under the Ids that they name.
use Rattle.std.proofs.Common.{◌≡◌, ◌<◌, ◌+◌, ℕ, zero, suc, Bool, true, false, cond, List, [], ◌∷◌, ◌++◌, length, take, get_or, Option, Some, None, refl, sym, ap, ap₂, ◌∙◌, arith}
use Rattle.std.specs.Prelude.{filter, slice_get}
use Rattle.std.proofs.lemmas.List.{append_assoc, append-nil, take_more}
use Rattle.apex_rows.specs.declared.row.Row.{Row}
use Rattle.row_meaning.specs.Accesses.{is_id}
use Rattle.row_meaning.specs.Conds.{cell_of}
use Rattle.query_rows.specs.Families.{at_places, family, row_in}

at_push : (rows : List Row) (ps : List ℕ) (p : ℕ) → at_places rows (ps ++ p ∷ []) ≡ at_places rows ps ++ row_in (slice_get rows p)
at_push rows [] p = append-nil (row_in (slice_get rows p))
at_push rows (q ∷ ps) p = ap (λ rs. row_in (slice_get rows q) ++ rs) (at_push rows ps p) ∙ sym (append_assoc (row_in (slice_get rows q)) (at_places rows ps) (row_in (slice_get rows p)))

family_push : (lookup : ℕ) (id : List ℕ) (xs : List Row) (x : Row) → family lookup (xs ++ x ∷ []) id ≡ family lookup xs id ++ cond (is_id (cell_of x lookup) id) (x ∷ []) []
family_push lookup id [] x = refl
family_push lookup id (y ∷ ys) x = by (is_id (cell_of y lookup) id) (family_push lookup id ys x) where
  by : (b : Bool) → family lookup (ys ++ x ∷ []) id ≡ family lookup ys id ++ cond (is_id (cell_of x lookup) id) (x ∷ []) [] →
      cond b (y ∷ family lookup (ys ++ x ∷ []) id) (family lookup (ys ++ x ∷ []) id) ≡ cond b (y ∷ family lookup ys id) (family lookup ys id) ++ cond (is_id (cell_of x lookup) id) (x ∷ []) []
  by true h = ap (λ (rs : List Row). y ∷ rs) h
  by false h = h

there : (rows : List Row) (i : ℕ) (row : Row) → i < length rows → row ≡ get_or rows i row → slice_get rows i ≡ Some row
there [] i row lt e = absurd (omega arith)
there (r ∷ rows) zero row lt e = ap Some (sym e)
there (r ∷ rows) (suc i) row lt e = there rows i row (omega arith) e

module _ (lookup : ℕ) (rows : List Row) (i : ℕ) (row : Row) (lt : i < length rows) (at : row ≡ get_or rows i row) where
  pub one_more : (old new id : List ℕ) → new ≡ cond (is_id (cell_of row lookup) id) (old ++ i ∷ []) old → at_places rows old ≡ family lookup (take i rows) id →
      at_places rows new ≡ family lookup (take (i + 1) rows) id
  one_more old new id e h =
      ap (at_places rows) e ∙ by (is_id (cell_of row lookup) id)
      ∙ sym (ap (λ (rs : List Row). family lookup rs id) (take_more rows i row lt ∙ ap (λ (r : Row). take i rows ++ r ∷ []) (sym at)) ∙ family_push lookup id (take i rows) row) where
        by : (b : Bool) → at_places rows (cond b (old ++ i ∷ []) old) ≡ family lookup (take i rows) id ++ cond b (row ∷ []) []
        by true = at_push rows old i ∙ ap₂ (λ (xs ys : List Row). xs ++ ys) h (ap row_in (there rows i row lt at))
        by false = h ∙ sym (append-nil (family lookup (take i rows) id))

pub none_there : (xs : List Row) (o : Option Row) → o ≡ None → xs ≡ xs ++ row_in o
none_there xs o e = sym (ap (λ p. xs ++ row_in p) e ∙ append-nil xs)
