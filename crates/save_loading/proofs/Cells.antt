-- Rows that records would be, cell by cell.
use Rattle.std.proofs.Common.{◌≡◌, ℕ, zero, suc, ◌+◌, ◌<◌, List, [], ◌∷◌, ◌++◌, length, drop, get_or, sym, ap, ◌∙◌, append_assoc, add-one, arith}
use Rattle.std.specs.Prelude.{Option, None}
use Rattle.apex_num.specs.declared.cell.Cell.{Cell}
use Rattle.apex_schema.specs.declared.schema.Field.{Field}
use Rattle.save_meaning.specs.Drafts.{new_cell, new_cells}
use Rattle.save_loading.specs.Known.{known_at}

module _ (user : ℕ) where
  -- the cells from field i on begin with that of field i, where no more is known
  none_here : (i n : ℕ) (fs : List Field) (f : Field) → i < length fs → f ≡ get_or fs i f → new_cells user n (drop i fs) [] ≡ new_cell user n f None ∷ new_cells user (suc n) (drop (suc i) fs) []
  none_here i n [] f lt e = absurd (omega arith)
  none_here zero n (g ∷ fs) f lt e = ap (λ (x : Field). new_cell user n x None ∷ new_cells user (suc n) fs []) (sym e)
  none_here (suc i) n (g ∷ fs) f lt e = none_here i n fs f (omega arith) e

  -- the cells from field i on begin with that of field i
  from_here : (i n : ℕ) (fs : List Field) (ks : List (Option Cell)) (f : Field) → i < length fs → f ≡ get_or fs i f →
      new_cells user n (drop i fs) (drop i ks) ≡ new_cell user n f (known_at ks i) ∷ new_cells user (suc n) (drop (suc i) fs) (drop (suc i) ks)
  from_here i n [] ks f lt e = absurd (omega arith)
  from_here zero n (g ∷ fs) [] f lt e = ap (λ (x : Field). new_cell user n x None ∷ new_cells user (suc n) fs []) (sym e)
  from_here zero n (g ∷ fs) (k ∷ ks) f lt e = ap (λ (x : Field). new_cell user n x k ∷ new_cells user (suc n) fs ks) (sym e)
  from_here (suc i) n (g ∷ fs) [] f lt e = none_here i n fs f (omega arith) e
  from_here (suc i) n (g ∷ fs) (k ∷ ks) f lt e = from_here i n fs ks f (omega arith) e

  -- one cell more
  pub cells_more : (i : ℕ) (fs : List Field) (ks : List (Option Cell)) (f : Field) (old new whole : List Cell) (c : Cell) → i < length fs → f ≡ get_or fs i f →
      old ++ new_cells user i (drop i fs) (drop i ks) ≡ whole → c ≡ new_cell user i f (known_at ks i) → new ≡ old ++ c ∷ [] → new ++ new_cells user (i + 1) (drop (i + 1) fs) (drop (i + 1) ks) ≡ whole
  cells_more i fs ks f old new whole c lt e o is more =
      ap (λ cs. cs ++ new_cells user (i + 1) (drop (i + 1) fs) (drop (i + 1) ks)) more ∙ append_assoc old (c ∷ []) (new_cells user (i + 1) (drop (i + 1) fs) (drop (i + 1) ks))
      ∙ ap (λ n. old ++ c ∷ new_cells user n (drop n fs) (drop n ks)) (add-one i)
      ∙ ap (λ x. old ++ x ∷ new_cells user (suc i) (drop (suc i) fs) (drop (suc i) ks)) is ∙ ap (λ cs. old ++ cs) (sym (from_here i i fs ks f lt e)) ∙ o
