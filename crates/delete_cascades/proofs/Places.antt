-- Places of rows under the Ids that they name.
use Rattle.std.proofs.Common.{◌≡◌, ℕ, zero, suc, ◌+◌, ◌<◌, ◌≤◌, Bool, true, false, cond, List, [], ◌∷◌, ◌++◌, length, get_or, Some, refl, sym, ap, ◌∙◌, arith, eqb, ltb, lt-ltb, le-ltb, ⊎_elim}
use Rattle.std.specs.Prelude.{◌||◌, ◌&&◌, slice_get, bytes_eq}
use Rattle.std.specs.Cmp.{both_ways}
use Rattle.std.proofs.lemmas.Bool.{cases_order, eq-eqb, ne_eqb}
use Rattle.std.proofs.lemmas.Slice.Eq.{bytes_eq-Decides}
use Rattle.apex_num.specs.declared.cell.Cell.TheVariants as C
use Rattle.apex_rows.specs.declared.row.Row.{Row}
use Rattle.row_meaning.specs.Conds.{cell_of}
use Rattle.save_statements.specs.declared.pending.Naming.{Naming}
use Rattle.save_statements.specs.Records.{is_among}
use Rattle.delete_cascades.specs.Layers.{has_place, names}
use Rattle.delete_cascades.proofs.Tests.{any_append, or_false, or_none}

pub same_bytes : (a b : List ℕ) → bytes_eq a b ≡ bytes_eq b a
same_bytes a b = both_ways (bytes_eq a b) (bytes_eq b a) (λ h. (bytes_eq-Decides b a).1 (sym ((bytes_eq-Decides a b).0 h))) (λ h. (bytes_eq-Decides a b).1 (sym ((bytes_eq-Decides b a).0 h)))

-- ---- a place more, where a field names an Id

place_more : (ps : List ℕ) (p n : ℕ) (b : Bool) → has_place (cond b (ps ++ p ∷ []) ps) n ≡ (has_place ps n || (eqb p n && b))
place_more ps p n true = any_append (λ (q : ℕ). eqb q n) ps (p ∷ []) ∙ ap (λ b. has_place ps n || b) (or_none (eqb p n) ∙ sym (and_true (eqb p n))) where
  and_true : (a : Bool) → (a && true) ≡ a
  and_true true = refl
  and_true false = refl
place_more ps p n false = or_false (has_place ps n) (eqb p n) false refl

module _ (naming : Naming) (row : Row) (id : List ℕ) where
  pub names_this : (i : List ℕ) → eqb naming.object row.object ≡ true → cell_of row naming.field ≡ C.Id i → names naming id row ≡ bytes_eq i id
  names_this i e is = ap (λ b. b && is_among (id ∷ []) (cell_of row naming.field)) e ∙ ap (λ c. is_among (id ∷ []) c) is ∙ or_none (bytes_eq id i) ∙ same_bytes id i

  pub named_more : (old new : List ℕ) (i : List ℕ) (p n : ℕ) → eqb naming.object row.object ≡ true → cell_of row naming.field ≡ C.Id i → new ≡ cond (bytes_eq i id) (old ++ p ∷ []) old →
      has_place new n ≡ (has_place old n || (eqb p n && names naming id row))
  named_more old new i p n e is h = ap (λ ps. has_place ps n) h ∙ place_more old p n (bytes_eq i id) ∙ ap (λ b. has_place old n || (eqb p n && b)) (sym (names_this i e is))

-- ---- the rows of a list up to a place

at_place : (rows : List Row) (i : ℕ) (row : Row) → i < length rows → row ≡ get_or rows i row → slice_get rows i ≡ Some row
at_place [] i row lt e = absurd (omega arith)
at_place (r ∷ rows) zero row lt e = ap Some (sym e)
at_place (r ∷ rows) (suc i) row lt e = at_place rows i row (omega arith) e

within : (rows : List Row) (n : ℕ) (row : Row) → slice_get rows n ≡ Some row → n < length rows
within [] n row e = cc
within (r ∷ rows) zero row e = omega arith
within (r ∷ rows) (suc n) row e = let h = within rows n row e in omega arith

pub all_there : (rows : List Row) (n i : ℕ) (row : Row) (found b : Bool) → slice_get rows n ≡ Some row → length rows ≤ i → found ≡ (ltb n i && b) → found ≡ b
all_there rows n i row found b e le h = let lt = within rows n row e in h ∙ ap (λ t. t && b) (lt-ltb n i (omega arith))

pub next_place : (rows : List Row) (i n : ℕ) (r row : Row) (test : Row → Bool) (old new : Bool) → i < length rows → r ≡ get_or rows i r → slice_get rows n ≡ Some row →
    old ≡ (ltb n i && test row) → new ≡ (old || (eqb i n && test r)) → new ≡ (ltb n (i + 1) && test row)
next_place rows i n r row test old new lt at e h is =
    is ∙ ap (λ b. b || (eqb i n && test r)) h
    ∙ ⊎_elim (λ q. same q) (λ q. ⊎_elim (λ l. earlier l) (λ l. later l) q) (cases_order n i)
  where
    same : n ≡ i → ((ltb n i && test row) || (eqb i n && test r)) ≡ (ltb n (i + 1) && test row)
    same q =
        let there : Some r ≡ Some row = sym (at_place rows i r lt at) ∙ ap (slice_get rows) (sym q) ∙ e in
        let is' : r ≡ row = cc in
        ap (λ b. (b && test row) || (eqb i n && test r)) (le-ltb n i (omega arith))
        ∙ ap (λ b. b && test r) (eq-eqb i n (sym q))
        ∙ ap test is'
        ∙ ap (λ b. b && test row) (sym (lt-ltb n (i + 1) (omega arith)))

    earlier : n < i → ((ltb n i && test row) || (eqb i n && test r)) ≡ (ltb n (i + 1) && test row)
    earlier l =
        ap (λ b. (b && test row) || (eqb i n && test r)) (lt-ltb n i l)
        ∙ ap (λ b. test row || (b && test r)) (ne_eqb i n (λ q. omega arith))
        ∙ or_none (test row)
        ∙ ap (λ b. b && test row) (sym (lt-ltb n (i + 1) (omega arith)))

    later : i < n → ((ltb n i && test row) || (eqb i n && test r)) ≡ (ltb n (i + 1) && test row)
    later l =
        ap (λ b. (b && test row) || (eqb i n && test r)) (le-ltb n i (omega arith))
        ∙ ap (λ b. b && test r) (ne_eqb i n (λ q. omega arith))
        ∙ ap (λ b. b && test row) (sym (le-ltb n (i + 1) (omega arith)))
