-- The cells of a row, field by field.
use Rattle.std.proofs.Common.{arith, ◌≡◌, ℕ, zero, suc, ◌+◌, ◌<◌, List, [], ◌∷◌, length, take, get_or, set, Option, None, Some, refl, sym, ap, ◌∙◌, subst}
use Rattle.std.specs.Prelude.{ℤ}
use Rattle.apex_num.specs.declared.cell.Cell.{Cell}
use Rattle.apex_schema.specs.declared.schema.Field.{Field}
use Rattle.apex_schema.specs.declared.schema.Rollup.{Rollup}
use Rattle.rolled_rows.specs.Groups.{with_cell}
use Rattle.rolled_rows.specs.RollUps.{new_cell, new_cells, rollup_of}

module _ (value : Rollup → Option ℤ) where
  stays : (o : Option Rollup) (n : ℕ) → with_cell value o [] n ≡ []
  stays None n = refl
  stays (Some r) zero = refl
  stays (Some r) (suc n) = refl

  cells_suc : (fs : List Field) (cs : List Cell) (i : ℕ) (f : Field) → i < length fs → f ≡ get_or fs i f → new_cells value (take (suc i) fs) cs ≡ with_cell value (rollup_of f.kind) (new_cells value (take i fs) cs) i
  cells_suc [] cs i f lt at = absurd (omega arith)
  cells_suc (g ∷ fs) [] zero f lt at = sym (stays (rollup_of f.kind) 0)
  cells_suc (g ∷ fs) [] (suc i) f lt at = sym (stays (rollup_of f.kind) (suc i))
  cells_suc (g ∷ fs) (c ∷ cs) zero f lt at = ap (λ (x : Field). new_cell value (rollup_of x.kind) c ∷ cs) (sym at) ∙ first (rollup_of f.kind) where
    first : (o : Option Rollup) → new_cell value o c ∷ cs ≡ with_cell value o (c ∷ cs) 0
    first None = refl
    first (Some r) = refl
  cells_suc (g ∷ fs) (c ∷ cs) (suc i) f lt at = ap (λ l. new_cell value (rollup_of g.kind) c ∷ l) (cells_suc fs cs i f (omega arith) at) ∙ push (rollup_of f.kind) where
    push : (o : Option Rollup) → new_cell value (rollup_of g.kind) c ∷ with_cell value o (new_cells value (take i fs) cs) i ≡ with_cell value o (new_cell value (rollup_of g.kind) c ∷ new_cells value (take i fs) cs) (suc i)
    push None = refl
    push (Some r) = refl

  pub cells_more : (fs : List Field) (cs : List Cell) (i : ℕ) (f : Field) → i < length fs → f ≡ get_or fs i f → new_cells value (take (i + 1) fs) cs ≡ with_cell value (rollup_of f.kind) (new_cells value (take i fs) cs) i
  cells_more fs cs i f lt at =
      let next : suc i ≡ i + 1 = omega arith in
      subst (λ n. new_cells value (take n fs) cs ≡ with_cell value (rollup_of f.kind) (new_cells value (take i fs) cs) i) next (cells_suc fs cs i f lt at)
