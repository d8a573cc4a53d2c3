-- Cells of texts, by what the texts are.
use Rattle.std.proofs.Common.{arith, ◌≡◌, ◌+◌, ◌⊎◌, ℕ, ℤ, Option, Some, None, subst, List, length, take, inl, inr, refl, sym, ap, ◌∙◌}
use Rattle.std.proofs.lemmas.List.{length-append}
use Rattle.std.proofs.Math.Seq.{take-append_seam}
use Rattle.apex_num.specs.declared.cell.Cell.TheVariants as Cells
use Rattle.bundle_read.specs.declared.entries.CellValue.{CellValue}
use Rattle.bundle_read.specs.declared.entries.CellValue.TheVariants as Written
use Rattle.civil_dates.specs.Texts.{IsDateText, IsMomentText, date_value, moment_value}
use Rattle.row_cells.specs.Cells.{Only, IsIdCell, IsDayCell, IsMomentCell}
use Rattle.apex_num.specs.Ids.{Names, checks, long_id}

long_size : (id : List ℕ) → length (long_id id) ≡ length id + 3
long_size id = length-append id (checks id)

front : (id : List ℕ) → take (length id) (long_id id) ≡ id
front id = take-append_seam id (checks id)

by_forms : (text id other : List ℕ) → length id ≡ 15 → length other ≡ 15 → (text ≡ id) ⊎ (text ≡ long_id id) → (text ≡ other) ⊎ (text ≡ long_id other) → other ≡ id
by_forms text id other a b (inl e) (inl f) = sym f ∙ e
by_forms text id other a b (inl e) (inr f) = let l = ap length (sym e ∙ f) in let m = long_size other in absurd (omega arith)
by_forms text id other a b (inr e) (inl f) = let l = ap length (sym e ∙ f) in let m = long_size id in absurd (omega arith)
by_forms text id other a b (inr e) (inr f) =
    let same : long_id other ≡ long_id id = sym f ∙ e in
    sym (front other) ∙ ap (λ n. take n (long_id other)) (b ∙ sym a) ∙ ap (take (length id)) same ∙ front id

pub one_id : (text id other : List ℕ) → Names text id → Names text other → other ≡ id
one_id text id other h k = by_forms text id other h.0.0 k.0.0 h.1 k.1

-- ---- cells of a text

one_value : (o : Option ℤ) (m n : ℤ) → o ≡ Some m → o ≡ Some n → m ≡ n
one_value o m n h k = cc

no_value : (o : Option ℤ) (m : ℤ) → o ≡ None → o ≡ Some m → ⊥
no_value o m h k = cc

module _ (value : CellValue) (text bytes : List ℕ) (is : value ≡ Written.Text text) (same : bytes ≡ text) where
  pub day_some : (n : ℤ) → IsDateText bytes n → Only (IsDayCell value) (Some (Cells.Day n))
  day_some n h = subst (λ v. Only (IsDayCell v) (Some (Cells.Day n))) (sym is) (
    (n, subst (λ t. IsDateText t n) same h, refl),
    λ other (m, k, e). e ∙ ap Cells.Day (one_value (date_value bytes) m n (subst (λ t. IsDateText t m) (sym same) k) h),
  )

  pub day_none : date_value bytes ≡ None → Only (IsDayCell value) None
  day_none h = subst (λ v. Only (IsDayCell v) None) (sym is) (λ c (m, k, e). no_value (date_value bytes) m h (subst (λ t. IsDateText t m) (sym same) k))

  pub moment_some : (n : ℤ) → IsMomentText bytes n → Only (IsMomentCell value) (Some (Cells.Moment n))
  moment_some n h = subst (λ v. Only (IsMomentCell v) (Some (Cells.Moment n))) (sym is) (
    (n, subst (λ t. IsMomentText t n) same h, refl),
    λ other (m, k, e). e ∙ ap Cells.Moment (one_value (moment_value bytes) m n (subst (λ t. IsMomentText t m) (sym same) k) h),
  )

  pub moment_none : moment_value bytes ≡ None → Only (IsMomentCell value) None
  moment_none h = subst (λ v. Only (IsMomentCell v) None) (sym is) (λ c (m, k, e). no_value (moment_value bytes) m h (subst (λ t. IsMomentText t m) (sym same) k))

  pub id_some : (id : List ℕ) → Names bytes id → Only (IsIdCell value) (Some (Cells.Id id))
  id_some id h = subst (λ v. Only (IsIdCell v) (Some (Cells.Id id))) (sym is) (
    (id, subst (λ t. Names t id) same h, refl),
    λ other (m, k, e). e ∙ ap Cells.Id (one_id bytes id m h (subst (λ t. Names t m) (sym same) k)),
  )
