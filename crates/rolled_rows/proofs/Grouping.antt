-- Rows by the rows that they name as their masters.
use Rattle.std.proofs.Common.{◌≡◌, ℕ, ◌+◌, ◌<◌, Bool, true, false, cond, List, [], ◌∷◌, ◌++◌, length, take, get_or, filter, Option, None, Some, slice_get, refl, sym, ap, ◌∙◌}
use Rattle.std.specs.Prelude.{◌&&◌}
use Rattle.std.proofs.lemmas.Bool.{eqb-true}
use Rattle.std.proofs.lemmas.List.{take_more}
use Rattle.apex_schema.specs.declared.schema.Field.{Field}
use Rattle.apex_schema.specs.declared.schema.Schema.{Schema}
use Rattle.apex_rows.specs.declared.row.Row.{Row}
use Rattle.rolled_rows.specs.Groups.{has_rollup, is_at, is_summed, is_summed_in, with_row}
use Rattle.rolled_rows.specs.RollUps.{fields_of, is_object, is_under, master_field, master_of, under, under_by}
use Rattle.rolled_rows.proofs.Places.{found_passes}

-- ---- rows, one after the other

filter_last : (p : Row → Bool) (xs : List Row) (x : Row) → filter p (xs ++ x ∷ []) ≡ with_row (p x) (filter p xs) x
filter_last p [] x = by (p x) where
  by : (b : Bool) → cond b (x ∷ []) [] ≡ with_row b [] x
  by true = refl
  by false = refl
filter_last p (y ∷ xs) x = ap (λ l. cond (p y) (y ∷ l) l) (filter_last p xs x) ∙ by (p y) (p x) where
  by : (b d : Bool) → cond b (y ∷ with_row d (filter p xs) x) (with_row d (filter p xs) x) ≡ with_row d (cond b (y ∷ filter p xs) (filter p xs)) x
  by true true = refl
  by true false = refl
  by false true = refl
  by false false = refl

pub row_more : (p : Row → Bool) (rows : List Row) (i : ℕ) (row : Row) (cur new : List Row) → i < length rows → row ≡ get_or rows i row → cur ≡ filter p (take i rows) → new ≡ with_row (p row) cur row → new ≡ filter p (take (i + 1) rows)
row_more p rows i row cur new lt at h is =
    is ∙ ap (λ l. with_row (p row) l row) h ∙ sym (ap (filter p) (take_more rows i row lt ∙ ap (λ x. take i rows ++ x ∷ []) (sym at)) ∙ filter_last p (take i rows) row)

-- ---- the rows under a master row

same_filter : (p q : Row → Bool) → ((r : Row) → p r ≡ q r) → (rows : List Row) → filter p rows ≡ filter q rows
same_filter p q h [] = refl
same_filter p q h (r ∷ rows) = ap (λ b. cond b (r ∷ filter p rows) (filter p rows)) (h r) ∙ ap (λ l. cond (q r) (r ∷ l) l) (same_filter p q h rows)

module _ (schema : Schema) (detail : ℕ) (master : Row) (rows : List Row) (has : has_rollup detail (fields_of schema master.object) ≡ true) where
  leads : (o : Option ℕ) → is_object master.object o ≡ true → is_summed schema detail o ≡ true
  leads None h = absurd (cc)
  leads (Some o) h = ap (λ m. has_rollup detail (fields_of schema m)) (eqb-true o master.object h) ∙ has

  summed : (field : ℕ) → master_field schema detail master.object ≡ Some field → is_summed_in schema detail (slice_get (fields_of schema detail) field) ≡ true
  summed field e =
      let (f, there, passes) = found_passes (λ (f : Field). is_object master.object (master_of f.kind)) (fields_of schema detail) field e in
      ap (is_summed_in schema detail) there ∙ leads (master_of f.kind) passes

  pub under_found : (field : ℕ) (these : List Row) → Some field ≡ master_field schema detail master.object → these ≡ filter (is_at schema detail field master.id) rows → these ≡ under schema detail master rows
  under_found field these e h =
      h ∙ same_filter (is_at schema detail field master.id) (is_under detail field master.id) (λ r. ap (λ b. b && is_under detail field master.id r) (summed field (sym e))) rows
      ∙ ap (λ o. under_by detail o master.id rows) e
