-- Rows by their Ids.
use Rattle.std.proofs.Common.{◌≡◌, refl, ap, sym, ◌∙◌, ℕ, Bool, true, false, cond, List, [], ◌∷◌, Some}
use Rattle.std.specs.Prelude.{bytes_eq}
use Rattle.std.specs.Cmp.{both_ways}
use Rattle.std.specs.Ordering.{is_eq, match_ordering}
use Rattle.std.specs.Map.{lookup, values_of}
use Rattle.std.specs.BTreeMap.{insert_entry, is_at}
use Rattle.std.specs.FinMap.{slice_cmp-IsAntisymmetric, nat_cmp-IsAntisymmetric}
use Rattle.std.specs.declared.cmp.Ordering.{Ordering}
use Rattle.std.specs.declared.cmp.Ordering.TheVariants.{Less, Equal, Greater}
use Rattle.std.proofs.lemmas.Map.Text.{is_eq-slice_cmp}
use Rattle.std.proofs.lemmas.Slice.Eq.{bytes_eq-Decides}
use Rattle.apex_rows.specs.declared.row.Row.{Row}
use Rattle.row_meaning.specs.Cells.{bytes_cmp}
use Rattle.row_meaning.specs.Stores.{find, put, put_all, put_by}
use Rattle.query_rows.specs.Known.{AllFit}

same_bytes : (a b : List ℕ) → bytes_eq a b ≡ bytes_eq b a
same_bytes a b = both_ways (bytes_eq a b) (bytes_eq b a) (λ h. (bytes_eq-Decides b a).1 (sym ((bytes_eq-Decides a b).0 h))) (λ h. (bytes_eq-Decides a b).1 (sym ((bytes_eq-Decides b a).0 h)))

pub find_is : (id : List ℕ) (es : List (List ℕ × Row)) → AllFit es → lookup (is_at (bytes_cmp id)) es ≡ find (values_of es) id
find_is id [] fit = refl
find_is id (e ∷ es) fit =
    ap (λ b. cond b (Some e.1) (lookup (is_at (bytes_cmp id)) es)) (is_eq-slice_cmp id e.0 ∙ same_bytes id e.0 ∙ ap (λ i. bytes_eq i id) (sym fit.0))
    ∙ ap (λ o. cond (bytes_eq e.1.id id) (Some e.1) o) (find_is id es fit.1)

pub put_is : (row : Row) (es : List (List ℕ × Row)) → AllFit es → values_of (insert_entry bytes_cmp es row.id row) ≡ put row (values_of es)
put_is row [] fit = refl
put_is row (e ∷ es) fit = by (bytes_cmp row.id e.0) (put_is row es fit.1) ∙ ap (λ o. put_by o row e.1 (values_of es) (put row (values_of es))) (ap (bytes_cmp row.id) (sym fit.0)) where
  by : (o : Ordering) → values_of (insert_entry bytes_cmp es row.id row) ≡ put row (values_of es) →
      values_of (match_ordering o ((row.id, row) ∷ e ∷ es) ((e.0, row) ∷ es) (e ∷ insert_entry bytes_cmp es row.id row)) ≡ put_by o row e.1 (values_of es) (put row (values_of es))
  by Less h = refl
  by Equal h = refl
  by Greater h = ap (λ (rs : List Row). e.1 ∷ rs) h

pub fit_after : (row : Row) (es : List (List ℕ × Row)) → AllFit es → AllFit (insert_entry bytes_cmp es row.id row)
fit_after row [] all = (refl, tt)
fit_after row (e ∷ es) all = by (bytes_cmp row.id e.0) refl (fit_after row es all.1) where
  by : (o : Ordering) → bytes_cmp row.id e.0 ≡ o → AllFit (insert_entry bytes_cmp es row.id row) →
      AllFit (match_ordering o ((row.id, row) ∷ e ∷ es) ((e.0, row) ∷ es) (e ∷ insert_entry bytes_cmp es row.id row))
  by Less same more = (refl, all)
  by Equal same more = (slice_cmp-IsAntisymmetric nat_cmp-IsAntisymmetric row.id e.0 same, all.1)
  by Greater same more = (all.0, more)
