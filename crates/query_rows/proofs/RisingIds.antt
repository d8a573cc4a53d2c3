-- Ids that rise.
use Rattle.std.proofs.Common.{◌≡◌, ℕ, List, [], ◌∷◌, ◌++◌, refl, sym, ap, ◌∙◌}
use Rattle.std.specs.BTreeSet.{insert_key}
use Rattle.std.specs.Ordering.{match_ordering}
use Rattle.std.specs.declared.cmp.Ordering.{Ordering}
use Rattle.std.specs.declared.cmp.Ordering.TheVariants.{Less, Equal, Greater}
use Rattle.row_meaning.specs.Cells.{bytes_cmp}
use Rattle.save_meaning.specs.Drafts.{with_id, with_id_by, with_ids}

pub insert_is : (id : List ℕ) (ids : List (List ℕ)) → insert_key bytes_cmp ids id ≡ with_id id ids
insert_is id [] = refl
insert_is id (i ∷ ids) = by (bytes_cmp id i) (insert_is id ids) where
  by : (o : Ordering) → insert_key bytes_cmp ids id ≡ with_id id ids → match_ordering o (id ∷ i ∷ ids) (i ∷ ids) (i ∷ insert_key bytes_cmp ids id) ≡ with_id_by o id i ids (with_id id ids)
  by Less h = refl
  by Equal h = refl
  by Greater h = ap (λ is. i ∷ is) h

pub with_ids-append : (xs ys ids : List (List ℕ)) → with_ids (xs ++ ys) ids ≡ with_ids ys (with_ids xs ids)
with_ids-append [] ys ids = refl
with_ids-append (x ∷ xs) ys ids = with_ids-append xs ys (with_id x ids)
