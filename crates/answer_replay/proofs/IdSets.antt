-- Ids that rise, each once.
use Rattle.std.proofs.Common.{◌≡◌, refl, sym, ap, ap₂, ◌∙◌, ℕ, Bool, true, false, List, [], ◌∷◌}
use Rattle.std.specs.Prelude.{◌||◌, bytes_eq}
use Rattle.std.specs.Cmp.{both_ways}
use Rattle.std.specs.List.{list_any}
use Rattle.std.specs.BTreeSet.{insert_key}
use Rattle.std.specs.BTreeMap.{is_at}
use Rattle.std.specs.Ordering.{match_ordering}
use Rattle.std.specs.FinMap.{slice_cmp-IsAntisymmetric, nat_cmp-IsAntisymmetric}
use Rattle.std.specs.declared.cmp.Ordering.{Ordering}
use Rattle.std.specs.declared.cmp.Ordering.TheVariants.{Less, Equal, Greater}
use Rattle.std.proofs.lemmas.Map.Text.{is_eq-slice_cmp}
use Rattle.std.proofs.lemmas.Slice.Eq.{bytes_eq-Decides}
use Rattle.row_meaning.specs.Cells.{bytes_cmp}
use Rattle.row_meaning.specs.Stores.{has_id}
use Rattle.save_meaning.specs.Drafts.{with_id, with_id_by, with_ids}

same_bytes : (a b : List ℕ) → bytes_eq a b ≡ bytes_eq b a
same_bytes a b = both_ways (bytes_eq a b) (bytes_eq b a) (λ h. (bytes_eq-Decides b a).1 (sym ((bytes_eq-Decides a b).0 h))) (λ h. (bytes_eq-Decides a b).1 (sym ((bytes_eq-Decides b a).0 h)))

-- ---- as a set of std has them

pub insert_is : (id : List ℕ) (ids : List (List ℕ)) → insert_key bytes_cmp ids id ≡ with_id id ids
insert_is id [] = refl
insert_is id (i ∷ ids) = by (bytes_cmp id i) (insert_is id ids) where
  by : (o : Ordering) → insert_key bytes_cmp ids id ≡ with_id id ids → match_ordering o (id ∷ i ∷ ids) (i ∷ ids) (i ∷ insert_key bytes_cmp ids id) ≡ with_id_by o id i ids (with_id id ids)
  by Less h = refl
  by Equal h = refl
  by Greater h = ap (λ is. i ∷ is) h

pub contains_is : (id : List ℕ) (ids : List (List ℕ)) → list_any (is_at (bytes_cmp id)) ids ≡ has_id ids id
contains_is id [] = refl
contains_is id (i ∷ ids) = ap₂ (λ a b. a || b) (is_eq-slice_cmp id i ∙ same_bytes id i) (contains_is id ids)

-- ---- which Ids are there

or_swap : (a b c : Bool) → (a || (b || c)) ≡ (b || (a || c))
or_swap true true c = refl
or_swap true false c = refl
or_swap false b c = refl

or_twice : (a b : Bool) → (a || b) ≡ (a || (a || b))
or_twice true b = refl
or_twice false b = refl

has_with_id : (new : List ℕ) (ids : List (List ℕ)) (id : List ℕ) → has_id (with_id new ids) id ≡ (bytes_eq new id || has_id ids id)
has_with_id new [] id = refl
has_with_id new (i ∷ ids) id = by (bytes_cmp new i) refl (has_with_id new ids id) where
  by : (o : Ordering) → bytes_cmp new i ≡ o → has_id (with_id new ids) id ≡ (bytes_eq new id || has_id ids id) →
      has_id (with_id_by o new i ids (with_id new ids)) id ≡ (bytes_eq new id || (bytes_eq i id || has_id ids id))
  by Less e h = refl
  by Equal e h =
      or_twice (bytes_eq i id) (has_id ids id)
      ∙ ap (λ (x : List ℕ). bytes_eq x id || (bytes_eq i id || has_id ids id)) (sym (slice_cmp-IsAntisymmetric nat_cmp-IsAntisymmetric new i e))
  by Greater e h = ap (λ b. bytes_eq i id || b) h ∙ or_swap (bytes_eq i id) (bytes_eq new id) (has_id ids id)

or_assoc : (a b c : Bool) → (a || (b || c)) ≡ ((b || a) || c)
or_assoc true true c = refl
or_assoc true false c = refl
or_assoc false true c = refl
or_assoc false false c = refl

-- an Id is among the rising ones exactly where it is one of those that they were made of
has_with_ids : (new ids : List (List ℕ)) (id : List ℕ) → has_id (with_ids new ids) id ≡ (has_id new id || has_id ids id)
has_with_ids [] ids id = refl
has_with_ids (n ∷ new) ids id = has_with_ids new (with_id n ids) id ∙ ap (λ b. has_id new id || b) (has_with_id n ids id) ∙ or_assoc (has_id new id) (bytes_eq n id) (has_id ids id)

or_false : (a : Bool) → (a || false) ≡ a
or_false true = refl
or_false false = refl

pub has_rising : (ids : List (List ℕ)) (id : List ℕ) → has_id (with_ids ids []) id ≡ has_id ids id
has_rising ids id = has_with_ids ids [] id ∙ or_false (has_id ids id)
