-- Changes by their Ids.
use Rattle.std.proofs.Common.{◌≡◌, refl, ap, sym, subst, ◌∙◌, ℕ, Bool, true, false, cond, List, [], ◌∷◌, ◌++◌, map, Some}
use Rattle.std.specs.Prelude.{◌||◌, eqb, bytes_eq}
use Rattle.std.specs.List.{AllByRecursion}
use Rattle.std.specs.List.Sorted.{IsStrictlySortedBy}
use Rattle.txn_overlay.specs.Merging.{merge}
use Rattle.txn_overlay.proofs.Merges.{Above, InOrder, merge_is}
use Rattle.std.specs.Option.{is_some}
use Rattle.std.specs.Ordering.{match_ordering}
use Rattle.std.specs.Map.{keys_of, lookup}
use Rattle.std.specs.BTreeMap.{insert_entry, is_at}
use Rattle.std.specs.declared.cmp.Ordering.{Ordering}
use Rattle.std.specs.declared.cmp.Ordering.TheVariants.{Less, Equal, Greater}
use Rattle.std.proofs.lemmas.Bool.{eqb-true, eq-eqb}
use Rattle.std.proofs.lemmas.List.{append_assoc, append-nil, map_push}
use Rattle.std.proofs.lemmas.Map.Text.{is_eq-slice_cmp}
use Rattle.std.specs.Cmp.{both_ways}
use Rattle.std.specs.FinMap.{slice_cmp-IsAntisymmetric, nat_cmp-IsAntisymmetric}
use Rattle.std.proofs.lemmas.Slice.Eq.{bytes_eq-Decides}
use Rattle.apex_rows.specs.declared.row.Row.{Row}
use Rattle.row_meaning.specs.Cells.{bytes_cmp}
use Rattle.row_meaning.specs.Stores.{has_id, of_object, put_all, without}
use Rattle.row_meaning.specs.Overlays.{Overlay, touched_ids, overlay_rows, row_of, merged}
use Rattle.txn_overlay.specs.declared.overlay.Change.{Change}
use Rattle.txn_overlay.specs.declared.overlay.Change.TheVariants.{Now, Gone}
use Rattle.txn_overlay.specs.Changes.{shown, plain, KeyFits, AllFit, changed, changed_by}

pub same_bytes : (a b : List ℕ) → bytes_eq a b ≡ bytes_eq b a
same_bytes a b = both_ways (bytes_eq a b) (bytes_eq b a) (λ h. (bytes_eq-Decides b a).1 (sym ((bytes_eq-Decides a b).0 h))) (λ h. (bytes_eq-Decides a b).1 (sym ((bytes_eq-Decides b a).0 h)))

-- an Id is in the table exactly where it is among the touched ones
pub touched_is : (id : List ℕ) (es : List (List ℕ × Change)) → is_some (lookup (is_at (bytes_cmp id)) es) ≡ has_id (touched_ids (plain es)) id
touched_is id [] = refl
touched_is id (e ∷ es) = by _ _ (is_eq-slice_cmp id e.0 ∙ same_bytes id e.0) (touched_is id es) where
  by : (b d : Bool) → b ≡ d → is_some (lookup (is_at (bytes_cmp id)) es) ≡ has_id (touched_ids (plain es)) id →
      is_some (cond b (Some e.1) (lookup (is_at (bytes_cmp id)) es)) ≡ (d || has_id (touched_ids (plain es)) id)
  by true true h more = refl
  by false false h more = more
  by true false h more = absurd (cc)
  by false true h more = absurd (cc)

-- an entry that is inserted is a change
pub inserted_is : (id : List ℕ) (c : Change) (es : List (List ℕ × Change)) → plain (insert_entry bytes_cmp es id c) ≡ changed id (shown c) (plain es)
inserted_is id c [] = refl
inserted_is id c (e ∷ es) = by (bytes_cmp id e.0) (inserted_is id c es) where
  by : (o : Ordering) → plain (insert_entry bytes_cmp es id c) ≡ changed id (shown c) (plain es) →
      plain (match_ordering o ((id, c) ∷ e ∷ es) ((e.0, c) ∷ es) (e ∷ insert_entry bytes_cmp es id c)) ≡ changed_by o id (shown c) (e.0, shown e.1) (plain es) (changed id (shown c) (plain es))
  by Less h = refl
  by Equal h = refl
  by Greater h = ap (λ (v : Overlay). (e.0, shown e.1) ∷ v) h

pub fit_at : (a b : List ℕ) (c : Change) → a ≡ b → KeyFits a c → KeyFits b c
fit_at a b (Now row) e h = h ∙ e
fit_at a b Gone e h = tt

-- an entry that fits its Id stays among such
pub fit_after : (id : List ℕ) (c : Change) (es : List (List ℕ × Change)) → KeyFits id c → AllFit es → AllFit (insert_entry bytes_cmp es id c)
fit_after id c [] h all = (h, tt)
fit_after id c (e ∷ es) h all = by (bytes_cmp id e.0) refl (fit_after id c es h all.1) where
  by : (o : Ordering) → bytes_cmp id e.0 ≡ o → AllFit (insert_entry bytes_cmp es id c) →
      AllFit (match_ordering o ((id, c) ∷ e ∷ es) ((e.0, c) ∷ es) (e ∷ insert_entry bytes_cmp es id c))
  by Less same more = (h, all)
  by Equal same more = (fit_at id e.0 c (slice_cmp-IsAntisymmetric nat_cmp-IsAntisymmetric id e.0 same) h, all.1)
  by Greater same more = (all.0, more)

-- ---- rows of an object

of_append : (object : ℕ) (xs ys : List Row) → of_object object (xs ++ ys) ≡ of_object object xs ++ of_object object ys
of_append object [] ys = refl
of_append object (x ∷ xs) ys = by (eqb x.object object) (of_append object xs ys) where
  by : (b : Bool) → of_object object (xs ++ ys) ≡ of_object object xs ++ of_object object ys →
      cond b (x ∷ of_object object (xs ++ ys)) (of_object object (xs ++ ys)) ≡ cond b (x ∷ of_object object xs) (of_object object xs) ++ of_object object ys
  by true h = ap (λ rows. x ∷ rows) h
  by false h = h

rows_append : (es fs : List (List ℕ × Change)) → overlay_rows (plain (es ++ fs)) ≡ overlay_rows (plain es) ++ overlay_rows (plain fs)
rows_append [] fs = refl
rows_append (e ∷ es) fs = ap (λ rows. row_of (shown e.1) ++ rows) (rows_append es fs) ∙ sym (append_assoc (row_of (shown e.1)) (overlay_rows (plain es)) (overlay_rows (plain fs)))

-- the rows of an object among entries, with one entry more
pub one_more : (object : ℕ) (es : List (List ℕ × Change)) (e : List ℕ × Change) →
    of_object object (overlay_rows (plain (es ++ e ∷ []))) ≡ of_object object (overlay_rows (plain es)) ++ of_object object (row_of (shown e.1))
one_more object es e =
    ap (of_object object) (rows_append es (e ∷ []) ∙ ap (λ rows. overlay_rows (plain es) ++ rows) (append-nil (row_of (shown e.1)))) ∙ of_append object (overlay_rows (plain es)) (row_of (shown e.1))

neq-eqb : (a b : ℕ) → (a ≡ b → ⊥) → eqb a b ≡ false
neq-eqb a b differs = by (eqb a b) refl where
  by : (t : Bool) → eqb a b ≡ t → t ≡ false
  by true e = absurd (differs (eqb-true a b e))
  by false e = refl

same_object : (row : Row) (object : ℕ) → row.object ≡ object → of_object object (row ∷ []) ≡ row ∷ []
same_object row object e = ap (λ (b : Bool). cond b (row ∷ []) []) (eq-eqb row.object object e)

other_object : (row : Row) (object : ℕ) → (row.object ≡ object → ⊥) → of_object object (row ∷ []) ≡ []
other_object row object differs = ap (λ (b : Bool). cond b (row ∷ []) []) (neq-eqb row.object object differs)

-- what was seen of a table's entries, and one entry more
module _ {A : Type 0} (f : A → List ℕ × Change) (object : ℕ) (xs : List A) (x : A) where
  abbrev seen : List A → List Row
  seen zs = of_object object (overlay_rows (plain (map f zs)))

  more : seen (xs ++ x ∷ []) ≡ seen xs ++ of_object object (row_of (shown (f x).1))
  more = ap (λ es. of_object object (overlay_rows (plain es))) (map_push f xs x) ∙ one_more object (map f xs) (f x)

  pub seen_now : (row copy : Row) (rows later : List Row) → (f x).1 ≡ Now row → row.object ≡ object → copy ≡ row → rows ≡ seen xs → later ≡ rows ++ copy ∷ [] → later ≡ seen (xs ++ x ∷ [])
  seen_now row copy rows later is same e h l =
      l ∙ ap (λ (c : Row). rows ++ c ∷ []) e ∙ ap (λ (rs : List Row). rs ++ row ∷ []) h
      ∙ sym (more ∙ ap (λ rs. seen xs ++ rs) (ap (λ c. of_object object (row_of (shown c))) is ∙ same_object row object same))

  pub seen_other : (row : Row) (rows : List Row) → (f x).1 ≡ Now row → (row.object ≡ object → ⊥) → rows ≡ seen xs → rows ≡ seen (xs ++ x ∷ [])
  seen_other row rows is differs h =
      h ∙ sym (more ∙ ap (λ rs. seen xs ++ rs) (ap (λ c. of_object object (row_of (shown c))) is ∙ other_object row object differs) ∙ append-nil (seen xs))

  pub seen_gone : (rows : List Row) → (f x).1 ≡ Gone → rows ≡ seen xs → rows ≡ seen (xs ++ x ∷ [])
  seen_gone rows is h = h ∙ sym (more ∙ ap (λ rs. seen xs ++ rs) (ap (λ c. of_object object (row_of (shown c))) is) ∙ append-nil (seen xs))

-- ---- the rows of an object rise

above_rows : (object : ℕ) (id : List ℕ) (es : List (List ℕ × Change)) → AllFit es → AllByRecursion (λ k. bytes_cmp id k ≡ Less) (keys_of es) →
    AllByRecursion (λ (y : Row). bytes_cmp id y.id ≡ Less) (of_object object (overlay_rows (plain es)))
above_rows object id [] fit a = tt
above_rows object id (e ∷ es) fit a = by e.1 fit.0 (above_rows object id es fit.1 a.1) where
  rest : List Row
  rest = of_object object (overlay_rows (plain es))

  kept : (row : Row) (b : Bool) → bytes_cmp id row.id ≡ Less → AllByRecursion (λ (y : Row). bytes_cmp id y.id ≡ Less) rest →
      AllByRecursion (λ (y : Row). bytes_cmp id y.id ≡ Less) (cond b (row ∷ rest) rest)
  kept row true l h = (l, h)
  kept row false l h = h

  by : (c : Change) → KeyFits e.0 c → AllByRecursion (λ (y : Row). bytes_cmp id y.id ≡ Less) rest →
      AllByRecursion (λ (y : Row). bytes_cmp id y.id ≡ Less) (of_object object (row_of (shown c) ++ overlay_rows (plain es)))
  by (Now row) k h = kept row (eqb row.object object) (ap (bytes_cmp id) k ∙ a.0) h
  by Gone k h = h

pub in_order : (object : ℕ) (es : List (List ℕ × Change)) → AllFit es → IsStrictlySortedBy bytes_cmp (keys_of es) → InOrder (of_object object (overlay_rows (plain es)))
unfolding IsStrictlySortedBy
in_order object [] fit s = tt
in_order object (e ∷ es) fit s = by e.1 fit.0 (in_order object es fit.1 s.1) where
  rest : List Row
  rest = of_object object (overlay_rows (plain es))

  kept : (row : Row) (b : Bool) → Above row rest → InOrder rest → InOrder (cond b (row ∷ rest) rest)
  kept row true a h = (a, h)
  kept row false a h = h

  by : (c : Change) → KeyFits e.0 c → InOrder rest → InOrder (of_object object (row_of (shown c) ++ overlay_rows (plain es)))
  by (Now row) k h = kept row (eqb row.object object) (above_rows object row.id es fit.1 (subst (λ i. AllByRecursion (λ q. bytes_cmp i q ≡ Less) (keys_of es)) (sym k) s.0)) h
  by Gone k h = h

-- what a transaction sees of an object is its own rows, merged with those that it didn't touch
pub merged_is : (object : ℕ) (es : List (List ℕ × Change)) (v : Overlay) (own others answered : List Row) → AllFit es → IsStrictlySortedBy bytes_cmp (keys_of es) → plain es ≡ v →
    own ≡ of_object object (overlay_rows v) → others ≡ without (touched_ids v) answered → merge own others ≡ merged v object answered
merged_is object es v own others answered fit s view o t =
    sym (merge_is own others (subst InOrder (sym (o ∙ ap (λ w. of_object object (overlay_rows w)) (sym view))) (in_order object es fit s)))
    ∙ ap (λ rs. put_all rs others) o ∙ ap (put_all (of_object object (overlay_rows v))) t
