-- Rows that are asked for by Ids: under these Ids the transaction knows what it sees of the whole store.
use Rattle.std.proofs.Common.{◌≡◌, refl, ap, sym, ◌∙◌, ℕ, Bool, true, false, cond, List, [], ◌∷◌, map, Option, None, Some}
use Rattle.std.specs.Prelude.{◌&&◌, ◌||◌, bytes_eq}
use Rattle.std.specs.Cmp.{both_ways}
use Rattle.std.specs.List.{list_any}
use Rattle.std.specs.declared.cmp.Ordering.{Ordering}
use Rattle.std.specs.declared.cmp.Ordering.TheVariants.{Less, Equal, Greater}
use Rattle.std.specs.FinMap.{slice_cmp-IsAntisymmetric, nat_cmp-IsAntisymmetric}
use Rattle.std.proofs.lemmas.Map.Text.{is_eq-slice_cmp}
use Rattle.apex_num.specs.declared.cell.Cell.TheVariants.{Id}
use Rattle.apex_schema.specs.declared.schema.Schema.{Schema}
use Rattle.apex_rows.specs.declared.query.Term.TheVariants.{Given}
use Rattle.apex_rows.specs.declared.query.Terms.TheVariants.{Given as GivenAll}
use Rattle.apex_rows.specs.declared.row.Row.{Row}
use Rattle.row_meaning.specs.Cells.{bytes_cmp, same_cell}
use Rattle.row_meaning.specs.Conds.{cell_of, term_value, own_value, holds_of}
use Rattle.row_meaning.specs.Overlays.{Overlay, touched_ids, overlay_rows, over}
use Rattle.row_meaning.specs.Stores.{AllRows, find, has_id, answer}
use Rattle.save_meaning.specs.Counts.{IsKeyed}
use Rattle.save_meaning.specs.Drafts.{with_id, with_id_by, with_ids, untouched}
use Rattle.store_inquiries.specs.Inquiries.{of_store}
use Rattle.store_inquiries.specs.Questions.{rising, within, rows_by}
use Rattle.query_meaning.proofs.Maps.{clash, none_is, some_same, same_id, itself, or_else, kept, or_none, InOrder, lone, find_filter, order_filter}
use Rattle.query_meaning.proofs.Seen.{is_of, touched_some, find_merged, find_over, order_merged}
use Rattle.query_meaning.proofs.Conds.{holds_Within}

-- ---- Ids among others

either : (a b : Bool) → b ≡ true → (a || b) ≡ true
either true b h = refl
either false b h = h

pub sym_id : (a b : List ℕ) → bytes_eq a b ≡ bytes_eq b a
sym_id a b = both_ways (bytes_eq a b) (bytes_eq b a) (λ h. ap (λ x. bytes_eq x a) (sym (same_id a b h)) ∙ itself a) (λ h. ap (λ x. bytes_eq x b) (sym (same_id b a h)) ∙ itself b)

pub in_untouched : (v : Overlay) (ids : List (List ℕ)) (x : List ℕ) → has_id (touched_ids v) x ≡ false → has_id ids x ≡ true → has_id (untouched v ids) x ≡ true
in_untouched v [] x h k = k
in_untouched v (i ∷ ids) x h k = by (bytes_eq i x) refl k (in_untouched v ids x h) where
  put : (c : Bool) → has_id (untouched v ids) x ≡ true → has_id (cond c (untouched v ids) (i ∷ untouched v ids)) x ≡ true
  put true m = m
  put false m = either (bytes_eq i x) (has_id (untouched v ids) x) m

  by : (b : Bool) → bytes_eq i x ≡ b → (b || has_id ids x) ≡ true → (has_id ids x ≡ true → has_id (untouched v ids) x ≡ true) → has_id (untouched v (i ∷ ids)) x ≡ true
  by true e k more =
      ap (λ c. has_id (cond c (untouched v ids) (i ∷ untouched v ids)) x) (ap (has_id (touched_ids v)) (same_id i x e) ∙ h)
      ∙ ap (λ b. b || has_id (untouched v ids) x) e
  by false e k more = put (has_id (touched_ids v) i) (more k)

stays_in : (id : List ℕ) (is : List (List ℕ)) (x : List ℕ) → has_id is x ≡ true → has_id (with_id id is) x ≡ true
stays_in id [] x h = absurd (clash (sym h))
stays_in id (i ∷ is) x h = by (bytes_cmp id i) (stays_in id is x) where
  later : (b : Bool) → (b || has_id is x) ≡ true → (has_id is x ≡ true → has_id (with_id id is) x ≡ true) → (b || has_id (with_id id is) x) ≡ true
  later true k more = refl
  later false k more = more k

  by : (o : Ordering) → (has_id is x ≡ true → has_id (with_id id is) x ≡ true) → has_id (with_id_by o id i is (with_id id is)) x ≡ true
  by Less more = either (bytes_eq id x) (has_id (i ∷ is) x) h
  by Equal more = h
  by Greater more = later (bytes_eq i x) h more

is_put : (id : List ℕ) (is : List (List ℕ)) → has_id (with_id id is) id ≡ true
is_put id [] = ap (λ b. b || false) (itself id)
is_put id (i ∷ is) = by (bytes_cmp id i) refl (is_put id is) where
  by : (o : Ordering) → bytes_cmp id i ≡ o → has_id (with_id id is) id ≡ true → has_id (with_id_by o id i is (with_id id is)) id ≡ true
  by Less e more = ap (λ b. b || has_id (i ∷ is) id) (itself id)
  by Equal e more = ap (λ b. b || has_id is id) (ap (λ j. bytes_eq i j) (slice_cmp-IsAntisymmetric nat_cmp-IsAntisymmetric id i e) ∙ itself i)
  by Greater e more = either (bytes_eq i id) (has_id (with_id id is) id) more

all_stay : (ids is : List (List ℕ)) (x : List ℕ) → has_id is x ≡ true → has_id (with_ids ids is) x ≡ true
all_stay [] is x h = h
all_stay (id ∷ ids) is x h = all_stay ids (with_id id is) x (stays_in id is x h)

all_put : (ids is : List (List ℕ)) (x : List ℕ) → has_id ids x ≡ true → has_id (with_ids ids is) x ≡ true
all_put [] is x h = absurd (clash (sym h))
all_put (id ∷ ids) is x h = by (bytes_eq id x) refl h (all_put ids (with_id id is) x) where
  by : (b : Bool) → bytes_eq id x ≡ b → (b || has_id ids x) ≡ true → (has_id ids x ≡ true → has_id (with_ids ids (with_id id is)) x ≡ true) → has_id (with_ids ids (with_id id is)) x ≡ true
  by true e k more = all_stay ids (with_id id is) x (ap (has_id (with_id id is)) (sym (same_id id x e)) ∙ is_put id is)
  by false e k more = more k

pub in_rising : (ids : List (List ℕ)) (x : List ℕ) → has_id ids x ≡ true → has_id (rising ids) x ≡ true
in_rising ids x h = all_put ids [] x h

-- ---- a field that is one of these

among_cells : (x : List ℕ) (ids : List (List ℕ)) → list_any (same_cell (Id x)) (map (term_value []) (map (λ (i : List ℕ). Given (Id i)) ids)) ≡ has_id ids x
among_cells x [] = refl
among_cells x (i ∷ ids) = ap (λ b. b || list_any (same_cell (Id x)) (map (term_value []) (map (λ (i : List ℕ). Given (Id i)) ids))) (is_eq-slice_cmp x i ∙ sym_id x i) ∙ ap (λ b. bytes_eq i x || b) (among_cells x ids)

pub within_holds : (field : ℕ) (ids : List (List ℕ)) (r : Row) (x : List ℕ) → cell_of r field ≡ Id x → holds_of (within field ids) r ≡ has_id ids x
within_holds field ids r x e =
    holds_Within [] (own_value r) (record { parents = []; field = field }) false (GivenAll (map (λ (i : List ℕ). Given (Id i)) ids))
    ∙ ap (λ c. list_any (same_cell c) (map (term_value []) (map (λ (i : List ℕ). Given (Id i)) ids))) e ∙ among_cells x ids

-- ---- rows by their Ids

id_cell : (schema : Schema) (store : List Row) → AllRows schema store → (id : List ℕ) (r : Row) → find store id ≡ Some r → cell_of r 0 ≡ Id id
id_cell schema [] all id r e = absurd (none_is r e)
id_cell schema (s ∷ rows) all id r e = by (bytes_eq s.id id) refl e (id_cell schema rows all.1 id r) where
  by : (b : Bool) → bytes_eq s.id id ≡ b → cond b (Some s) (find rows id) ≡ Some r → (find rows id ≡ Some r → cell_of r 0 ≡ Id id) → cell_of r 0 ≡ Id id
  by true h k more = ap (λ (q : Row). cell_of q 0) (sym (some_same s r k)) ∙ all.0.id ∙ ap Id (same_id s.id id h)
  by false h k more = more k

module _ (schema : Schema) (v : Overlay) (keyed : IsKeyed v) (store : List Row) (ordered : InOrder store) (all : AllRows schema store) (object : ℕ) where
  abbrev whole : List Row
  whole = over store v

  seen_below : (own a b : Option Row) (t : Bool) → ((r : Row) → own ≡ Some r → t ≡ true) → ((r : Row) → a ≡ Some r → b ≡ Some r) →
      (r : Row) → or_else (kept (is_of object) own) (cond t None a) ≡ Some r → or_else own (cond t None b) ≡ Some r
  seen_below (Some x) a b true h k r e = of_own (is_of object x) e where
    of_own : (c : Bool) → or_else (cond c (Some x) None) None ≡ Some r → Some x ≡ Some r
    of_own true e = e
    of_own false e = absurd (none_is r e)
  seen_below (Some x) a b false h k r e = absurd (clash (sym (h x refl)))
  seen_below None a b true h k r e = e
  seen_below None a b false h k r e = k r e

  seen_same : (own a b : Option Row) (t : Bool) → ((r : Row) → own ≡ Some r → t ≡ true) → (t ≡ false → a ≡ kept (is_of object) b) →
      or_else (kept (is_of object) own) (cond t None a) ≡ kept (is_of object) (or_else own (cond t None b))
  seen_same (Some x) a b true h k = or_none (kept (is_of object) (Some x))
  seen_same (Some x) a b false h k = absurd (clash (sym (h x refl)))
  seen_same None a b true h k = refl
  seen_same None a b false h k = k refl

  kept_some : (test : Row → Bool) (o : Option Row) (r : Row) → kept test o ≡ Some r → o ≡ Some r
  kept_some test None r e = e
  kept_some test (Some x) r e = by (test x) e where
    by : (b : Bool) → cond b (Some x) None ≡ Some r → Some x ≡ Some r
    by true e = e
    by false e = absurd (none_is r e)

  abbrev wanted : List (List ℕ) → Row → Bool
  wanted ids r = is_of object r && holds_of (within 0 ids) r

  abbrev come : List (List ℕ) → List Row
  come ids = of_store store (rows_by v object ids)

  -- what comes is there
  pub come_below : (ids : List (List ℕ)) (id : List ℕ) (r : Row) → find (come ids) id ≡ Some r → find whole id ≡ Some r
  come_below [] id r e =
      find_over v keyed store id
      ∙ seen_below (find (overlay_rows v) id) None (find store id) (has_id (touched_ids v) id) (touched_some v keyed id) (λ r e. absurd (none_is r e)) r (sym (find_merged v keyed object [] id) ∙ e)
  come_below (i ∷ is) id r e =
      find_over v keyed store id
      ∙ seen_below (find (overlay_rows v) id) (find (answer store object (within 0 (i ∷ is))) id) (find store id) (has_id (touched_ids v) id) (touched_some v keyed id)
      (λ r e. kept_some (wanted (i ∷ is)) (find store id) r (sym (find_filter (wanted (i ∷ is)) store id (lone store ordered)) ∙ e)) r
      (sym (find_merged v keyed object (answer store object (within 0 (i ∷ is))) id) ∙ e)

  holding : (ids : List (List ℕ)) (id : List ℕ) → has_id ids id ≡ true → (o : Option Row) → ((r : Row) → o ≡ Some r → cell_of r 0 ≡ Id id) → kept (wanted ids) o ≡ kept (is_of object) o
  holding ids id h None cell = refl
  holding ids id h (Some r) cell = by (is_of object r) (within_holds 0 ids r id (cell r refl) ∙ h) where
    by : (b : Bool) → holds_of (within 0 ids) r ≡ true → cond (b && holds_of (within 0 ids) r) (Some r) None ≡ cond b (Some r) None
    by true e = ap (λ c. cond c (Some r) None) e
    by false e = refl

  -- under the Ids that were asked for, and those that the transaction touched, what is there of the object comes
  pub come_same : (ids : List (List ℕ)) (id : List ℕ) → (has_id (touched_ids v) id ≡ false → has_id ids id ≡ true) → find (come ids) id ≡ kept (is_of object) (find whole id)
  come_same [] id h =
      find_merged v keyed object [] id
      ∙ seen_same (find (overlay_rows v) id) None (find store id) (has_id (touched_ids v) id) (touched_some v keyed id) (λ t. absurd (clash (sym (h t))))
      ∙ ap (kept (is_of object)) (sym (find_over v keyed store id))
  come_same (i ∷ is) id h =
      find_merged v keyed object (answer store object (within 0 (i ∷ is))) id
      ∙ seen_same (find (overlay_rows v) id) (find (answer store object (within 0 (i ∷ is))) id) (find store id) (has_id (touched_ids v) id) (touched_some v keyed id)
      (λ t. find_filter (wanted (i ∷ is)) store id (lone store ordered) ∙ holding (i ∷ is) id (h t) (find store id) (id_cell schema store all id))
      ∙ ap (kept (is_of object)) (sym (find_over v keyed store id))

  pub come_in_order : (ids : List (List ℕ)) → InOrder (come ids)
  come_in_order [] = order_merged v object [] tt
  come_in_order (i ∷ is) = order_merged v object (answer store object (within 0 (i ∷ is))) (order_filter (wanted (i ∷ is)) store ordered)
