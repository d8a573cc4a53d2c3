-- What a transaction sees of a store, Id by Id.
use Rattle.std.proofs.Common.{◌≡◌, refl, ap, sym, ◌∙◌, ℕ, Bool, true, false, cond, List, [], ◌∷◌, ◌++◌, Option, None, Some}
use Rattle.std.specs.Prelude.{◌&&◌, ◌||◌, eqb, bytes_eq, filter}
use Rattle.std.specs.List.{AllByRecursion}
use Rattle.apex_rows.specs.declared.query.Cond.{Cond}
use Rattle.apex_rows.specs.declared.row.Row.{Row}
use Rattle.row_meaning.specs.Cells.{bytes_cmp}
use Rattle.row_meaning.specs.Conds.{holds_of}
use Rattle.row_meaning.specs.Overlays.{Overlay, Change, Now, Gone, touched_ids, overlay_rows, row_of, merged, over}
use Rattle.row_meaning.specs.Stores.{find, put, put_by, put_all, has_id, without, of_object, answer}
use Rattle.std.specs.declared.cmp.Ordering.{Ordering}
use Rattle.std.specs.declared.cmp.Ordering.TheVariants.{Less, Equal, Greater}
use Rattle.save_meaning.specs.Counts.{KeyIs, IsKeyed}
use Rattle.query_meaning.proofs.Maps.{clash, none_is, or_else, kept, or_none, InOrder, Lone, lone, find_put_all, none_left, find_filter, find_without, order_put_all, order_filter, same_map}

-- ---- what holds of each row

abbrev pub Each : (Row → Type 0) → List Row → Type 0
Each of rows = AllByRecursion of rows

pub each_filter : (of : Row → Type 0) (test : Row → Bool) (rows : List Row) → Each of rows → Each of (filter test rows)
each_filter of test [] h = tt
each_filter of test (r ∷ rows) h = by (test r) (each_filter of test rows h.1) where
  by : (b : Bool) → Each of (filter test rows) → Each of (cond b (r ∷ filter test rows) (filter test rows))
  by true more = (h.0, more)
  by false more = more

pub each_passes : (test : Row → Bool) (rows : List Row) → Each (λ (r : Row). test r ≡ true) (filter test rows)
each_passes test [] = tt
each_passes test (r ∷ rows) = by (test r) refl (each_passes test rows) where
  by : (b : Bool) → test r ≡ b → Each (λ (r : Row). test r ≡ true) (filter test rows) → Each (λ (r : Row). test r ≡ true) (cond b (r ∷ filter test rows) (filter test rows))
  by true e more = (e, more)
  by false e more = more

pub each_weaker : (of on : Row → Type 0) → ((r : Row) → of r → on r) → (rows : List Row) → Each of rows → Each on rows
each_weaker of on w [] h = tt
each_weaker of on w (r ∷ rows) h = (w r h.0, each_weaker of on w rows h.1)

pub each_both : (of on : Row → Type 0) (rows : List Row) → Each of rows → Each on rows → Each (λ (r : Row). of r × on r) rows
each_both of on [] h k = tt
each_both of on (r ∷ rows) h k = ((h.0, k.0), each_both of on rows h.1 k.1)

each_put : (of : Row → Type 0) (p : Row) (rows : List Row) → of p → Each of rows → Each of (put p rows)
each_put of p [] h a = (h, tt)
each_put of p (r ∷ rows) h a = by (bytes_cmp p.id r.id) (each_put of p rows h a.1) where
  by : (o : Ordering) → Each of (put p rows) → Each of (put_by o p r rows (put p rows))
  by Less more = (h, a)
  by Equal more = (h, a.1)
  by Greater more = (a.0, more)

each_put_all : (of : Row → Type 0) (ps rows : List Row) → Each of ps → Each of rows → Each of (put_all ps rows)
each_put_all of [] rows h a = a
each_put_all of (p ∷ ps) rows h a = each_put_all of ps (put p rows) h.1 (each_put of p rows h.0 a)

-- ---- the rows of an overlay

or_false : (a b : Bool) → (a || b) ≡ false → (a ≡ false) × (b ≡ false)
or_false true b h = absurd (clash h)
or_false false b h = (refl, h)

pub untouched_none : (v : Overlay) → IsKeyed v → (id : List ℕ) → has_id (touched_ids v) id ≡ false → find (overlay_rows v) id ≡ None
untouched_none [] k id h = refl
untouched_none (e ∷ es) k id h = by e.1 k.0 (untouched_none es k.2 id (or_false (bytes_eq e.0 id) (has_id (touched_ids es) id) h).1) where
  by : (c : Change) → KeyIs e.0 c → find (overlay_rows es) id ≡ None → find (row_of c ++ overlay_rows es) id ≡ None
  by (Now row) q more =
      ap (λ b. cond b (Some row) (find (overlay_rows es) id)) (ap (λ i. bytes_eq i id) q ∙ (or_false (bytes_eq e.0 id) (has_id (touched_ids es) id) h).0) ∙ more
  by Gone q more = more

lone_own : (v : Overlay) → IsKeyed v → Lone (overlay_rows v)
lone_own [] k = tt
lone_own (e ∷ es) k = by e.1 k.0 (lone_own es k.2) where
  by : (c : Change) → KeyIs e.0 c → Lone (overlay_rows es) → Lone (row_of c ++ overlay_rows es)
  by (Now row) q more = (untouched_none es k.2 row.id (ap (has_id (touched_ids es)) q ∙ k.1), more)
  by Gone q more = more

lone_filter : (test : Row → Bool) (rows : List Row) → Lone rows → Lone (filter test rows)
lone_filter test [] h = tt
lone_filter test (r ∷ rows) h = by (test r) (lone_filter test rows h.1) where
  by : (b : Bool) → Lone (filter test rows) → Lone (cond b (r ∷ filter test rows) (filter test rows))
  by true more = (none_left test rows r.id h.0, more)
  by false more = more

abbrev pub is_of : ℕ → Row → Bool
is_of object r = eqb r.object object

module _ (v : Overlay) (keyed : IsKeyed v) where
  pub touched_some : (id : List ℕ) (r : Row) → find (overlay_rows v) id ≡ Some r → has_id (touched_ids v) id ≡ true
  touched_some id r e = by (has_id (touched_ids v) id) refl where
    by : (b : Bool) → has_id (touched_ids v) id ≡ b → b ≡ true
    by true h = refl
    by false h = absurd (none_is r (sym (untouched_none v keyed id h) ∙ e))

  pub find_merged : (object : ℕ) (rows : List Row) (id : List ℕ) →
      find (merged v object rows) id ≡ or_else (kept (is_of object) (find (overlay_rows v) id)) (cond (has_id (touched_ids v) id) None (find rows id))
  find_merged object rows id =
      find_put_all (of_object object (overlay_rows v)) (without (touched_ids v) rows) id (lone_filter (is_of object) (overlay_rows v) (lone_own v keyed))
      ∙ ap (λ o. or_else o (find (without (touched_ids v) rows) id)) (find_filter (is_of object) (overlay_rows v) id (lone_own v keyed))
      ∙ ap (or_else (kept (is_of object) (find (overlay_rows v) id))) (find_without (touched_ids v) rows id)

  pub find_over : (rows : List Row) (id : List ℕ) → find (over rows v) id ≡ or_else (find (overlay_rows v) id) (cond (has_id (touched_ids v) id) None (find rows id))
  find_over rows id =
      find_put_all (overlay_rows v) (without (touched_ids v) rows) id (lone_own v keyed) ∙ ap (or_else (find (overlay_rows v) id)) (find_without (touched_ids v) rows id)

pub order_merged : (v : Overlay) (object : ℕ) (rows : List Row) → InOrder rows → InOrder (merged v object rows)
order_merged v object rows h = order_put_all (of_object object (overlay_rows v)) (without (touched_ids v) rows) (order_filter (λ (r : Row). cond (has_id (touched_ids v) r.id) false true) rows h)

pub order_over : (v : Overlay) (rows : List Row) → InOrder rows → InOrder (over rows v)
order_over v rows h = order_put_all (overlay_rows v) (without (touched_ids v) rows) (order_filter (λ (r : Row). cond (has_id (touched_ids v) r.id) false true) rows h)

-- ---- what a store is asked for, merged with the overlay

both_true : (a b : Bool) → (a && b) ≡ true → (a ≡ true) × (b ≡ true)
both_true true b h = (refl, h)
both_true false b h = absurd (clash (sym h))

-- an answer's rows are of its object, and so are the merged ones
pub of_each : (v : Overlay) (store : List Row) (object : ℕ) (c : Cond) → Each (λ (r : Row). is_of object r ≡ true) (merged v object (answer store object c))
of_each v store object c =
    each_put_all (λ (r : Row). is_of object r ≡ true) (of_object object (overlay_rows v)) (without (touched_ids v) (answer store object c))
    (each_passes (is_of object) (overlay_rows v))
    (each_filter (λ (r : Row). is_of object r ≡ true) (λ (r : Row). cond (has_id (touched_ids v) r.id) false true) (answer store object c)
    (each_weaker (λ (r : Row). (is_of object r && holds_of c r) ≡ true) (λ (r : Row). is_of object r ≡ true) (λ r h. (both_true (is_of object r) (holds_of c r) h).0) (answer store object c)
    (each_passes (λ (r : Row). is_of object r && holds_of c r) store)))

module _ (v : Overlay) (keyed : IsKeyed v) (store : List Row) (ordered : InOrder store) where
  abbrev whole : List Row
  whole = over store v

  lone_store : Lone store
  lone_store = lone store ordered

  module _ (object : ℕ) (c : Cond) (test : Row → Bool) (weaker : (r : Row) → test r ≡ true → holds_of c r ≡ true) where
    abbrev wanted : Row → Bool
    wanted r = is_of object r && holds_of c r

    last : (r : Row) (o h b : Bool) → test r ≡ b → (b ≡ true → h ≡ true) → kept test (cond (o && h) (Some r) None) ≡ kept test (cond o (Some r) None)
    last r false h b e w = refl
    last r true true b e w = refl
    last r true false true e w = absurd (clash (sym (w refl)))
    last r true false false e w = sym (ap (λ d. cond d (Some r) None) e)

    same_seen : (own b : Option Row) (t : Bool) → ((r : Row) → own ≡ Some r → t ≡ true) →
        kept test (or_else (kept (is_of object) own) (cond t None (kept wanted b))) ≡ kept test (kept (is_of object) (or_else own (cond t None b)))
    same_seen (Some r) b true h = ap (kept test) (or_none (kept (is_of object) (Some r)))
    same_seen (Some r) b false h = absurd (clash (sym (h r refl)))
    same_seen None b true h = refl
    same_seen None None false h = refl
    same_seen None (Some r) false h = last r (is_of object r) (holds_of c r) (test r) refl (weaker r)

    -- of what the transaction sees over the answer, the rows that meet a stronger test are those of the whole store
    pub merge_is : filter test (merged v object (answer store object c)) ≡ filter test (of_object object whole)
    merge_is =
        same_map _ _ (order_filter test _ answered) (order_filter test _ (order_filter (is_of object) whole (order_over v store ordered)))
        (λ id.
        find_filter test (merged v object (answer store object c)) id (lone _ answered)
        ∙ ap (kept test) (find_merged v keyed object (answer store object c) id)
        ∙ ap (λ o. kept test (or_else (kept (is_of object) (find (overlay_rows v) id)) (cond (has_id (touched_ids v) id) None o))) (find_filter wanted store id lone_store)
        ∙ same_seen (find (overlay_rows v) id) (find store id) (has_id (touched_ids v) id) (touched_some v keyed id)
        ∙ sym (find_filter test (of_object object whole) id (lone _ (order_filter (is_of object) whole (order_over v store ordered)))
        ∙ ap (kept test) (find_filter (is_of object) whole id (lone _ (order_over v store ordered)) ∙ ap (kept (is_of object)) (find_over v keyed store id)))) where
          answered : InOrder (merged v object (answer store object c))
          answered = order_merged v object (answer store object c) (order_filter wanted store ordered)
