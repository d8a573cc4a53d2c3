-- Places by their Ids.
use Rattle.std.proofs.Common.{◌≡◌, ◌<◌, ◌+◌, length, take, get_or, refl, ap, sym, subst, ◌∙◌, ℕ, Bool, true, false, cond, List, [], ◌∷◌, ◌++◌, map, Option, None, Some}
use Rattle.std.specs.Prelude.{◌&&◌, ◌||◌, eqb, bytes_eq}
use Rattle.std.specs.List.{AllByRecursion, list_any}
use Rattle.std.specs.List.Sorted.{IsStrictlySortedBy}
use Rattle.std.specs.FinMap.{slice_cmp-IsAntisymmetric, nat_cmp-IsAntisymmetric}
use Rattle.std.specs.Option.{is_some}
use Rattle.std.specs.Ordering.{is_eq, match_ordering, ordering_reverse}
use Rattle.std.specs.Map.{keys_of, lookup, set_value, remove_entry}
use Rattle.std.specs.BTreeMap.{insert_entry, is_at}
use Rattle.std.specs.declared.cmp.Ordering.{Ordering}
use Rattle.std.specs.declared.cmp.Ordering.TheVariants.{Less, Equal, Greater}
use Rattle.std.proofs.lemmas.Cmp.{nat_list_cmp_total}
use Rattle.std.proofs.lemmas.Map.Text.{is_eq-slice_cmp}
use Rattle.std.proofs.lemmas.List.{append_assoc, append-nil, map_push, take_more}
use Rattle.apex_rows.specs.declared.query.Cond.{Cond}
use Rattle.apex_rows.specs.declared.row.Row.{Row}
use Rattle.row_meaning.specs.Cells.{bytes_cmp}
use Rattle.row_meaning.specs.Conds.{holds_of}
use Rattle.row_meaning.specs.Stores.{answer, put, put_by, put_all, has_id, without}
use Rattle.record_store.specs.Places.{Places, row_in, rows_of, SlotFits, AllFit, has_place, HasPlace, HasRoom, Stay}

same_id : (a b : List ℕ) → bytes_cmp a b ≡ Equal → a ≡ b
same_id a b e = slice_cmp-IsAntisymmetric nat_cmp-IsAntisymmetric a b e

only_equal : (o : Ordering) → o ≡ ordering_reverse o → o ≡ Equal
only_equal Less e = absurd (cc)
only_equal Equal e = refl
only_equal Greater e = absurd (cc)

itself : (a : List ℕ) → bytes_cmp a a ≡ Equal
itself a = only_equal (bytes_cmp a a) (nat_list_cmp_total.antisymm a a)

-- ---- an empty place more

pub placed_rows : (id : List ℕ) (ps : Places) → lookup (is_at (bytes_cmp id)) ps ≡ None → rows_of (insert_entry bytes_cmp ps id None) ≡ rows_of ps
placed_rows id [] h = refl
placed_rows id (p ∷ ps) h = by (bytes_cmp id p.0) h (placed_rows id ps) where
  by : (o : Ordering) → cond (is_eq o) (Some p.1) (lookup (is_at (bytes_cmp id)) ps) ≡ None →
      (lookup (is_at (bytes_cmp id)) ps ≡ None → rows_of (insert_entry bytes_cmp ps id None) ≡ rows_of ps) →
      rows_of (match_ordering o ((id, None) ∷ p ∷ ps) ((p.0, None) ∷ ps) (p ∷ insert_entry bytes_cmp ps id None)) ≡ row_in p.1 ++ rows_of ps
  by Less e more = refl
  by Equal e more = absurd (cc)
  by Greater e more = ap (λ rs. row_in p.1 ++ rs) (more e)

pub placed_fit : (id : List ℕ) (ps : Places) → AllFit ps → AllFit (insert_entry bytes_cmp ps id None)
placed_fit id [] h = (tt, tt)
placed_fit id (p ∷ ps) h = by (bytes_cmp id p.0) (placed_fit id ps h.1) where
  by : (o : Ordering) → AllFit (insert_entry bytes_cmp ps id None) → AllFit (match_ordering o ((id, None) ∷ p ∷ ps) ((p.0, None) ∷ ps) (p ∷ insert_entry bytes_cmp ps id None))
  by Less more = (tt, h)
  by Equal more = (tt, h.1)
  by Greater more = (h.0, more)

-- ---- a row in its place

-- a place that is found behind another one has a greater Id
found_above : (id q : List ℕ) (ps : Places) → AllByRecursion (λ k. bytes_cmp q k ≡ Less) (keys_of ps) → HasPlace id ps → bytes_cmp q id ≡ Less
found_above id q [] a h = absurd (cc)
found_above id q (p ∷ ps) a h = by (bytes_cmp id p.0) refl h (found_above id q ps a.1) where
  by : (o : Ordering) → bytes_cmp id p.0 ≡ o → is_some (cond (is_eq o) (Some p.1) (lookup (is_at (bytes_cmp id)) ps)) ≡ true → (HasPlace id ps → bytes_cmp q id ≡ Less) → bytes_cmp q id ≡ Less
  by Equal e f more = ap (bytes_cmp q) (same_id id p.0 e) ∙ a.0
  by Less e f more = more f
  by Greater e f more = more f

-- rows of places with greater Ids
above : (id : List ℕ) (ps : Places) → AllFit ps → AllByRecursion (λ k. bytes_cmp id k ≡ Less) (keys_of ps) → AllByRecursion (λ (r : Row). bytes_cmp id r.id ≡ Less) (rows_of ps)
above id [] fit a = tt
above id (p ∷ ps) fit a = by p.1 fit.0 (above id ps fit.1 a.1) where
  by : (slot : Option Row) → SlotFits p.0 slot → AllByRecursion (λ (r : Row). bytes_cmp id r.id ≡ Less) (rows_of ps) → AllByRecursion (λ (r : Row). bytes_cmp id r.id ≡ Less) (row_in slot ++ rows_of ps)
  by None k h = h
  by (Some row) k h = (ap (bytes_cmp id) k ∙ a.0, h)

-- a row comes before rows with greater Ids
put_first : (row : Row) (rows : List Row) → AllByRecursion (λ (r : Row). bytes_cmp row.id r.id ≡ Less) rows → put row rows ≡ row ∷ rows
put_first row [] a = refl
put_first row (r ∷ rows) a = ap (λ o. put_by o row r rows (put row rows)) a.0

flipped : (a b : List ℕ) → bytes_cmp a b ≡ Less → bytes_cmp b a ≡ Greater
flipped a b h = nat_list_cmp_total.antisymm b a ∙ ap ordering_reverse h

pub put_rows : (row : Row) (ps : Places) → AllFit ps → IsStrictlySortedBy bytes_cmp (keys_of ps) → HasPlace row.id ps →
    rows_of (set_value (is_at (bytes_cmp row.id)) ps (Some row)) ≡ put row (rows_of ps)
unfolding IsStrictlySortedBy
put_rows row [] fit s h = absurd (cc)
put_rows row (p ∷ ps) fit s h = by (bytes_cmp row.id p.0) refl h (put_rows row ps fit.1 s.1) where
  -- the place is this one
  here : row.id ≡ p.0 → (slot : Option Row) → SlotFits p.0 slot → row ∷ rows_of ps ≡ put row (row_in slot ++ rows_of ps)
  here e None k = sym (put_first row (rows_of ps) (subst (λ i. AllByRecursion (λ (r : Row). bytes_cmp i r.id ≡ Less) (rows_of ps)) (sym e) (above p.0 ps fit.1 s.0)))
  here e (Some r) k = sym (ap (λ o. put_by o row r (rows_of ps) (put row (rows_of ps))) (ap (bytes_cmp row.id) (k ∙ sym e) ∙ itself row.id))

  -- the place comes later
  later : bytes_cmp p.0 row.id ≡ Less → (slot : Option Row) → SlotFits p.0 slot → (rest : List Row) → rest ≡ put row (rows_of ps) → row_in slot ++ rest ≡ put row (row_in slot ++ rows_of ps)
  later l None k rest e = e
  later l (Some r) k rest e =
      ap (λ rs. r ∷ rs) e ∙ sym (ap (λ o. put_by o row r (rows_of ps) (put row (rows_of ps))) (ap (bytes_cmp row.id) k ∙ flipped p.0 row.id l))

  by : (o : Ordering) → bytes_cmp row.id p.0 ≡ o → is_some (cond (is_eq o) (Some p.1) (lookup (is_at (bytes_cmp row.id)) ps)) ≡ true →
      (HasPlace row.id ps → rows_of (set_value (is_at (bytes_cmp row.id)) ps (Some row)) ≡ put row (rows_of ps)) →
      rows_of (cond (is_eq o) ((p.0, Some row) ∷ ps) (p ∷ set_value (is_at (bytes_cmp row.id)) ps (Some row))) ≡ put row (row_in p.1 ++ rows_of ps)
  by Equal e f more = here (same_id row.id p.0 e) p.1 fit.0
  by Less e f more = later (found_above row.id p.0 ps s.0 f) p.1 fit.0 _ (more f)
  by Greater e f more = later (found_above row.id p.0 ps s.0 f) p.1 fit.0 _ (more f)

pub put_fit : (row : Row) (ps : Places) → AllFit ps → AllFit (set_value (is_at (bytes_cmp row.id)) ps (Some row))
put_fit row [] h = tt
put_fit row (p ∷ ps) h = by (bytes_cmp row.id p.0) refl (put_fit row ps h.1) where
  by : (o : Ordering) → bytes_cmp row.id p.0 ≡ o → AllFit (set_value (is_at (bytes_cmp row.id)) ps (Some row)) →
      AllFit (cond (is_eq o) ((p.0, Some row) ∷ ps) (p ∷ set_value (is_at (bytes_cmp row.id)) ps (Some row)))
  by Equal e more = (same_id row.id p.0 e, h.1)
  by Less e more = (h.0, more)
  by Greater e more = (h.0, more)

-- where there is no place, nothing is written
pub nowhere : (id : List ℕ) (slot : Option Row) (ps : Places) → lookup (is_at (bytes_cmp id)) ps ≡ None → set_value (is_at (bytes_cmp id)) ps slot ≡ ps
nowhere id slot [] h = refl
nowhere id slot (p ∷ ps) h = by (is_at (bytes_cmp id) p.0) h (nowhere id slot ps) where
  by : (b : Bool) → cond b (Some p.1) (lookup (is_at (bytes_cmp id)) ps) ≡ None → (lookup (is_at (bytes_cmp id)) ps ≡ None → set_value (is_at (bytes_cmp id)) ps slot ≡ ps) →
      cond b ((p.0, slot) ∷ ps) (p ∷ set_value (is_at (bytes_cmp id)) ps slot) ≡ p ∷ ps
  by true e more = absurd (cc)
  by false e more = ap (λ qs. p ∷ qs) (more e)

-- whether there is a place is told by the Ids alone
by_keys : (id : List ℕ) (ps : Places) → has_place id ps ≡ list_any (is_at (bytes_cmp id)) (keys_of ps)
by_keys id [] = refl
by_keys id (p ∷ ps) = by (is_at (bytes_cmp id) p.0) (by_keys id ps) where
  by : (b : Bool) → has_place id ps ≡ list_any (is_at (bytes_cmp id)) (keys_of ps) → is_some (cond b (Some p.1) (lookup (is_at (bytes_cmp id)) ps)) ≡ (b || list_any (is_at (bytes_cmp id)) (keys_of ps))
  by true h = refl
  by false h = h

pub keys_stay : (ps qs : Places) → keys_of qs ≡ keys_of ps → Stay ps qs
keys_stay ps qs e id h = by_keys id qs ∙ ap (list_any (is_at (bytes_cmp id))) e ∙ sym (by_keys id ps) ∙ h

-- an entry more loses no place
pub placed_stay : (q id : List ℕ) (before after : Option (Option Row)) → after ≡ cond (is_at (bytes_cmp id) q) (Some None) before → is_some before ≡ true → is_some after ≡ true
placed_stay q id before after e h = ap is_some e ∙ by (is_at (bytes_cmp id) q) where
  by : (b : Bool) → is_some (cond b (Some None) before) ≡ true
  by true = refl
  by false = h

-- ---- what was seen of places, and one more

answer_append : (object : ℕ) (c : Cond) (xs ys : List Row) → answer (xs ++ ys) object c ≡ answer xs object c ++ answer ys object c
answer_append object c [] ys = refl
answer_append object c (x ∷ xs) ys = by (eqb x.object object && holds_of c x) (answer_append object c xs ys) where
  by : (b : Bool) → answer (xs ++ ys) object c ≡ answer xs object c ++ answer ys object c →
      cond b (x ∷ answer (xs ++ ys) object c) (answer (xs ++ ys) object c) ≡ cond b (x ∷ answer xs object c) (answer xs object c) ++ answer ys object c
  by true h = ap (λ rows. x ∷ rows) h
  by false h = h

rows_append : (ps qs : Places) → rows_of (ps ++ qs) ≡ rows_of ps ++ rows_of qs
rows_append [] qs = refl
rows_append (p ∷ ps) qs = ap (λ rows. row_in p.1 ++ rows) (rows_append ps qs) ∙ sym (append_assoc (row_in p.1) (rows_of ps) (rows_of qs))

module _ {A : Type 0} (f : A → List ℕ × Option Row) (object : ℕ) (c : Cond) (xs : List A) (x : A) where
  abbrev seen : List A → List Row
  seen zs = answer (rows_of (map f zs)) object c

  one_more : seen (xs ++ x ∷ []) ≡ seen xs ++ answer (row_in (f x).1) object c
  one_more =
      ap (λ ps. answer (rows_of ps) object c) (map_push f xs x) ∙ ap (λ rs. answer rs object c) (rows_append (map f xs) (f x ∷ []) ∙ ap (λ rs. rows_of (map f xs) ++ rs) (append-nil (row_in (f x).1)))
      ∙ answer_append object c (rows_of (map f xs)) (row_in (f x).1)

  pub seen_row : (row copy : Row) (rows later : List Row) → (f x).1 ≡ Some row → (eqb row.object object && holds_of c row) ≡ true → copy ≡ row → rows ≡ seen xs → later ≡ rows ++ copy ∷ [] → later ≡ seen (xs ++ x ∷ [])
  seen_row row copy rows later is holds e h l =
      l ∙ ap (λ (d : Row). rows ++ d ∷ []) e ∙ ap (λ (rs : List Row). rs ++ row ∷ []) h
      ∙ sym (one_more ∙ ap (λ rs. seen xs ++ rs) (ap (λ slot. answer (row_in slot) object c) is ∙ ap (λ (b : Bool). cond b (row ∷ []) []) holds))

  pub seen_other : (row : Row) (rows : List Row) → (f x).1 ≡ Some row → (eqb row.object object && holds_of c row) ≡ false → rows ≡ seen xs → rows ≡ seen (xs ++ x ∷ [])
  seen_other row rows is holds h =
      h ∙ sym (one_more ∙ ap (λ rs. seen xs ++ rs) (ap (λ slot. answer (row_in slot) object c) is ∙ ap (λ (b : Bool). cond b (row ∷ []) []) holds) ∙ append-nil (seen xs))

  pub seen_none : (rows : List Row) → (f x).1 ≡ None → rows ≡ seen xs → rows ≡ seen (xs ++ x ∷ [])
  seen_none rows is h = h ∙ sym (one_more ∙ ap (λ rs. seen xs ++ rs) (ap (λ slot. answer (row_in slot) object c) is) ∙ append-nil (seen xs))

-- ---- a place less

of_one : (id x : List ℕ) → has_id (id ∷ []) x ≡ is_eq (bytes_cmp id x)
of_one id x = by (bytes_eq id x) ∙ sym (is_eq-slice_cmp id x) where
  by : (b : Bool) → (b || false) ≡ b
  by true = refl
  by false = refl

-- rows with greater Ids all stay
stay_above : (id : List ℕ) (rows : List Row) → AllByRecursion (λ (r : Row). bytes_cmp id r.id ≡ Less) rows → without (id ∷ []) rows ≡ rows
stay_above id [] a = refl
stay_above id (r ∷ rows) a =
    ap (λ b. cond (cond b false true) (r ∷ without (id ∷ []) rows) (without (id ∷ []) rows)) (of_one id r.id ∙ ap is_eq a.0) ∙ ap (λ rs. r ∷ rs) (stay_above id rows a.1)

pub removed_rows : (id : List ℕ) (ps : Places) → AllFit ps → IsStrictlySortedBy bytes_cmp (keys_of ps) → rows_of (remove_entry (is_at (bytes_cmp id)) ps) ≡ without (id ∷ []) (rows_of ps)
unfolding IsStrictlySortedBy
removed_rows id [] fit s = refl
removed_rows id (p ∷ ps) fit s = by (bytes_cmp id p.0) refl (removed_rows id ps fit.1 s.1) where
  -- whether a row of this place stays
  one : (o : Ordering) → bytes_cmp id p.0 ≡ o → (slot : Option Row) → SlotFits p.0 slot → (rest : List Row) →
      without (id ∷ []) (row_in slot ++ rest) ≡ cond (is_eq o) (without (id ∷ []) rest) (row_in slot ++ without (id ∷ []) rest)
  one Less e None k rest = refl
  one Equal e None k rest = refl
  one Greater e None k rest = refl
  one o e (Some r) k rest =
      ap (λ b. cond (cond b false true) (r ∷ without (id ∷ []) rest) (without (id ∷ []) rest)) (of_one id r.id ∙ ap is_eq (ap (bytes_cmp id) k ∙ e)) ∙ turned (is_eq o) where
        turned : (b : Bool) → cond (cond b false true) (r ∷ without (id ∷ []) rest) (without (id ∷ []) rest) ≡ cond b (without (id ∷ []) rest) (r ∷ without (id ∷ []) rest)
        turned true = refl
        turned false = refl

  greater : bytes_cmp id p.0 ≡ Equal → AllByRecursion (λ (r : Row). bytes_cmp id r.id ≡ Less) (rows_of ps)
  greater e = above id ps fit.1 (subst (λ i. AllByRecursion (λ k. bytes_cmp i k ≡ Less) (keys_of ps)) (sym (same_id id p.0 e)) s.0)

  by : (o : Ordering) → bytes_cmp id p.0 ≡ o → rows_of (remove_entry (is_at (bytes_cmp id)) ps) ≡ without (id ∷ []) (rows_of ps) →
      rows_of (cond (is_eq o) ps (p ∷ remove_entry (is_at (bytes_cmp id)) ps)) ≡ without (id ∷ []) (row_in p.1 ++ rows_of ps)
  by Equal e more = sym (one Equal e p.1 fit.0 (rows_of ps) ∙ stay_above id (rows_of ps) (greater e))
  by Less e more = ap (λ rs. row_in p.1 ++ rs) more ∙ sym (one Less e p.1 fit.0 (rows_of ps))
  by Greater e more = ap (λ rs. row_in p.1 ++ rs) more ∙ sym (one Greater e p.1 fit.0 (rows_of ps))

pub removed_fit : (id : List ℕ) (ps : Places) → AllFit ps → AllFit (remove_entry (is_at (bytes_cmp id)) ps)
removed_fit id [] h = tt
removed_fit id (p ∷ ps) h = by (is_at (bytes_cmp id) p.0) (removed_fit id ps h.1) where
  by : (b : Bool) → AllFit (remove_entry (is_at (bytes_cmp id)) ps) → AllFit (cond b ps (p ∷ remove_entry (is_at (bytes_cmp id)) ps))
  by true more = h.1
  by false more = (h.0, more)

-- Ids that are removed one after the other
pub without_more : (id : List ℕ) (ids : List (List ℕ)) (rows : List Row) → without (id ∷ ids) rows ≡ without ids (without (id ∷ []) rows)
without_more id ids [] = refl
without_more id ids (r ∷ rows) = by (bytes_eq id r.id) (without_more id ids rows) where
  by : (b : Bool) → without (id ∷ ids) rows ≡ without ids (without (id ∷ []) rows) →
      cond (cond (b || has_id ids r.id) false true) (r ∷ without (id ∷ ids) rows) (without (id ∷ ids) rows)
      ≡ without ids (cond (cond (b || false) false true) (r ∷ without (id ∷ []) rows) (without (id ∷ []) rows))
  by true h = h
  by false h = kept (has_id ids r.id) where
    kept : (d : Bool) → cond (cond d false true) (r ∷ without (id ∷ ids) rows) (without (id ∷ ids) rows)
        ≡ cond (cond d false true) (r ∷ without ids (without (id ∷ []) rows)) (without ids (without (id ∷ []) rows))
    kept true = h
    kept false = ap (λ rs. r ∷ rs) h

-- ---- room

pub room_stays : (rows : List Row) (ps qs : Places) → Stay ps qs → HasRoom rows ps → HasRoom rows qs
room_stays [] ps qs stay h = tt
room_stays (r ∷ rows) ps qs stay h = (stay r.id h.0, room_stays rows ps qs stay h.1)

pub room_more : (rows : List Row) (row : Row) (ps : Places) → HasRoom rows ps → HasPlace row.id ps → HasRoom (rows ++ row ∷ []) ps
room_more [] row ps h k = (k, tt)
room_more (r ∷ rows) row ps h k = (h.0, room_more rows row ps h.1 k)

pub is_none : {X : Type 0} (o : Option X) → is_some o ≡ false → o ≡ None
is_none None h = refl
is_none (Some x) h = absurd (cc)

pub put_next : (rest after : List Row) (row : Row) (ps qs : Places) (whole : List Row) → rest ≡ row ∷ after → HasRoom rest ps × (put_all rest (rows_of ps) ≡ whole) →
    rows_of qs ≡ put row (rows_of ps) → Stay ps qs → HasRoom after qs × (put_all after (rows_of qs) ≡ whole)
put_next rest after row ps qs whole e h r stay =
    (room_stays after ps qs stay (subst (λ l. HasRoom l ps) e h.0).1, ap (put_all after) r ∙ sym (ap (λ l. put_all l (rows_of ps)) e) ∙ h.1)

pub drop_next : (rest after : List (List ℕ)) (id : List ℕ) (ps qs : Places) (whole : List Row) → rest ≡ id ∷ after → without rest (rows_of ps) ≡ whole →
    rows_of qs ≡ without (id ∷ []) (rows_of ps) → without after (rows_of qs) ≡ whole
drop_next rest after id ps qs whole e h r =
    ap (without after) r ∙ sym (without_more id after (rows_of ps)) ∙ sym (ap (λ l. without l (rows_of ps)) e) ∙ h

without_none : (rows : List Row) → without [] rows ≡ rows
without_none [] = refl
without_none (r ∷ rows) = ap (λ rs. r ∷ rs) (without_none rows)

pub drops_end : (rest : List (List ℕ)) (rows whole : List Row) → rest ≡ [] → without rest rows ≡ whole → rows ≡ whole
drops_end rest rows whole e h = sym (without_none rows) ∙ sym (ap (λ l. without l rows) e) ∙ h

pub room_at : (puts : List Row) (i : ℕ) (row default : Row) (ps qs : Places) → i < length puts → row ≡ get_or puts i default → HasRoom (take i puts) ps → Stay ps qs → HasPlace row.id qs →
    HasRoom (take (i + 1) puts) qs
room_at puts i row default ps qs lt is h stay ready =
    subst (λ rows. HasRoom rows qs) (ap (λ (r : Row). take i puts ++ r ∷ []) is ∙ sym (take_more puts i default lt)) (room_more (take i puts) row qs (room_stays (take i puts) ps qs stay h) ready)
