-- A count over what a store answers is that over the whole store as the transaction sees it.
use Rattle.std.proofs.Common.{arith, ◌≡◌, refl, ap, sym, ◌∙◌, ℕ, ◌+◌, Bool, true, false, cond, List, [], ◌∷◌, ◌++◌, length}
use Rattle.std.specs.Prelude.{◌&&◌, ◌||◌, eqb, bytes_eq, filter}
use Rattle.std.specs.Cmp.{both_ways}
use Rattle.std.specs.declared.cmp.Ordering.{Ordering}
use Rattle.std.specs.declared.cmp.Ordering.TheVariants.{Less, Equal, Greater}
use Rattle.std.specs.Ordering.{is_eq}
use Rattle.std.proofs.lemmas.Map.Text.{is_eq-slice_cmp}
use Rattle.std.proofs.lemmas.Slice.Eq.{bytes_eq-Decides}
use Rattle.apex_rows.specs.declared.row.Row.{Row}
use Rattle.row_meaning.specs.Cells.{bytes_cmp}
use Rattle.apex_rows.specs.declared.query.Cond.{Cond}
use Rattle.row_meaning.specs.Conds.{holds_of}
use Rattle.row_meaning.specs.Overlays.{Overlay, Change, Now, Gone, touched_ids, overlay_rows, row_of, merged, over}
use Rattle.row_meaning.specs.Stores.{put, put_by, put_all, has_id, without, of_object, answer}
use Rattle.save_meaning.specs.Counts.{KeyIs, IsKeyed}
use Rattle.save_meaning.specs.Inserts.{ids_of}

abbrev one : Bool → ℕ
one b = cond b 1 0

-- how many rows meet a test
abbrev pub many : (Row → Bool) → List Row → ℕ
many test rows = length (filter test rows)

many_cons : (test : Row → Bool) (r : Row) (rows : List Row) → many test (r ∷ rows) ≡ one (test r) + many test rows
many_cons test r rows = by (test r) where
  by : (b : Bool) → length (cond b (r ∷ filter test rows) (filter test rows)) ≡ one b + many test rows
  by true = omega arith
  by false = omega arith

clash : true ≡ false → ⊥
clash e = absurd (cc)

swap : (a b c : ℕ) → a + (b + c) ≡ b + (a + c)
swap a b c = omega arith

-- a row that isn't there is one more
put_many : (test : Row → Bool) (r : Row) (rows : List Row) → has_id (ids_of rows) r.id ≡ false → many test (put r rows) ≡ one (test r) + many test rows
put_many test r [] h = many_cons test r []
put_many test r (x ∷ xs) h = by (bytes_cmp r.id x.id) refl (put_many test r xs (later (bytes_eq x.id r.id) h)) where
  later : (b : Bool) → (b || has_id (ids_of xs) r.id) ≡ false → has_id (ids_of xs) r.id ≡ false
  later true k = absurd (cc)
  later false k = k

  here : (b : Bool) → (b || has_id (ids_of xs) r.id) ≡ false → b ≡ false
  here true k = k
  here false k = refl

  same : bytes_cmp r.id x.id ≡ Equal → bytes_eq x.id r.id ≡ true
  same e = (bytes_eq-Decides x.id r.id).1 (sym ((bytes_eq-Decides r.id x.id).0 (sym (is_eq-slice_cmp r.id x.id) ∙ ap is_eq e)))

  by : (o : Ordering) → bytes_cmp r.id x.id ≡ o → many test (put r xs) ≡ one (test r) + many test xs → many test (put_by o r x xs (put r xs)) ≡ one (test r) + many test (x ∷ xs)
  by Less e more = many_cons test r (x ∷ xs)
  by Equal e more = absurd (clash (sym (same e) ∙ here (bytes_eq x.id r.id) h))
  by Greater e more = many_cons test x (put r xs) ∙ ap (λ n. one (test x) + n) more ∙ swap (one (test x)) (one (test r)) (many test xs) ∙ ap (λ n. one (test r) + n) (sym (many_cons test x xs))

or_of : (a b : Bool) → a ≡ false → b ≡ false → (a || b) ≡ false
or_of true b h k = h
or_of false b h k = k

or_left : (a b : Bool) → (a || b) ≡ false → a ≡ false
or_left true b h = h
or_left false b h = refl

or_right : (a b : Bool) → (a || b) ≡ false → b ≡ false
or_right true b h = absurd (clash h)
or_right false b h = h

same_bytes : (a b : List ℕ) → bytes_eq a b ≡ bytes_eq b a
same_bytes a b = both_ways (bytes_eq a b) (bytes_eq b a) (λ h. (bytes_eq-Decides b a).1 (sym ((bytes_eq-Decides a b).0 h))) (λ h. (bytes_eq-Decides a b).1 (sym ((bytes_eq-Decides b a).0 h)))

not_in_put : (r : Row) (rows : List Row) (i : List ℕ) → bytes_eq r.id i ≡ false → has_id (ids_of rows) i ≡ false → has_id (ids_of (put r rows)) i ≡ false
not_in_put r [] i e h = or_of (bytes_eq r.id i) false e refl
not_in_put r (x ∷ xs) i e h = by (bytes_cmp r.id x.id) (not_in_put r xs i e (or_right (bytes_eq x.id i) (has_id (ids_of xs) i) h)) where
  by : (o : Ordering) → has_id (ids_of (put r xs)) i ≡ false → has_id (ids_of (put_by o r x xs (put r xs))) i ≡ false
  by Less more = or_of (bytes_eq r.id i) (has_id (ids_of (x ∷ xs)) i) e h
  by Equal more = or_of (bytes_eq r.id i) (has_id (ids_of xs) i) e (or_right (bytes_eq x.id i) (has_id (ids_of xs) i) h)
  by Greater more = or_of (bytes_eq x.id i) (has_id (ids_of (put r xs)) i) (or_left (bytes_eq x.id i) (has_id (ids_of xs) i) h) more

-- no Id stands twice, and none among others
abbrev pub Distinct : List Row → Type 0
Distinct [] = Unit {0}
Distinct (x ∷ xs) = (has_id (ids_of xs) x.id ≡ false) × Distinct xs

abbrev pub Apart : List Row → List Row → Type 0
Apart [] ys = Unit {0}
Apart (x ∷ xs) ys = (has_id (ids_of ys) x.id ≡ false) × Apart xs ys

apart_put : (r : Row) (xs ys : List Row) → has_id (ids_of xs) r.id ≡ false → Apart xs ys → Apart xs (put r ys)
apart_put r [] ys h a = tt
apart_put r (x ∷ xs) ys h a =
    (not_in_put r ys x.id (same_bytes r.id x.id ∙ or_left (bytes_eq x.id r.id) (has_id (ids_of xs) r.id) h) a.0, apart_put r xs ys (or_right (bytes_eq x.id r.id) (has_id (ids_of xs) r.id) h) a.1)

added : (a b c : ℕ) → b + (a + c) ≡ (a + b) + c
added a b c = omega arith

none_added : (a : ℕ) → a ≡ 0 + a
none_added a = omega arith

put_all_many : (test : Row → Bool) (xs ys : List Row) → Distinct xs → Apart xs ys → many test (put_all xs ys) ≡ many test xs + many test ys
put_all_many test [] ys d a = none_added (many test ys)
put_all_many test (x ∷ xs) ys d a =
    put_all_many test xs (put x ys) d.1 (apart_put x xs ys d.0 a.1) ∙ ap (λ n. many test xs + n) (put_many test x ys a.0) ∙ added (one (test x)) (many test xs) (many test ys)
    ∙ ap (λ n. n + many test ys) (sym (many_cons test x xs))

-- ---- filters

many_of : (p q : Row → Bool) (rows : List Row) → many p (filter q rows) ≡ many (λ (r : Row). q r && p r) rows
many_of p q [] = refl
many_of p q (r ∷ rows) = by (q r) (many_of p q rows) ∙ sym (many_cons (λ (s : Row). q s && p s) r rows) where
  by : (b : Bool) → many p (filter q rows) ≡ many (λ (s : Row). q s && p s) rows → many p (cond b (r ∷ filter q rows) (filter q rows)) ≡ one (b && p r) + many (λ (s : Row). q s && p s) rows
  by true h = many_cons p r (filter q rows) ∙ ap (λ n. one (p r) + n) h
  by false h = h ∙ none_added (many (λ (s : Row). q s && p s) rows)

many_same : (p q : Row → Bool) → ((r : Row) → p r ≡ q r) → (rows : List Row) → many p rows ≡ many q rows
many_same p q e [] = refl
many_same p q e (r ∷ rows) = many_cons p r rows ∙ ap (λ b. one b + many p rows) (e r) ∙ ap (λ n. one (q r) + n) (many_same p q e rows) ∙ sym (many_cons q r rows)

not_in_filter : (p : Row → Bool) (rows : List Row) (i : List ℕ) → has_id (ids_of rows) i ≡ false → has_id (ids_of (filter p rows)) i ≡ false
not_in_filter p [] i h = h
not_in_filter p (r ∷ rows) i h = by (p r) (not_in_filter p rows i (or_right (bytes_eq r.id i) (has_id (ids_of rows) i) h)) where
  by : (b : Bool) → has_id (ids_of (filter p rows)) i ≡ false → has_id (ids_of (cond b (r ∷ filter p rows) (filter p rows))) i ≡ false
  by true more = or_of (bytes_eq r.id i) (has_id (ids_of (filter p rows)) i) (or_left (bytes_eq r.id i) (has_id (ids_of rows) i) h) more
  by false more = more

distinct_filter : (p : Row → Bool) (rows : List Row) → Distinct rows → Distinct (filter p rows)
distinct_filter p [] d = tt
distinct_filter p (r ∷ rows) d = by (p r) (distinct_filter p rows d.1) where
  by : (b : Bool) → Distinct (filter p rows) → Distinct (cond b (r ∷ filter p rows) (filter p rows))
  by true more = (not_in_filter p rows r.id d.0, more)
  by false more = more

-- ---- rows whose Ids are among some

abbrev AllIn : List (List ℕ) → List Row → Type 0
AllIn ids [] = Unit {0}
AllIn ids (r ∷ rows) = (has_id ids r.id ≡ true) × AllIn ids rows

all_in_filter : (ids : List (List ℕ)) (p : Row → Bool) (rows : List Row) → AllIn ids rows → AllIn ids (filter p rows)
all_in_filter ids p [] a = tt
all_in_filter ids p (r ∷ rows) a = by (p r) (all_in_filter ids p rows a.1) where
  by : (b : Bool) → AllIn ids (filter p rows) → AllIn ids (cond b (r ∷ filter p rows) (filter p rows))
  by true more = (a.0, more)
  by false more = more

gone : (ids : List (List ℕ)) (rows : List Row) (i : List ℕ) → has_id ids i ≡ true → has_id (ids_of (without ids rows)) i ≡ false
gone ids [] i h = refl
gone ids (r ∷ rows) i h = by (has_id ids r.id) refl (gone ids rows i h) where
  differs : (b : Bool) → bytes_eq r.id i ≡ b → has_id ids r.id ≡ false → b ≡ false
  differs true e k = absurd (clash (sym h ∙ sym (ap (has_id ids) ((bytes_eq-Decides r.id i).0 e)) ∙ k))
  differs false e k = refl

  by : (b : Bool) → has_id ids r.id ≡ b → has_id (ids_of (without ids rows)) i ≡ false → has_id (ids_of (cond (cond b false true) (r ∷ without ids rows) (without ids rows))) i ≡ false
  by true e more = more
  by false e more = or_of (bytes_eq r.id i) (has_id (ids_of (without ids rows)) i) (differs (bytes_eq r.id i) refl e) more

apart_of : (ids : List (List ℕ)) (xs rows : List Row) → AllIn ids xs → Apart xs (without ids rows)
apart_of ids [] rows a = tt
apart_of ids (x ∷ xs) rows a = (gone ids rows x.id a.0, apart_of ids xs rows a.1)

-- ---- the rows of an overlay

module _ (ids : List (List ℕ)) where
  all_in : (v : Overlay) → ((i : List ℕ) → has_id (touched_ids v) i ≡ true → has_id ids i ≡ true) → IsKeyed v → AllIn ids (overlay_rows v)
  all_in [] sub k = tt
  all_in (e ∷ es) sub k = by e.1 k.0 (all_in es (λ i h. sub i (right (bytes_eq e.0 i) h)) k.2) where
    right : (b : Bool) {d : Bool} → d ≡ true → (b || d) ≡ true
    right true h = refl
    right false h = h

    itself : bytes_eq e.0 e.0 ≡ true
    itself = (bytes_eq-Decides e.0 e.0).1 refl

    by : (c : Change) → KeyIs e.0 c → AllIn ids (overlay_rows es) → AllIn ids (row_of c ++ overlay_rows es)
    by (Now row) h more = (sub row.id (ap (λ b. b || has_id (touched_ids es) row.id) (ap (bytes_eq e.0) h ∙ itself)), more)
    by Gone h more = more

not_there : (v : Overlay) (i : List ℕ) → IsKeyed v → has_id (touched_ids v) i ≡ false → has_id (ids_of (overlay_rows v)) i ≡ false
not_there [] i k h = refl
not_there (e ∷ es) i k h = by e.1 k.0 (not_there es i k.2 (or_right (bytes_eq e.0 i) (has_id (touched_ids es) i) h)) where
  by : (c : Change) → KeyIs e.0 c → has_id (ids_of (overlay_rows es)) i ≡ false → has_id (ids_of (row_of c ++ overlay_rows es)) i ≡ false
  by (Now row) q more = or_of (bytes_eq row.id i) (has_id (ids_of (overlay_rows es)) i) (ap (λ d. bytes_eq d i) q ∙ or_left (bytes_eq e.0 i) (has_id (touched_ids es) i) h) more
  by Gone q more = more

distinct_rows : (v : Overlay) → IsKeyed v → Distinct (overlay_rows v)
distinct_rows [] k = tt
distinct_rows (e ∷ es) k = by e.1 k.0 (distinct_rows es k.2) where
  by : (c : Change) → KeyIs e.0 c → Distinct (overlay_rows es) → Distinct (row_of c ++ overlay_rows es)
  by (Now row) q more = (not_there es row.id k.2 (ap (has_id (touched_ids es)) q ∙ k.1), more)
  by Gone q more = more

-- ---- the count

parts : (o k q h : Bool) → (h ≡ true → q ≡ true) → ((o && q) && (k && h)) ≡ (k && (o && h))
parts false true q h w = refl
parts false false q h w = refl
parts true true true h w = refl
parts true false true h w = refl
parts true true false true w = absurd (clash (sym (w refl)))
parts true false false true w = refl
parts true true false false w = refl
parts true false false false w = refl

module _ (object : ℕ) (q c : Cond) (weaker : (r : Row) → holds_of c r ≡ true → holds_of q r ≡ true) where
  abbrev meant : Row → Bool
  meant r = eqb r.object object && holds_of c r

  pub counted : (v : Overlay) (store : List Row) → IsKeyed v → many (holds_of c) (merged v object (answer store object q)) ≡ many meant (over store v)
  counted v store k =
      put_all_many (holds_of c) (of_object object (overlay_rows v)) (without (touched_ids v) (answer store object q))
      (distinct_filter (λ (r : Row). eqb r.object object) (overlay_rows v) (distinct_rows v k))
      (apart_of (touched_ids v) (of_object object (overlay_rows v)) (answer store object q) (all_in_filter (touched_ids v) (λ (r : Row). eqb r.object object) (overlay_rows v) ins))
      ∙ ap (λ n. n + many (holds_of c) (without (touched_ids v) (answer store object q))) (many_of (holds_of c) (λ (r : Row). eqb r.object object) (overlay_rows v))
      ∙ ap (λ n. many meant (overlay_rows v) + n) answered
      ∙ sym (put_all_many meant (overlay_rows v) (without (touched_ids v) store) (distinct_rows v k) (apart_of (touched_ids v) (overlay_rows v) store ins)) where
        ins : AllIn (touched_ids v) (overlay_rows v)
        ins = all_in (touched_ids v) v (λ i h. h) k

        answered : many (holds_of c) (without (touched_ids v) (answer store object q)) ≡ many meant (without (touched_ids v) store)
        answered =
            many_of (holds_of c) (λ (r : Row). cond (has_id (touched_ids v) r.id) false true) (answer store object q)
            ∙ many_of (λ (r : Row). cond (has_id (touched_ids v) r.id) false true && holds_of c r) (λ (r : Row). eqb r.object object && holds_of q r) store
            ∙ many_same _ _ (λ (r : Row). parts (eqb r.object object) (cond (has_id (touched_ids v) r.id) false true) (holds_of q r) (holds_of c r) (weaker r)) store
            ∙ sym (many_of meant (λ (r : Row). cond (has_id (touched_ids v) r.id) false true) store)
