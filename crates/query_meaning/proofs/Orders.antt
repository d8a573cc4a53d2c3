-- Lists of rows that are filtered, sorted, cut and mapped by what agrees on them.
use Rattle.std.proofs.Common.{◌≡◌, refl, ap, ◌∙◌, ℕ, zero, suc, Bool, cond, List, [], ◌∷◌, map, take, drop, Option, None, Some}
use Rattle.std.specs.Prelude.{filter}
use Rattle.std.specs.Ordering.{ordering_then}
use Rattle.std.specs.declared.cmp.Ordering.{Ordering}
use Rattle.std.specs.declared.cmp.Ordering.TheVariants.{Less, Equal, Greater}
use Rattle.apex_num.specs.declared.cell.Cell.{Cell}
use Rattle.apex_rows.specs.declared.query.Path.{Path}
use Rattle.apex_rows.specs.declared.query.SortKey.{SortKey}
use Rattle.apex_rows.specs.declared.row.Row.{Row}
use Rattle.row_meaning.specs.Queries.{key_cmp, row_cmp, place_by, placed, sorted, limited, skipped}
use Rattle.query_meaning.proofs.Seen.{Each}
use Rattle.query_meaning.proofs.Conds.{Agree}

pub filter_same : (p q : Row → Bool) (rows : List Row) → Each (λ (r : Row). p r ≡ q r) rows → filter p rows ≡ filter q rows
filter_same p q [] h = refl
filter_same p q (r ∷ rows) h = ap (λ b. cond b (r ∷ filter p rows) (filter p rows)) h.0 ∙ ap (λ (more : List Row). cond (q r) (r ∷ more) more) (filter_same p q rows h.1)

pub map_same : {A : Type 0} (f g : Row → A) (rows : List Row) → Each (λ (r : Row). f r ≡ g r) rows → map f rows ≡ map g rows
map_same f g [] h = refl
map_same f g (r ∷ rows) h = ap (λ a. a ∷ map f rows) h.0 ∙ ap (λ more. g r ∷ more) (map_same f g rows h.1)

-- ---- what holds of each stays so

pub each_take : (of : Row → Type 0) (n : ℕ) (rows : List Row) → Each of rows → Each of (take n rows)
each_take of zero rows h = tt
each_take of (suc n) [] h = tt
each_take of (suc n) (r ∷ rows) h = (h.0, each_take of n rows h.1)

pub each_drop : (of : Row → Type 0) (n : ℕ) (rows : List Row) → Each of rows → Each of (drop n rows)
each_drop of zero rows h = h
each_drop of (suc n) [] h = tt
each_drop of (suc n) (r ∷ rows) h = each_drop of n rows h.1

each_placed : (of : Row → Type 0) (order : Row → Row → Ordering) (row : Row) (rows : List Row) → of row → Each of rows → Each of (placed order row rows)
each_placed of order row [] h a = (h, tt)
each_placed of order row (r ∷ rows) h a = by (order row r) (each_placed of order row rows h a.1) where
  by : (o : Ordering) → Each of (placed order row rows) → Each of (place_by o row r rows (placed order row rows))
  by Less more = (h, a)
  by Equal more = (h, a)
  by Greater more = (a.0, more)

pub each_sorted : (of : Row → Type 0) (order : Row → Row → Ordering) (rows : List Row) → Each of rows → Each of (sorted order rows)
each_sorted of order [] h = tt
each_sorted of order (r ∷ rows) h = each_placed of order r (sorted order rows) h.0 (each_sorted of order rows h.1)

pub each_limited : (of : Row → Type 0) (n : Option ℕ) (rows : List Row) → Each of rows → Each of (limited n rows)
each_limited of None rows h = h
each_limited of (Some n) rows h = each_take of n rows h

pub each_skipped : (of : Row → Type 0) (n : Option ℕ) (rows : List Row) → Each of rows → Each of (skipped n rows)
each_skipped of None rows h = h
each_skipped of (Some n) rows h = each_drop of n rows h

-- ---- orders that agree

module _ (f g : Row → Row → Ordering) (of : Row → Type 0) (same : (a b : Row) → of a → of b → f a b ≡ g a b) where
  placed_same : (row : Row) (rows : List Row) → of row → Each of rows → placed f row rows ≡ placed g row rows
  placed_same row [] h a = refl
  placed_same row (r ∷ rows) h a =
      ap (λ o. place_by o row r rows (placed f row rows)) (same row r h a.0) ∙ ap (place_by (g row r) row r rows) (placed_same row rows h a.1)

  pub sorted_same : (rows : List Row) → Each of rows → sorted f rows ≡ sorted g rows
  sorted_same [] h = refl
  sorted_same (r ∷ rows) h = ap (placed f r) (sorted_same rows h.1) ∙ placed_same r (sorted g rows) h.0 (each_sorted of g rows h.1)

pub cmp_same : (v w : Row → Path → Cell) (keys : List SortKey) (a b : Row) → Agree (v a) (w a) (map (λ (k : SortKey). k.path) keys) → Agree (v b) (w b) (map (λ (k : SortKey). k.path) keys) →
    row_cmp v keys a b ≡ row_cmp w keys a b
cmp_same v w [] a b h k = refl
cmp_same v w (x ∷ keys) a b h k =
    ap (λ c. ordering_then (key_cmp x c (v b x.path)) (row_cmp v keys a b)) h.0
    ∙ ap (λ c. ordering_then (key_cmp x (w a x.path) c) (row_cmp v keys a b)) k.0
    ∙ ap (ordering_then (key_cmp x (w a x.path) (w b x.path))) (cmp_same v w keys a b h.1 k.1)
