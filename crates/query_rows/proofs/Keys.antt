-- The order of rows by their keys.
use Rattle.std.proofs.Common.{◌≡◌, refl, ap, ap₂, sym, subst, ◌∙◌, ℕ, Bool, true, false, cond, List, [], ◌∷◌, ◌++◌, map, drop, Option, Some, None, eqb-true, eq-eqb}
use Rattle.std.specs.Prelude.{◌&&◌, ◌||◌, eqb, ℤ, pos}
use Rattle.std.specs.List.{list_all}
use Rattle.std.specs.Cmp.{IsTotalOrder}
use Rattle.std.specs.Ordering.{nat_cmp, int_cmp, on, then_cmp, flip_args, ordering_then, ordering_reverse}
use Rattle.std.specs.declared.cmp.Ordering.{Ordering}
use Rattle.std.specs.declared.cmp.Ordering.TheVariants.{Less, Equal, Greater}
use Rattle.std.proofs.lemmas.Cmp.{nat_cmp_total, int_cmp_total, nat_list_cmp_total, on_total, then_total, back_total}
use Rattle.std.proofs.lemmas.List.{append_assoc, map_push}
use Rattle.apex_text.specs.Fold.{folded}
use Rattle.apex_num.specs.declared.cell.Cell.{Cell}
use Rattle.apex_num.specs.declared.cell.Cell.TheVariants.{Null, Bool as Truth, Whole, Num, Text, Id, Day, Moment}
use Rattle.apex_rows.specs.declared.query.Path.{Path}
use Rattle.apex_rows.specs.declared.query.SortKey.{SortKey}
use Rattle.apex_rows.specs.declared.row.Row.{Row}
use Rattle.row_meaning.specs.Cells.{bytes_cmp, cell_cmp, is_null}
use Rattle.row_meaning.specs.Queries.{with_nulls, turned, key_cmp, row_cmp, place_by, placed, sorted}
use Rattle.query_rows.specs.declared.order.Keyed.{Keyed}
use Rattle.query_rows.specs.Orders.{kind_of, or_kinds, cell_order, key_order, first_of, keys_order, keyed_order, fits, key_cells, AllKeyed, rows_of, placed_by, placed_in, sorted_in}

-- ---- an order of all values

number_in : Cell → ℤ
number_in (Truth true) = pos 1
number_in (Whole n) = n
number_in (Num d) = d
number_in (Day n) = n
number_in (Moment n) = n
number_in _ = pos 0

letters_in : Cell → List ℕ
letters_in (Text t) = folded t
letters_in (Id i) = i
letters_in _ = []

abbrev cells : Cell → Cell → Ordering
cells = then_cmp (on kind_of nat_cmp) (then_cmp (on number_in int_cmp) (on letters_in bytes_cmp))

cells_total : IsTotalOrder cells
cells_total = then_total (on_total kind_of nat_cmp_total) (then_total (on_total number_in int_cmp_total) (on_total letters_in nat_list_cmp_total))

then_equal : (q : Ordering) → q ≡ ordering_then q Equal
then_equal Less = refl
then_equal Equal = refl
then_equal Greater = refl

cell_is : (a b : Cell) → cell_order true a b ≡ cells a b
unfolding number_in letters_in
cell_is Null Null = refl
cell_is (Text a) (Text b) = refl
cell_is (Id a) (Id b) = refl
cell_is (Truth true) (Truth true) = refl
cell_is (Truth true) (Truth false) = refl
cell_is (Truth false) (Truth true) = refl
cell_is (Truth false) (Truth false) = refl
cell_is (Whole a) (Whole b) = then_equal (int_cmp a b)
cell_is (Num a) (Num b) = then_equal (int_cmp a b)
cell_is (Day a) (Day b) = then_equal (int_cmp a b)
cell_is (Moment a) (Moment b) = then_equal (int_cmp a b)
cell_is a b = refl

-- ---- of keys

abbrev turned_by : Bool → (Cell → Cell → Ordering) → Cell → Cell → Ordering
turned_by false R = R
turned_by true R = flip_args R

turned_total : (descending : Bool) → IsTotalOrder (turned_by descending cells)
turned_total false = cells_total
turned_total true = back_total cells_total

abbrev null_place : Bool → Cell → ℕ
null_place last c = cond (is_null c) (cond last 2 0) 1

abbrev key_by : SortKey → Cell → Cell → Ordering
key_by key = then_cmp (on (null_place key.nulls_last) nat_cmp) (turned_by key.descending cells)

key_total : (key : SortKey) → IsTotalOrder (key_by key)
key_total key = then_total (on_total (null_place key.nulls_last) nat_cmp_total) (turned_total key.descending)

turned_is : (descending : Bool) (a b : Cell) → turned_by descending cells a b ≡ cond descending (ordering_reverse (cells a b)) (cells a b)
turned_is false a b = refl
turned_is true a b = cells_total.antisymm b a

both_null : (a b : Cell) → is_null a ≡ true → is_null b ≡ true → cells a b ≡ Equal
unfolding number_in letters_in
both_null Null Null e f = refl
both_null a b e f = absurd (cc)

shape : (last descending na nb : Bool) (q t : Ordering) → t ≡ cond descending (ordering_reverse q) q → (na ≡ true → nb ≡ true → q ≡ Equal) →
    with_nulls last (turned descending (Some q)) na nb ≡ ordering_then (nat_cmp (cond na (cond last 2 0) 1) (cond nb (cond last 2 0) 1)) t
shape true true true true q t e n = sym (e ∙ ap ordering_reverse (n refl refl))
shape true false true true q t e n = sym (e ∙ n refl refl)
shape false true true true q t e n = sym (e ∙ ap ordering_reverse (n refl refl))
shape false false true true q t e n = sym (e ∙ n refl refl)
shape true descending true false q t e n = refl
shape false descending true false q t e n = refl
shape true descending false true q t e n = refl
shape false descending false true q t e n = refl
shape last true false false q t e n = sym e
shape last false false false q t e n = sym e

key_is : (key : SortKey) (a b : Cell) → key_order true key a b ≡ key_by key a b
key_is key a b =
    ap (λ q. with_nulls key.nulls_last (turned key.descending (Some q)) (is_null a) (is_null b)) (cell_is a b)
    ∙ shape key.nulls_last key.descending (is_null a) (is_null b) (cells a b) (turned_by key.descending cells a b) (turned_is key.descending a b) (both_null a b)

abbrev keys_by : List SortKey → List Cell → List Cell → Ordering
keys_by [] = λ xs ys. Equal
keys_by (k ∷ ks) = then_cmp (on first_of (key_by k)) (on (drop 1) (keys_by ks))

all_equal : {X : Type 0} → IsTotalOrder (λ (x y : X). Equal)
all_equal = record { antisymm = λ x y. refl; trans = λ x y z p q. p; congr = λ x y z p. refl }

keys_total : (keys : List SortKey) → IsTotalOrder (keys_by keys)
keys_total [] = all_equal
keys_total (k ∷ ks) = then_total (on_total first_of (key_total k)) (on_total (drop 1) (keys_total ks))

keys_are : (keys : List SortKey) (xs ys : List Cell) → keys_order true keys xs ys ≡ keys_by keys xs ys
keys_are [] xs ys = refl
keys_are (k ∷ ks) xs ys = ap₂ ordering_then (key_is k (first_of xs) (first_of ys)) (keys_are ks (drop 1 xs) (drop 1 ys))

abbrev keyed_by : List SortKey → Keyed → Keyed → Ordering
keyed_by keys = then_cmp (on (λ (x : Keyed). x.cells) (keys_by keys)) (on (λ (x : Keyed). x.row.id) bytes_cmp)

keyed_is : (keys : List SortKey) (x y : Keyed) → keyed_order true keys x y ≡ keyed_by keys x y
keyed_is keys x y = ap (λ q. ordering_then q (bytes_cmp x.row.id y.row.id)) (keys_are keys x.cells y.cells)

total_as : {X : Type 0} (R S : X → X → Ordering) → ((x y : X) → S x y ≡ R x y) → IsTotalOrder R → IsTotalOrder S
total_as R S same o = record {
  antisymm = λ x y. same x y ∙ o.antisymm x y ∙ ap ordering_reverse (sym (same y x));
  trans = λ x y z p q. same x z ∙ o.trans x y z (sym (same x y) ∙ p) (sym (same y z) ∙ q);
  congr = λ x y z p. same x z ∙ o.congr x y z (sym (same x y) ∙ p) ∙ sym (same y z);
}

pub keyed_total : (keys : List SortKey) → IsTotalOrder (keyed_order true keys)
keyed_total keys =
    total_as (keyed_by keys) (keyed_order true keys) (keyed_is keys) (then_total (on_total (λ (x : Keyed). x.cells) (keys_total keys)) (on_total (λ (x : Keyed). x.row.id) nat_list_cmp_total))

-- ---- it is the order that is meant: without the types, and where each key has one type

untyped : (last descending na nb : Bool) → with_nulls last (turned descending (Some Equal)) na nb ≡ with_nulls last (turned descending None) na nb
untyped last descending true true = refl
untyped last descending true false = refl
untyped last descending false true = refl
untyped last true false false = refl
untyped last false false false = refl

key_plain : (key : SortKey) (a b : Cell) → key_order false key a b ≡ key_cmp key a b
key_plain key a b = by (cell_cmp a b) where
  by : (c : Option Ordering) → with_nulls key.nulls_last (turned key.descending (Some (or_kinds false c (nat_cmp (kind_of a) (kind_of b))))) (is_null a) (is_null b)
      ≡ with_nulls key.nulls_last (turned key.descending c) (is_null a) (is_null b)
  by None = untyped key.nulls_last key.descending (is_null a) (is_null b)
  by (Some q) = refl

null_kind : (c : Cell) → eqb (kind_of c) 0 ≡ is_null c
null_kind Null = refl
null_kind (Truth b) = refl
null_kind (Whole n) = refl
null_kind (Num d) = refl
null_kind (Text t) = refl
null_kind (Id i) = refl
null_kind (Day n) = refl
null_kind (Moment n) = refl

one_kind : (a b : Cell) → eqb (kind_of a) (kind_of b) ≡ true → is_null a ≡ false → Some (cell_order true a b) ≡ cell_cmp a b
one_kind Null b e n = absurd (cc)
one_kind (Truth a) (Truth b) e n = refl
one_kind (Whole a) (Whole b) e n = refl
one_kind (Num a) (Num b) e n = refl
one_kind (Text a) (Text b) e n = refl
one_kind (Id a) (Id b) e n = refl
one_kind (Day a) (Day b) e n = refl
one_kind (Moment a) (Moment b) e n = refl
one_kind a b e n = absurd (cc)

of_kind : (n : ℕ) (c : Cell) → (eqb (kind_of c) 0 || eqb (kind_of c) n) ≡ true → is_null c ≡ false → kind_of c ≡ n
of_kind n c h e = eqb-true (kind_of c) n (ap (λ b. b || eqb (kind_of c) n) (sym (null_kind c ∙ e)) ∙ h)

key_fit : (n : ℕ) (key : SortKey) (a b : Cell) → (eqb (kind_of a) 0 || eqb (kind_of a) n) ≡ true → (eqb (kind_of b) 0 || eqb (kind_of b) n) ≡ true → key_order true key a b ≡ key_cmp key a b
key_fit n key a b fa fb = by (is_null a) refl (is_null b) refl where
  by : (na : Bool) → is_null a ≡ na → (nb : Bool) → is_null b ≡ nb → with_nulls key.nulls_last (turned key.descending (Some (cell_order true a b))) na nb ≡ with_nulls key.nulls_last (turned key.descending (cell_cmp a b)) na nb
  by true e true f = refl
  by true e false f = refl
  by false e true f = refl
  by false e false f = ap (λ c. with_nulls key.nulls_last (turned key.descending c) false false) (one_kind a b (eq-eqb (kind_of a) (kind_of b) (of_kind n a fa e ∙ sym (of_kind n b fb f))) e)

then_assoc : (p q r : Ordering) → ordering_then (ordering_then p q) r ≡ ordering_then p (ordering_then q r)
then_assoc Less q r = refl
then_assoc Equal q r = refl
then_assoc Greater q r = refl

first_and : (a b : Bool) → (a && b) ≡ true → a ≡ true
first_and true b e = refl
first_and false b e = e

second_and : (a b : Bool) → (a && b) ≡ true → b ≡ true
second_and true b e = e
second_and false b e = absurd (cc)

-- ---- reading keys

pub keyed_push : (value : Row → Path → Cell) (keys : List SortKey) (xs ys : List Keyed) (x : Keyed) → ys ≡ xs ++ x ∷ [] → x.cells ≡ key_cells value keys x.row → AllKeyed value keys xs → AllKeyed value keys ys
keyed_push value keys xs ys x e k h = subst (AllKeyed value keys) (sym e) (go xs h) where
  go : (xs : List Keyed) → AllKeyed value keys xs → AllKeyed value keys (xs ++ x ∷ [])
  go [] h = (k, tt)
  go (y ∷ ys) h = (h.0, go ys h.1)

rows_push : (xs : List Keyed) (x : Keyed) → rows_of (xs ++ x ∷ []) ≡ rows_of xs ++ x.row ∷ []
rows_push xs x = map_push (λ (y : Keyed). y.row) xs x

pub rows_moved : (xs ys : List Keyed) (x : Keyed) (before rest rows : List Row) → ys ≡ xs ++ x ∷ [] → before ≡ x.row ∷ rest → rows_of xs ++ before ≡ rows → rows_of ys ++ rest ≡ rows
rows_moved xs ys x before rest rows e b h =
    ap (λ zs. rows_of zs ++ rest) e ∙ ap (λ rs. rs ++ rest) (rows_push xs x) ∙ append_assoc (rows_of xs) (x.row ∷ []) rest ∙ ap (λ bs. rows_of xs ++ bs) (sym b) ∙ h

module _ (value : Row → Path → Cell) where
  rows_plain : (keys : List SortKey) (x y : Row) → ordering_then (keys_order false keys (key_cells value keys x) (key_cells value keys y)) (bytes_cmp x.id y.id) ≡ row_cmp value keys x y
  rows_plain [] x y = refl
  rows_plain (k ∷ ks) x y =
      then_assoc (key_order false k (value x k.path) (value y k.path)) (keys_order false ks (key_cells value ks x) (key_cells value ks y)) (bytes_cmp x.id y.id)
      ∙ ap₂ ordering_then (key_plain k (value x k.path) (value y k.path)) (rows_plain ks x y)

  rows_fit : (ns : List ℕ) (keys : List SortKey) (x y : Row) → fits ns (key_cells value keys x) ≡ true → fits ns (key_cells value keys y) ≡ true →
      ordering_then (keys_order true keys (key_cells value keys x) (key_cells value keys y)) (bytes_cmp x.id y.id) ≡ row_cmp value keys x y
  rows_fit ns [] x y fx fy = refl
  rows_fit [] (k ∷ ks) x y fx fy = absurd (cc)
  rows_fit (n ∷ ns) (k ∷ ks) x y fx fy =
      then_assoc (key_order true k (value x k.path) (value y k.path)) (keys_order true ks (key_cells value ks x) (key_cells value ks y)) (bytes_cmp x.id y.id)
      ∙ ap₂ ordering_then (key_fit n k (value x k.path) (value y k.path) (first_and _ _ fx) (first_and _ _ fy)) (rows_fit ns ks x y (second_and _ _ fx) (second_and _ _ fy))

  -- ---- rows of a list in order

  module _ (keys : List SortKey) (order : Keyed → Keyed → Ordering) (good : Keyed → Type 0) (agrees : (x y : Keyed) → good x → good y → order x y ≡ row_cmp value keys x.row y.row) where
    abbrev AllGood : List Keyed → Type 0
    AllGood [] = Unit {0}
    AllGood (x ∷ xs) = good x × AllGood xs

    placed_good : (x : Keyed) (xs : List Keyed) → good x → AllGood xs → AllGood (placed_in order x xs)
    placed_good x [] g h = (g, tt)
    placed_good x (y ∷ ys) g h = by (order x y) (placed_good x ys g h.1) where
      by : (q : Ordering) → AllGood (placed_in order x ys) → AllGood (placed_by q x y ys (placed_in order x ys))
      by Less more = (g, h)
      by Equal more = (g, h)
      by Greater more = (h.0, more)

    sorted_good : (xs : List Keyed) → AllGood xs → AllGood (sorted_in order xs)
    sorted_good [] h = tt
    sorted_good (x ∷ xs) h = placed_good x (sorted_in order xs) h.0 (sorted_good xs h.1)

    placed_rows : (x : Keyed) (xs : List Keyed) → good x → AllGood xs → rows_of (placed_in order x xs) ≡ placed (row_cmp value keys) x.row (rows_of xs)
    placed_rows x [] g h = refl
    placed_rows x (y ∷ ys) g h =
        by (order x y) (placed_rows x ys g h.1) ∙ ap (λ q. place_by q x.row y.row (rows_of ys) (placed (row_cmp value keys) x.row (rows_of ys))) (agrees x y g h.0) where
          by : (q : Ordering) → rows_of (placed_in order x ys) ≡ placed (row_cmp value keys) x.row (rows_of ys) →
              rows_of (placed_by q x y ys (placed_in order x ys)) ≡ place_by q x.row y.row (rows_of ys) (placed (row_cmp value keys) x.row (rows_of ys))
          by Less more = refl
          by Equal more = refl
          by Greater more = ap (λ (rs : List Row). y.row ∷ rs) more

    sorted_rows : (xs : List Keyed) → AllGood xs → rows_of (sorted_in order xs) ≡ sorted (row_cmp value keys) (rows_of xs)
    sorted_rows [] h = refl
    sorted_rows (x ∷ xs) h = placed_rows x (sorted_in order xs) h.0 (sorted_good xs h.1) ∙ ap (placed (row_cmp value keys) x.row) (sorted_rows xs h.1)

  module _ (keys : List SortKey) where
    pub sorted_plain : (xs : List Keyed) → AllKeyed value keys xs → rows_of (sorted_in (keyed_order false keys) xs) ≡ sorted (row_cmp value keys) (rows_of xs)
    sorted_plain xs h = sorted_rows keys (keyed_order false keys) (λ x. x.cells ≡ key_cells value keys x.row) agrees xs (good xs h) where
      agrees : (x y : Keyed) → x.cells ≡ key_cells value keys x.row → y.cells ≡ key_cells value keys y.row → keyed_order false keys x y ≡ row_cmp value keys x.row y.row
      agrees x y gx gy = ap₂ (λ u v. ordering_then (keys_order false keys u v) (bytes_cmp x.row.id y.row.id)) gx gy ∙ rows_plain keys x.row y.row

      good : (xs : List Keyed) → AllKeyed value keys xs → AllGood keys (keyed_order false keys) (λ x. x.cells ≡ key_cells value keys x.row) agrees xs
      good [] h = tt
      good (x ∷ xs) h = (h.0, good xs h.1)

    pub sorted_fit : (ns : List ℕ) (xs : List Keyed) → AllKeyed value keys xs → list_all (λ (x : Keyed). fits ns x.cells) xs ≡ true →
        rows_of (sorted_in (keyed_order true keys) xs) ≡ sorted (row_cmp value keys) (rows_of xs)
    sorted_fit ns xs h f = sorted_rows keys (keyed_order true keys) (λ x. (x.cells ≡ key_cells value keys x.row) × (fits ns x.cells ≡ true)) agrees xs (good xs h f) where
      agrees : (x y : Keyed) → (x.cells ≡ key_cells value keys x.row) × (fits ns x.cells ≡ true) → (y.cells ≡ key_cells value keys y.row) × (fits ns y.cells ≡ true) →
          keyed_order true keys x y ≡ row_cmp value keys x.row y.row
      agrees x y gx gy =
          ap₂ (λ u v. ordering_then (keys_order true keys u v) (bytes_cmp x.row.id y.row.id)) gx.0 gy.0
          ∙ rows_fit ns keys x.row y.row (ap (fits ns) (sym gx.0) ∙ gx.1) (ap (fits ns) (sym gy.0) ∙ gy.1)

      good : (xs : List Keyed) → AllKeyed value keys xs → list_all (λ (x : Keyed). fits ns x.cells) xs ≡ true →
          AllGood keys (keyed_order true keys) (λ x. (x.cells ≡ key_cells value keys x.row) × (fits ns x.cells ≡ true)) agrees xs
      good [] h f = tt
      good (x ∷ xs) h f = ((h.0, first_and _ _ f), good xs h.1 (second_and _ _ f))
