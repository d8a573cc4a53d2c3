-- The order of rows by the values of keys that were read once (docs/platform.md, "Queries").
use Rattle.std.specs.Prelude.{◌≡◌, ℕ, ◌&&◌, ◌||◌, eqb, Bool, true, false, List, [], ◌∷◌, map, drop, slice_get, Option, None, Some}
use Rattle.std.specs.Ordering.{nat_cmp, ordering_then}
use Rattle.std.specs.declared.cmp.Ordering.{Ordering}
use Rattle.std.specs.declared.cmp.Ordering.TheVariants.{Less, Equal, Greater}
use Rattle.apex_num.specs.declared.cell.Cell.{Cell}
use Rattle.apex_num.specs.declared.cell.Cell.TheVariants.{Null, Bool as Truth, Whole, Num, Text, Id, Day, Moment}
use Rattle.apex_rows.specs.declared.query.Path.{Path}
use Rattle.apex_rows.specs.declared.query.SortKey.{SortKey}
use Rattle.apex_rows.specs.declared.row.Row.{Row}
use Rattle.row_meaning.specs.Cells.{bytes_cmp, cell_cmp, is_null}
use Rattle.row_meaning.specs.Conds.{or_null}
use Rattle.row_meaning.specs.Queries.{with_nulls, turned}
use Rattle.query_rows.specs.declared.order.Keyed.{Keyed}

-- a number for each type of values; null has none of them
abbrev pub kind_of : Cell → ℕ
kind_of Null = 0
kind_of (Truth b) = 1
kind_of (Whole n) = 2
kind_of (Num d) = 3
kind_of (Text t) = 4
kind_of (Id i) = 5
kind_of (Day n) = 6
kind_of (Moment n) = 7

-- how two values stand; those of two types are equal, or stand by their types
abbrev pub or_kinds : Bool → Option Ordering → Ordering → Ordering
or_kinds kinds (Some o) k = o
or_kinds true None k = k
or_kinds false None k = Equal

abbrev pub cell_order : Bool → Cell → Cell → Ordering
cell_order kinds a b = or_kinds kinds (cell_cmp a b) (nat_cmp (kind_of a) (kind_of b))

abbrev pub key_order : Bool → SortKey → Cell → Cell → Ordering
key_order kinds key a b = with_nulls key.nulls_last (turned key.descending (Some (cell_order kinds a b))) (is_null a) (is_null b)

abbrev pub first_of : List Cell → Cell
first_of cells = or_null (slice_get cells 0)

-- by the values of the keys, in their order
abbrev pub keys_order : Bool → List SortKey → List Cell → List Cell → Ordering
keys_order kinds [] xs ys = Equal
keys_order kinds (k ∷ ks) xs ys = ordering_then (key_order kinds k (first_of xs) (first_of ys)) (keys_order kinds ks (drop 1 xs) (drop 1 ys))

-- and then by Id
abbrev pub keyed_order : Bool → List SortKey → Keyed → Keyed → Ordering
keyed_order kinds keys a b = ordering_then (keys_order kinds keys a.cells b.cells) (bytes_cmp a.row.id b.row.id)

-- each value is null or of the type that stands at its place
abbrev pub fits : List ℕ → List Cell → Bool
fits kinds [] = true
fits [] (c ∷ cs) = false
fits (n ∷ ns) (c ∷ cs) = (eqb (kind_of c) 0 || eqb (kind_of c) n) && fits ns cs

-- these are the values of the keys
abbrev pub key_cells : (Row → Path → Cell) → List SortKey → Row → List Cell
key_cells value keys row = map (λ (k : SortKey). value row k.path) keys

-- each has the values of the keys of its row
abbrev pub AllKeyed : (Row → Path → Cell) → List SortKey → List Keyed → Type 0
AllKeyed value keys [] = Unit {0}
AllKeyed value keys (x ∷ xs) = (x.cells ≡ key_cells value keys x.row) × AllKeyed value keys xs

abbrev pub rows_of : List Keyed → List Row
rows_of xs = map (λ (x : Keyed). x.row) xs

-- ---- lists in order, each element in front of those behind which it doesn't stand

abbrev pub placed_by : {A : Type 0} → Ordering → A → A → List A → List A → List A
placed_by Greater x y ys more = y ∷ more
placed_by _ x y ys more = x ∷ y ∷ ys

abbrev pub placed_in : {A : Type 0} → (A → A → Ordering) → A → List A → List A
placed_in order x [] = x ∷ []
placed_in order x (y ∷ ys) = placed_by (order x y) x y ys (placed_in order x ys)

abbrev pub sorted_in : {A : Type 0} → (A → A → Ordering) → List A → List A
sorted_in order [] = []
sorted_in order (x ∷ xs) = placed_in order x (sorted_in order xs)
