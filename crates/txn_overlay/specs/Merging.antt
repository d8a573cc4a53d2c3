-- Two lists of rows in the order of their Ids, as one.
use Rattle.std.specs.Prelude.{List, [], ◌∷◌, Option, None, Some}
use Rattle.std.specs.declared.cmp.Ordering.{Ordering}
use Rattle.std.specs.declared.cmp.Ordering.TheVariants.{Less, Equal, Greater}
use Rattle.apex_rows.specs.declared.row.Row.{Row}
use Rattle.row_meaning.specs.Cells.{bytes_cmp}

-- whichever comes next; of two with one Id, that of the first list
abbrev pub next_of : Ordering → Row → Row → List Row → List Row → List Row → List Row
next_of Less x y after_x after_y after_both = x ∷ after_x
next_of Equal x y after_x after_y after_both = x ∷ after_both
next_of Greater x y after_x after_y after_both = y ∷ after_y

abbrev pub onto : Row → (List Row → List Row) → List Row → List Row → List Row
onto x after xs [] = x ∷ xs
onto x after xs (y ∷ ys) = next_of (bytes_cmp x.id y.id) x y (after (y ∷ ys)) (onto x after xs ys) (after ys)

-- the rows of the first list, each behind those of the second that come before it
abbrev pub merge : List Row → List Row → List Row
merge [] ys = ys
merge (x ∷ xs) ys = onto x (merge xs) xs ys

-- a row that was taken from the front of a list, where there was one
abbrev pub head : Option Row → List Row
head None = []
head (Some row) = row ∷ []
