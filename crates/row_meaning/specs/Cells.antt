-- Values of fields: their order, and what a comparison of a condition says (docs/platform.md, "Conditions").
use Rattle.std.specs.Prelude.{ℕ, ◌&&◌, ◌||◌, not, eqb, Bool, true, false, cond, List, [], ◌∷◌, Option, None, Some}
use Rattle.std.specs.Ordering.{nat_cmp, int_cmp, bool_cmp, is_eq, is_lt, is_gt}
use Rattle.std.specs.Cmp.Lexicographic.{slice_cmp}
use Rattle.std.specs.declared.cmp.Ordering.{Ordering}
use Rattle.std.specs.Str.{chars}
use Rattle.apex_text.specs.Fold.{folded}
use Rattle.apex_num.specs.Ids.{long_id}
use Rattle.apex_num.specs.declared.cell.Cell.{Cell}
use Rattle.apex_num.specs.declared.cell.Cell.TheVariants.{Null, Bool as Truth, Whole, Num, Text, Id, Day, Moment}
use Rattle.apex_rows.specs.declared.query.CondOp.{CondOp}
use Rattle.apex_rows.specs.declared.query.CondOp.TheVariants.{Equal, Differs, Less, AtMost, More, AtLeast, Like}

-- the order of texts by their bytes
abbrev pub bytes_cmp : List ℕ → List ℕ → Ordering
bytes_cmp = slice_cmp nat_cmp

-- how two values of one type stand; none for a null and for two types. Texts are compared without case
abbrev pub cell_cmp : Cell → Cell → Option Ordering
cell_cmp (Truth a) (Truth b) = Some (bool_cmp a b)
cell_cmp (Whole a) (Whole b) = Some (int_cmp a b)
cell_cmp (Num a) (Num b) = Some (int_cmp a b)
cell_cmp (Text a) (Text b) = Some (bytes_cmp (folded a) (folded b))
cell_cmp (Id a) (Id b) = Some (bytes_cmp a b)
cell_cmp (Day a) (Day b) = Some (int_cmp a b)
cell_cmp (Moment a) (Moment b) = Some (int_cmp a b)
cell_cmp _ _ = None

-- whether two values stand so; false where one is null
abbrev pub stands : (Ordering → Bool) → Option Ordering → Bool
stands test None = false
stands test (Some o) = test o

abbrev pub is_null : Cell → Bool
is_null Null = true
is_null _ = false

-- two values are the same; null is the same as null
abbrev pub same_cell : Cell → Cell → Bool
same_cell a b = (is_null a && is_null b) || stands is_eq (cell_cmp a b)

-- ---- LIKE, by Unicode scalar values

-- one of the ends of a text meets a test, the whole and the empty one among them
abbrev pub some_end : (List ℕ → Bool) → List ℕ → Bool
some_end test [] = test []
some_end test (c ∷ cs) = test (c ∷ cs) || some_end test cs

-- a text is one character and a rest that meets a test
abbrev pub one_then : (ℕ → Bool) → (List ℕ → Bool) → List ℕ → Bool
one_then char test [] = false
one_then char test (c ∷ cs) = char c && test cs

abbrev pub is_empty : List ℕ → Bool
is_empty [] = true
is_empty (c ∷ cs) = false

-- a text agrees with a pattern: `%` is any run, `_` any one, a backslash takes the next one as it is, and is itself
-- at the end; `escaped` behind a backslash
abbrev pub agrees : Bool → List ℕ → List ℕ → Bool
agrees false [] text = is_empty text
agrees true [] text = one_then (eqb 92) is_empty text
agrees true (p ∷ ps) text = one_then (eqb p) (agrees false ps) text
agrees false (p ∷ ps) text =
    cond (eqb p 92) (agrees true ps text)
    (cond (eqb p 37) (some_end (agrees false ps) text)
    (cond (eqb p 95) (one_then (λ c. true) (agrees false ps) text)
    (one_then (eqb p) (agrees false ps) text)))

-- LIKE of two texts, without case
abbrev pub text_like : List ℕ → List ℕ → Bool
text_like text pattern = agrees false (chars (folded pattern)) (chars (folded text))

-- LIKE of two values, of an Id by its 18 characters; false of other values, and where the pattern is no text
abbrev pub cell_like : Cell → Cell → Bool
cell_like (Text text) (Text pattern) = text_like text pattern
cell_like (Id id) (Text pattern) = text_like (long_id id) pattern
cell_like _ _ = false

-- ---- comparisons

-- `=` finds nulls by null alone, `!=` is its negation, and `<` and its kin never find a null
abbrev pub compares : CondOp → Cell → Cell → Bool
compares Equal a b = same_cell a b
compares Differs a b = not (same_cell a b)
compares Less a b = stands is_lt (cell_cmp a b)
compares AtMost a b = stands (λ o. not (is_gt o)) (cell_cmp a b)
compares More a b = stands is_gt (cell_cmp a b)
compares AtLeast a b = stands (λ o. not (is_lt o)) (cell_cmp a b)
compares Like a b = cell_like a b
