-- The order of `sort`: null first, then rising; false before true, texts and Ids by their bytes.
use Rattle.std.specs.Prelude.{ℕ, ℤ, pos, Bool, true, cond, List, [], ◌∷◌}
use Rattle.std.specs.Cmp.Lexicographic.{slice_cmp}
use Rattle.std.specs.Ordering.{nat_cmp, int_cmp, ordering_then, is_lt}
use Rattle.std.specs.declared.cmp.Ordering.{Ordering}
use Rattle.apex_num.specs.declared.cell.Cell.{Cell}
use Rattle.apex_num.specs.declared.cell.Cell.TheVariants as C
use Rattle.txn_heap.specs.declared.thing.Value.{Value}
use Rattle.txn_heap.specs.declared.thing.Value.TheVariants.{Plain, Object}

-- the items of a list are of one type, so only null and the others differ by kind
abbrev pub cell_kind : Cell → ℕ
cell_kind C.Null = 0
cell_kind (C.Bool b) = 1
cell_kind (C.Whole n) = 2
cell_kind (C.Num n) = 3
cell_kind (C.Text bs) = 4
cell_kind (C.Id bs) = 5
cell_kind (C.Day n) = 6
cell_kind (C.Moment n) = 7

abbrev pub kind : Value → ℕ
kind (Plain c) = cell_kind c
kind (Object r) = 8

abbrev pub cell_number : Cell → ℤ
cell_number (C.Bool true) = pos 1
cell_number (C.Whole n) = n
cell_number (C.Num n) = n
cell_number (C.Day n) = n
cell_number (C.Moment n) = n
cell_number _ = pos 0

abbrev pub number : Value → ℤ
number (Plain c) = cell_number c
number (Object r) = pos r.place

abbrev pub bytes : Value → List ℕ
bytes (Plain (C.Text bs)) = bs
bytes (Plain (C.Id bs)) = bs
bytes _ = []

abbrev pub by_content : Value → Value → Ordering
by_content a b = ordering_then (int_cmp (number a) (number b)) (slice_cmp nat_cmp (bytes a) (bytes b))

abbrev pub compared : Value → Value → Ordering
compared a b = ordering_then (nat_cmp (kind a) (kind b)) (by_content a b)

abbrev pub less : Value → Value → Bool
less a b = is_lt (compared a b)

-- before the first that isn't less
abbrev pub put_in : Value → List Value → List Value
put_in x [] = x ∷ []
put_in x (y ∷ ys) = cond (less y x) (y ∷ put_in x ys) (x ∷ (y ∷ ys))

abbrev pub sorted : List Value → List Value
sorted [] = []
sorted (x ∷ xs) = put_in x (sorted xs)
