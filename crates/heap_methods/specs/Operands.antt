-- Values as receivers, arguments and answers of methods.
use Rattle.std.specs.Prelude.{ℕ, ℤ, pos, negsuc, nat_eq, nat_lt, Bool, false, cond, List, map, slice_get, Option, None, Some}
use Rattle.apex_num.specs.declared.cell.Cell.{Cell}
use Rattle.apex_num.specs.declared.cell.Cell.TheVariants as C
use Rattle.txn_heap.specs.declared.thing.Thing.{Thing}
use Rattle.txn_heap.specs.declared.thing.Thing.TheVariants as T
use Rattle.txn_heap.specs.declared.thing.Value.{Value}
use Rattle.txn_heap.specs.declared.thing.Value.TheVariants.{Plain, Object}
use Rattle.txn_heap.specs.Equal.{same}
use Rattle.heap_methods.specs.declared.operands.Place.{Place}
use Rattle.heap_methods.specs.declared.operands.Place.TheVariants.{Within, Outside, Missing}

-- ---- answers

-- the answer of a method that has none, too
abbrev pub null : Value
null = Plain C.Null

abbrev pub truth : Bool → Value
truth b = Plain (C.Bool b)

abbrev pub whole : ℤ → Value
whole n = Plain (C.Whole n)

abbrev pub count : ℕ → Value
count n = whole (pos n)

abbrev pub or_null : Option Value → Value
or_null None = null
or_null (Some v) = v

-- a place, or -1
abbrev pub place_or : Option ℕ → Value
place_or None = whole (negsuc 0)
place_or (Some n) = count n

-- ---- arguments

-- a position in a list where so many are right
abbrev pub place_in : ℕ → Value → Place
place_in size (Plain (C.Whole (pos n))) = cond (nat_lt n size) (Within n) (Outside (pos n))
place_in size (Plain (C.Whole (negsuc n))) = Outside (negsuc n)
place_in size _ = Missing

-- an element of a set or a key of a map; a thing, which checked code has for neither, counts as null
abbrev pub key_of : Value → Cell
key_of (Plain c) = c
key_of (Object r) = C.Null

-- texts are the same where all their bytes are; two names of one thing are the same
abbrev pub same_value : Value → Value → Bool
same_value (Plain a) (Plain b) = same a b
same_value (Object a) (Object b) = nat_eq a.place b.place
same_value _ _ = false

-- ---- arguments that are collections

abbrev pub thing_at : List Thing → Value → Option Thing
thing_at heap (Plain c) = None
thing_at heap (Object r) = slice_get heap r.place

abbrev pub as_list : Option Thing → Option (List Value)
as_list (Some (T.List xs)) = Some xs
as_list _ = None

abbrev pub as_set : Option Thing → Option (List Cell)
as_set (Some (T.Set ks)) = Some ks
as_set _ = None

abbrev pub as_map : Option Thing → Option (List (Cell × Value))
as_map (Some (T.Map es)) = Some es
as_map _ = None

-- the elements of a list or a set
abbrev pub as_elements : Option Thing → Option (List Cell)
as_elements (Some (T.List xs)) = Some (map key_of xs)
as_elements (Some (T.Set ks)) = Some ks
as_elements _ = None
