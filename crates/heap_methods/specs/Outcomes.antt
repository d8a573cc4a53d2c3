-- What a method of a collection does, and what that makes of the things.
use Rattle.std.specs.Prelude.{ℕ, ◌+◌, ◌-◌, ◌*◌, ℤ, List, [], ◌∷◌, ◌++◌, length, codes, Option, None, Some}
use Rattle.std.specs.Fmt.{signed_decimal}
use Rattle.apex_num.specs.declared.cell.Cell.TheVariants as C
use Rattle.builtin_table.specs.declared.exception.ExceptionClass.{ExceptionClass}
use Rattle.builtin_table.specs.declared.exception.ExceptionClass.TheVariants as Class
use Rattle.txn_heap.specs.declared.thing.Thing.{Thing}
use Rattle.txn_heap.specs.declared.thing.Thing.TheVariants as T
use Rattle.txn_heap.specs.declared.thing.Value.{Value}
use Rattle.txn_heap.specs.declared.thing.Value.TheVariants.{Plain, Object}
use Rattle.txn_heap.specs.Changes.{changed}

pub data Outcome : Type 0 where
  -- it answers, and nothing changes
  Tells : Value → Outcome
  -- it answers a text that it makes
  Spells : List ℕ → Outcome
  -- the collection becomes this thing, and the method answers
  Becomes : Thing → Value → Outcome
  -- it answers a new thing
  Makes : Thing → Outcome
  -- it throws, and nothing changes
  Fails : ExceptionClass → List ℕ → Outcome

-- the answer and the things behind it, or what is thrown
pub data Done : Type 0 where
  Answers : Value → List Thing → Done
  Throws : ExceptionClass → List ℕ → Done

-- only the thing at the place changes, and a new thing goes behind the others
abbrev pub done : ℕ → List Thing → Outcome → Done
done place heap (Tells v) = Answers v heap
done place heap (Spells text) = Answers (Plain (C.Text text)) heap
done place heap (Becomes thing v) = Answers v (changed place (λ _. thing) heap)
done place heap (Makes thing) = Answers (Object (record { place = length heap })) (heap ++ thing ∷ [])
done place heap (Fails class message) = Throws class message

-- ---- what is thrown

-- also where a method is called on a thing or with arguments that aren't its own, which checked code doesn't do
abbrev pub null_object : Outcome
null_object = Fails Class.NullPointer (codes "Attempt to de-reference a null object")

abbrev pub out_of_bounds : ℤ → Outcome
out_of_bounds n = Fails Class.List (codes "List index out of bounds: " ++ signed_decimal n)

-- where the list or the map of a trigger would change
abbrev pub read_only : Outcome
read_only = Fails Class.Final (codes "Record is read-only")

-- ---- allocation units: 16 for an element, 32 for an entry of a map, 32 for a new collection, and for a text that is made 16 and
-- one for each byte

abbrev pub content : Thing → ℕ
content (T.List xs) = 16 * length xs
content (T.Set ks) = 16 * length ks
content (T.Map es) = 32 * length es
content _ = 0

abbrev pub content_at : Option Thing → ℕ
content_at None = 0
content_at (Some thing) = content thing

-- what is there beside what was there before
abbrev pub units_of : Option Thing → Outcome → ℕ
units_of before (Tells v) = 0
units_of before (Spells text) = 16 + length text
units_of before (Becomes thing v) = content thing - content_at before
units_of before (Makes thing) = 32 + content thing
units_of before (Fails class message) = 0
