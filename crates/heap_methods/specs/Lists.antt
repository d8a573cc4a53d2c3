-- The methods of lists (docs/language.md, "Built-in methods"), by the number of arguments.
use Rattle.std.specs.Prelude.{ℕ, ◌+◌, eqb, List, [], ◌∷◌, ◌++◌, length, position, insert, remove, slice_get, slice_set, codes, Option, None, Some}
use Rattle.std.specs.List.{list_any}
use Rattle.apex_num.specs.declared.cell.Cell.TheVariants as C
use Rattle.builtin_table.specs.declared.method.ListMethod.{ListMethod}
use Rattle.builtin_table.specs.declared.method.ListMethod.TheVariants as M
use Rattle.txn_heap.specs.declared.thing.Thing.{Thing}
use Rattle.txn_heap.specs.declared.thing.Thing.TheVariants as T
use Rattle.txn_heap.specs.declared.thing.Value.{Value}
use Rattle.txn_heap.specs.declared.thing.Value.TheVariants.{Plain}
use Rattle.heap_methods.specs.declared.operands.Place.{Place}
use Rattle.heap_methods.specs.declared.operands.Place.TheVariants.{Within, Outside, Missing}
use Rattle.heap_methods.specs.Operands.{null, truth, count, or_null, place_or, place_in, same_value, thing_at, as_list}
use Rattle.heap_methods.specs.Order.{sorted}
use Rattle.heap_methods.specs.Outcomes.{Outcome, Tells, Spells, Becomes, Makes, null_object, out_of_bounds}

-- at a position; null throws, and so does a position that isn't there
abbrev pub at_place : Place → (ℕ → Outcome) → Outcome
at_place (Within n) then = then n
at_place (Outside n) then = out_of_bounds n
at_place Missing then = null_object

abbrev pub list_alone : ListMethod → List Value → Outcome
list_alone M.Size xs = Tells (count (length xs))
list_alone M.IsEmpty xs = Tells (truth (eqb (length xs) 0))
list_alone M.Clear xs = Becomes (T.List []) null
list_alone M.Clone xs = Makes (T.List xs)
list_alone M.Sort xs = Becomes (T.List (sorted xs)) null
list_alone _ xs = null_object

abbrev pub append : List Value → Option (List Value) → Outcome
append xs None = null_object
append xs (Some ys) = Becomes (T.List (xs ++ ys)) null

abbrev pub list_with : ListMethod → List Thing → List Value → Value → Outcome
list_with M.Add heap xs x = Becomes (T.List (xs ++ x ∷ [])) null
list_with M.AddAll heap xs x = append xs (as_list (thing_at heap x))
list_with M.Get heap xs x = at_place (place_in (length xs) x) (λ n. Tells (or_null (slice_get xs n)))
list_with M.Remove heap xs x = at_place (place_in (length xs) x) (λ n. Becomes (T.List (remove xs n)) (or_null (slice_get xs n)))
list_with M.Contains heap xs x = Tells (truth (list_any (same_value x) xs))
list_with M.IndexOf heap xs x = Tells (place_or (position (same_value x) xs))
list_with _ heap xs x = null_object

-- `add(n, x)` allows the position behind the last
abbrev pub list_with_two : ListMethod → List Value → Value → Value → Outcome
list_with_two M.Insert xs x y = at_place (place_in (length xs + 1) x) (λ n. Becomes (T.List (insert xs n y)) null)
list_with_two M.Set xs x y = at_place (place_in (length xs) x) (λ n. Becomes (T.List (slice_set xs n y)) null)
list_with_two _ xs x y = null_object

abbrev pub list_method : ListMethod → List Thing → List Value → List Value → Outcome
list_method m heap xs [] = list_alone m xs
list_method m heap xs (x ∷ []) = list_with m heap xs x
list_method m heap xs (x ∷ (y ∷ [])) = list_with_two m xs x y
list_method m heap xs _ = null_object

-- ---- `String.join`: the texts of a list with another between each two; null is the text `null`

abbrev pub word_of : Value → List ℕ
word_of (Plain (C.Text text)) = text
word_of _ = codes "null"

abbrev pub joined_behind : List ℕ → List Value → List ℕ
joined_behind between [] = []
joined_behind between (x ∷ xs) = between ++ (word_of x ++ joined_behind between xs)

abbrev pub joined : List ℕ → List Value → List ℕ
joined between [] = []
joined between (x ∷ xs) = word_of x ++ joined_behind between xs

abbrev pub join : List Value → List Value → Outcome
join xs (Plain (C.Text between) ∷ []) = Spells (joined between xs)
join xs _ = null_object
