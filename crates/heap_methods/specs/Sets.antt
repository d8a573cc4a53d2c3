-- The methods of sets (docs/language.md, "Built-in methods"), by the number of arguments. A changing one answers whether the set
-- changed.
use Rattle.std.specs.Prelude.{not, eqb, filter, List, [], ◌∷◌, length, Option, None, Some}
use Rattle.std.specs.List.{list_any, list_all}
use Rattle.apex_num.specs.declared.cell.Cell.{Cell}
use Rattle.builtin_table.specs.declared.method.SetMethod.{SetMethod}
use Rattle.builtin_table.specs.declared.method.SetMethod.TheVariants as M
use Rattle.txn_heap.specs.declared.thing.Thing.{Thing}
use Rattle.txn_heap.specs.declared.thing.Thing.TheVariants as T
use Rattle.txn_heap.specs.declared.thing.Value.{Value}
use Rattle.txn_heap.specs.Words.{has, with_key, with_keys, without_key}
use Rattle.heap_methods.specs.Operands.{null, truth, count, key_of, thing_at, as_set, as_elements}
use Rattle.heap_methods.specs.Outcomes.{Outcome, Tells, Becomes, Makes, null_object}

abbrev pub set_alone : SetMethod → List Cell → Outcome
set_alone M.Size ks = Tells (count (length ks))
set_alone M.IsEmpty ks = Tells (truth (eqb (length ks) 0))
set_alone M.Clear ks = Becomes (T.Set []) null
set_alone M.Clone ks = Makes (T.Set ks)
set_alone _ ks = null_object

abbrev pub add_all : List Cell → Option (List Cell) → Outcome
add_all ks None = null_object
add_all ks (Some more) = Becomes (T.Set (with_keys ks more)) (truth (list_any (λ k. not (has k ks)) more))

abbrev pub remove_all : List Cell → Option (List Cell) → Outcome
remove_all ks None = null_object
remove_all ks (Some others) = Becomes (T.Set (filter (λ k. not (has k others)) ks)) (truth (list_any (λ k. has k others) ks))

abbrev pub retain_all : List Cell → Option (List Cell) → Outcome
retain_all ks None = null_object
retain_all ks (Some others) = Becomes (T.Set (filter (λ k. has k others) ks)) (truth (list_any (λ k. not (has k others)) ks))

abbrev pub contains_all : List Cell → Option (List Cell) → Outcome
contains_all ks None = null_object
contains_all ks (Some others) = Tells (truth (list_all (λ k. has k ks) others))

abbrev pub set_with : SetMethod → List Thing → List Cell → Value → Outcome
set_with M.Add heap ks x = Becomes (T.Set (with_key ks (key_of x))) (truth (not (has (key_of x) ks)))
set_with M.Remove heap ks x = Becomes (T.Set (without_key ks (key_of x))) (truth (has (key_of x) ks))
set_with M.Contains heap ks x = Tells (truth (has (key_of x) ks))
set_with M.AddAll heap ks x = add_all ks (as_elements (thing_at heap x))
set_with M.RemoveAll heap ks x = remove_all ks (as_set (thing_at heap x))
set_with M.RetainAll heap ks x = retain_all ks (as_set (thing_at heap x))
set_with M.ContainsAll heap ks x = contains_all ks (as_set (thing_at heap x))
set_with _ heap ks x = null_object

abbrev pub set_method : SetMethod → List Thing → List Cell → List Value → Outcome
set_method m heap ks [] = set_alone m ks
set_method m heap ks (x ∷ []) = set_with m heap ks x
set_method m heap ks _ = null_object
