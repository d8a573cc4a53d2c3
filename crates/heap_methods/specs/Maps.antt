-- The methods of maps (docs/language.md, "Built-in methods"), by the number of arguments.
use Rattle.std.specs.Prelude.{eqb, List, [], ◌∷◌, length, Option, None, Some}
use Rattle.std.specs.Option.{is_some}
use Rattle.apex_num.specs.declared.cell.Cell.{Cell}
use Rattle.builtin_table.specs.declared.method.MapMethod.{MapMethod}
use Rattle.builtin_table.specs.declared.method.MapMethod.TheVariants as M
use Rattle.txn_heap.specs.declared.thing.Thing.{Thing}
use Rattle.txn_heap.specs.declared.thing.Thing.TheVariants as T
use Rattle.txn_heap.specs.declared.thing.Value.{Value}
use Rattle.txn_heap.specs.Words.{keys_of, values_of, value_at, with_entry, with_entries, without_entry}
use Rattle.heap_methods.specs.Operands.{null, truth, count, or_null, key_of, thing_at, as_map}
use Rattle.heap_methods.specs.Outcomes.{Outcome, Tells, Becomes, Makes, null_object}

abbrev pub map_alone : MapMethod → List (Cell × Value) → Outcome
map_alone M.KeySet es = Makes (T.Set (keys_of es))
map_alone M.Values es = Makes (T.List (values_of es))
map_alone M.Size es = Tells (count (length es))
map_alone M.IsEmpty es = Tells (truth (eqb (length es) 0))
map_alone M.Clear es = Becomes (T.Map []) null
map_alone M.Clone es = Makes (T.Map es)
map_alone _ es = null_object

abbrev pub put_all : List (Cell × Value) → Option (List (Cell × Value)) → Outcome
put_all es None = null_object
put_all es (Some more) = Becomes (T.Map (with_entries es more)) null

abbrev pub map_with : MapMethod → List Thing → List (Cell × Value) → Value → Outcome
map_with M.Get heap es x = Tells (or_null (value_at (key_of x) es))
map_with M.ContainsKey heap es x = Tells (truth (is_some (value_at (key_of x) es)))
map_with M.Remove heap es x = Becomes (T.Map (without_entry es (key_of x))) (or_null (value_at (key_of x) es))
map_with M.PutAll heap es x = put_all es (as_map (thing_at heap x))
map_with _ heap es x = null_object

abbrev pub map_with_two : MapMethod → List (Cell × Value) → Value → Value → Outcome
map_with_two M.Put es x y = Becomes (T.Map (with_entry es (key_of x) y)) (or_null (value_at (key_of x) es))
map_with_two _ es x y = null_object

abbrev pub map_method : MapMethod → List Thing → List (Cell × Value) → List Value → Outcome
map_method m heap es [] = map_alone m es
map_method m heap es (x ∷ []) = map_with m heap es x
map_method m heap es (x ∷ (y ∷ [])) = map_with_two m es x y
map_method m heap es _ = null_object
