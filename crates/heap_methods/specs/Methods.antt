-- A call of a method of a collection, and what is charged before it.
use Rattle.std.specs.Prelude.{ℕ, ◌&&◌, not, Bool, true, false, List, slice_get, Option, Some}
use Rattle.builtin_table.specs.declared.method.Builtin.{Builtin}
use Rattle.builtin_table.specs.declared.method.Builtin.TheVariants as B
use Rattle.builtin_table.specs.declared.exception.ExceptionClass.TheVariants as Class
use Rattle.builtin_table.specs.declared.method.ListMethod.{ListMethod}
use Rattle.builtin_table.specs.declared.method.ListMethod.TheVariants as L
use Rattle.builtin_table.specs.declared.method.MapMethod.{MapMethod}
use Rattle.builtin_table.specs.declared.method.MapMethod.TheVariants as M
use Rattle.builtin_table.specs.declared.method.SetMethod.{SetMethod}
use Rattle.txn_heap.specs.Guards.{guard_of, takes_change}
use Rattle.txn_heap.specs.declared.thing.Guard.{Guard}
use Rattle.txn_heap.specs.declared.thing.Thing.{Thing}
use Rattle.txn_heap.specs.declared.thing.Thing.TheVariants as T
use Rattle.txn_heap.specs.declared.thing.Value.{Value}
use Rattle.heap_methods.specs.Lists.{list_method, join}
use Rattle.heap_methods.specs.Maps.{map_method}
use Rattle.heap_methods.specs.Outcomes.{Outcome, Done, Fails, done, units_of, null_object, read_only}
use Rattle.heap_methods.specs.Sets.{set_method}

abbrev pub on_list : ListMethod → List Thing → Option Thing → List Value → Outcome
on_list m heap (Some (T.List xs)) args = list_method m heap xs args
on_list m heap _ args = null_object

abbrev pub on_set : SetMethod → List Thing → Option Thing → List Value → Outcome
on_set m heap (Some (T.Set ks)) args = set_method m heap ks args
on_set m heap _ args = null_object

abbrev pub on_map : MapMethod → List Thing → Option Thing → List Value → Outcome
on_map m heap (Some (T.Map es)) args = map_method m heap es args
on_map m heap _ args = null_object

abbrev pub on_join : Option Thing → List Value → Outcome
on_join (Some (T.List xs)) args = join xs args
on_join _ args = null_object

abbrev pub on_thing : Builtin → List Thing → Option Thing → List Value → Outcome
on_thing (B.List m) heap thing args = on_list m heap thing args
on_thing (B.Set m) heap thing args = on_set m heap thing args
on_thing (B.Map m) heap thing args = on_map m heap thing args
on_thing B.Join heap thing args = on_join thing args
on_thing _ heap thing args = null_object

-- ---- what may not be changed

-- these change their list or map, even where it comes out the same
abbrev pub list_changes : ListMethod → Bool
list_changes L.Add = true
list_changes L.Insert = true
list_changes L.AddAll = true
list_changes L.Set = true
list_changes L.Remove = true
list_changes L.Clear = true
list_changes L.Sort = true
list_changes _ = false

abbrev pub map_changes : MapMethod → Bool
map_changes M.Put = true
map_changes M.PutAll = true
map_changes M.Remove = true
map_changes M.Clear = true
map_changes _ = false

abbrev pub changes : Builtin → Bool
changes (B.List m) = list_changes m
changes (B.Map m) = map_changes m
changes _ = false

-- in the place of a change; what is thrown for a null comes before
abbrev pub unchanging : Outcome → Outcome
unchanging (Fails Class.NullPointer message) = Fails Class.NullPointer message
unchanging o = read_only

abbrev pub if_stays : Bool → Outcome → Outcome
if_stays true o = unchanging o
if_stays false o = o

-- the thing at the place may not be changed, and the method would change it
abbrev pub stays : Builtin → Option Guard → Bool
stays which guard = changes which && not (takes_change guard)

-- on the thing at the place; `String.join` is called on its list
abbrev pub outcome : Builtin → ℕ → List Value → List Thing → Outcome
outcome which place args heap = if_stays (stays which (guard_of heap place)) (on_thing which heap (slice_get heap place) args)

abbrev pub method : Builtin → ℕ → List Value → List Thing → Done
method which place args heap = done place heap (outcome which place args heap)

abbrev pub units : Builtin → ℕ → List Value → List Thing → ℕ
units which place args heap = units_of (slice_get heap place) (outcome which place args heap)
