-- Lists, sets, maps and exceptions in code (docs/language.md, "Collections", "Exceptions").
use Rattle.std.specs.Prelude.{ℕ, ◌+◌, ◌*◌, Bool, true, false, List, [], ◌∷◌, length, map, slice_get, Option, None, Some}
use Rattle.apex_num.specs.declared.cell.Cell.{Cell}
use Rattle.apex_num.specs.declared.cell.Cell.TheVariants as C
use Rattle.apex_num.specs.declared.kind.LimitKind.TheVariants.{Alloc}
use Rattle.builtin_table.specs.declared.exception.ExceptionClass.{ExceptionClass}
use Rattle.builtin_table.specs.declared.method.Builtin.{Builtin as Which}
use Rattle.heap_methods.specs.Making.{set_of, map_of, copied}
use Rattle.heap_methods.specs.Methods.{method, units}
use Rattle.heap_methods.specs.Outcomes.{Outcome, Done, Answers, Throws, done as things_done, units_of}
use Rattle.heap_methods.specs.declared.making.Collection.{Collection}
use Rattle.heap_methods.specs.declared.making.Collection.TheVariants as Made
use Rattle.platform_errors.specs.declared.thrown.Thrown.TheVariants.{NullObject, Builtin}
use Rattle.save_meaning.specs.Results.{Gives, bind}
use Rattle.request_states.specs.States.{State, Res, charge, make, throws, with_heap}
use Rattle.txn_heap.specs.declared.thing.Thing.{Thing}
use Rattle.txn_heap.specs.declared.thing.Thing.TheVariants as T
use Rattle.txn_heap.specs.declared.thing.Value.{Value}
use Rattle.txn_heap.specs.declared.thing.Value.TheVariants.{Plain, Object}
use Rattle.typed_program.specs.declared.expr.CollectionKind.{CollectionKind}
use Rattle.typed_program.specs.declared.expr.CollectionKind.TheVariants as Kind
use Rattle.apex_meaning.specs.Meanings.{Run}

-- ---- items

-- the items of a list or a set; a null one throws
abbrev pub items_of_thing : Option Thing → Option (List Value)
items_of_thing (Some (T.List vs)) = Some vs
items_of_thing (Some (T.Set cs)) = Some (map Plain cs)
items_of_thing _ = None

abbrev pub items_of : Value → List Thing → Option (List Value)
items_of (Plain c) heap = None
items_of (Object r) heap = items_of_thing (slice_get heap r.place)

-- ---- methods

abbrev pub done : Done → Run
done (Answers v heap) st = Gives v (with_heap heap st)
done (Throws c text) st = throws (Builtin c text) st

-- a method of a collection: what it adds is charged first; a null one throws
abbrev pub on_collection : Which → Value → List Value → Run
on_collection which (Plain c) args st = throws NullObject st
on_collection which (Object r) args st =
    bind (charge Alloc (units which r.place args st.world.heap) st) (λ u s. done (method which r.place args s.world.heap) s)

-- ---- new ones

-- a thing is charged before it is made
abbrev pub make_for : ℕ → Thing → Run
make_for n thing st = bind (charge Alloc n st) (λ u s. make thing s)

-- of these items: a list has each of them, and a set each once
abbrev pub make_filled : CollectionKind → List Value → Run
make_filled Kind.List vs st = make_for (32 + 16 * length vs) (T.List vs) st
make_filled (Kind.Set p) vs st = make_for (32 + 16 * length (set_of vs)) (T.Set (set_of vs)) st
make_filled (Kind.Map p) vs st = make_for 32 (T.Map []) st

-- of these keys and values
abbrev pub make_map : List (Value × Value) → Run
make_map ps st = make_for (32 + 32 * length (map_of ps)) (T.Map (map_of ps)) st

abbrev pub collection : CollectionKind → Collection
collection Kind.List = Made.List
collection (Kind.Set p) = Made.Set
collection (Kind.Map p) = Made.Map

-- out of another one; a null one throws
abbrev pub make_outcome : Outcome → Run
make_outcome o st = bind (charge Alloc (units_of None o) st) (λ u s. done (things_done 0 s.world.heap o) s)

abbrev pub make_copy : CollectionKind → Value → Run
make_copy kind v st = make_outcome (copied (collection kind) v st.world.heap) st

-- an exception of a built-in class, with a message or without
abbrev pub message_among : List Value → Cell
message_among (Plain m ∷ vs) = m
message_among _ = C.Null

abbrev pub make_exception : ExceptionClass → List Value → Run
make_exception c vs st = make_for 32 (T.Exception (record { class = c; message = message_among vs })) st
