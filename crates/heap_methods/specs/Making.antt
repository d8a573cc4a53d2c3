-- Collections that are made of items, and out of other collections.
use Rattle.std.specs.Prelude.{List, [], ◌∷◌, map, slice_get, Option, None, Some}
use Rattle.apex_num.specs.declared.cell.Cell.{Cell}
use Rattle.apex_num.specs.declared.cell.Cell.TheVariants as C
use Rattle.txn_heap.specs.declared.thing.Thing.{Thing}
use Rattle.txn_heap.specs.declared.thing.Thing.TheVariants as T
use Rattle.txn_heap.specs.declared.thing.Value.{Value}
use Rattle.txn_heap.specs.declared.thing.Value.TheVariants.{Plain}
use Rattle.txn_heap.specs.Words.{with_keys, with_entries}
use Rattle.heap_methods.specs.declared.making.Collection.{Collection}
use Rattle.heap_methods.specs.declared.making.Collection.TheVariants as K
use Rattle.heap_methods.specs.Operands.{key_of, thing_at}
use Rattle.heap_methods.specs.Outcomes.{Outcome, Makes, null_object}

-- ---- of items

abbrev pub set_of : List Value → List Cell
set_of xs = with_keys [] (map key_of xs)

abbrev pub pair_of : Value × Value → Cell × Value
pair_of p = (key_of p.0, p.1)

abbrev pub map_of : List (Value × Value) → List (Cell × Value)
map_of pairs = with_entries [] (map pair_of pairs)

-- ---- the records of a list by their Ids

-- a record's first cell is its Id
abbrev pub id_in : Option (Option Cell) → Option Cell
id_in (Some (Some (C.Id id))) = Some (C.Id id)
id_in _ = None

abbrev pub id_of : Option Thing → Option Cell
id_of (Some (T.Record r)) = id_in (slice_get r.cells 0)
id_of _ = None

abbrev pub and_entry : Option Cell → Value → Option (List (Cell × Value)) → Option (List (Cell × Value))
and_entry (Some id) x (Some es) = Some ((id, x) ∷ es)
and_entry _ x _ = None

-- none where a record is null or has no Id
abbrev pub entries_by_id : List Thing → List Value → Option (List (Cell × Value))
entries_by_id heap [] = Some []
entries_by_id heap (x ∷ xs) = and_entry (id_of (thing_at heap x)) x (entries_by_id heap xs)

abbrev pub map_by : Option (List (Cell × Value)) → Outcome
map_by None = null_object
map_by (Some es) = Makes (T.Map (with_entries [] es))

-- ---- out of another collection: a list or a set out of either, a map out of a map, or out of records by their Ids

abbrev pub list_out_of : Option Thing → Outcome
list_out_of (Some (T.List xs)) = Makes (T.List xs)
list_out_of (Some (T.Set ks)) = Makes (T.List (map Plain ks))
list_out_of _ = null_object

abbrev pub set_out_of : Option Thing → Outcome
set_out_of (Some (T.List xs)) = Makes (T.Set (set_of xs))
set_out_of (Some (T.Set ks)) = Makes (T.Set ks)
set_out_of _ = null_object

abbrev pub map_out_of : List Thing → Option Thing → Outcome
map_out_of heap (Some (T.Map es)) = Makes (T.Map es)
map_out_of heap (Some (T.List xs)) = map_by (entries_by_id heap xs)
map_out_of heap _ = null_object

abbrev pub copied : Collection → Value → List Thing → Outcome
copied K.List x heap = list_out_of (thing_at heap x)
copied K.Set x heap = set_out_of (thing_at heap x)
copied K.Map x heap = map_out_of heap (thing_at heap x)
