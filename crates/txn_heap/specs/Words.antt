-- Sets as lists of their elements, and maps as lists of their entries, in order of insertion.
use Rattle.std.specs.Prelude.{Bool, List, Option}
use Rattle.std.specs.List.{list_any}
use Rattle.std.specs.Map.{lookup, remove_entry}
use Rattle.indexmap.specs.IndexMap.{insert_entry, insert_all as put_all}
use Rattle.indexmap.specs.IndexSet.{insert_key, remove_key, insert_all as add_all}
use Rattle.apex_num.specs.declared.cell.Cell.{Cell}
use Rattle.txn_heap.specs.declared.thing.Value.{Value}
use Rattle.txn_heap.specs.Equal.{same}
pub use Rattle.std.specs.Map.{keys_of, values_of}

abbrev pub has : Cell → List Cell → Bool
has k ks = list_any (same k) ks

-- behind the others, where it isn't there yet
abbrev pub with_key : List Cell → Cell → List Cell
with_key ks k = insert_key same ks k

-- one after the other
abbrev pub with_keys : List Cell → List Cell → List Cell
with_keys ks more = add_all same ks more

abbrev pub without_key : List Cell → Cell → List Cell
without_key ks k = remove_key (same k) ks

abbrev pub value_at : Cell → List (Cell × Value) → Option Value
value_at k es = lookup (same k) es

-- a key that is there keeps its place and takes the value; a new one goes behind the others
abbrev pub with_entry : List (Cell × Value) → Cell → Value → List (Cell × Value)
with_entry es k v = insert_entry same es k v

-- one after the other
abbrev pub with_entries : List (Cell × Value) → List (Cell × Value) → List (Cell × Value)
with_entries es more = put_all same es more

abbrev pub without_entry : List (Cell × Value) → Cell → List (Cell × Value)
without_entry es k = remove_entry (same k) es
