-- What a change makes of a thing, and of the things.
use Rattle.std.specs.Prelude.{ℕ, zero, suc, List, [], ◌∷◌, ◌++◌, slice_set, insert, remove, Some}
use Rattle.apex_num.specs.declared.cell.Cell.{Cell}
use Rattle.txn_heap.specs.declared.change.Change.{Change}
use Rattle.txn_heap.specs.declared.change.Change.TheVariants as Now
use Rattle.txn_heap.specs.declared.thing.Instance.{Instance}
use Rattle.txn_heap.specs.declared.thing.Record.{Record}
use Rattle.txn_heap.specs.declared.thing.Thing.{Thing}
use Rattle.txn_heap.specs.declared.thing.Thing.TheVariants as T
use Rattle.txn_heap.specs.declared.thing.Value.{Value}
use Rattle.txn_heap.specs.Words.{with_key, with_keys, without_key, with_entry, with_entries, without_entry}

abbrev pub list_after : Change → List Value → List Value
list_after (Now.Push v) xs = xs ++ v ∷ []
list_after (Now.Insert n v) xs = insert xs n v
list_after (Now.Set n v) xs = slice_set xs n v
list_after (Now.RemoveAt n) xs = remove xs n
list_after (Now.Append ys) xs = xs ++ ys
list_after _ xs = xs

abbrev pub set_after : Change → List Cell → List Cell
set_after (Now.Add k) ks = with_key ks k
set_after (Now.AddAll more) ks = with_keys ks more
set_after (Now.RemoveKey k) ks = without_key ks k
set_after _ ks = ks

abbrev pub map_after : Change → List (Cell × Value) → List (Cell × Value)
map_after (Now.Put k v) es = with_entry es k v
map_after (Now.PutAll more) es = with_entries es more
map_after (Now.RemoveKey k) es = without_entry es k
map_after _ es = es

abbrev pub instance_after : Change → Instance → Instance
instance_after (Now.Set n v) o = record o { fields = slice_set o.fields n v }
instance_after _ o = o

abbrev pub record_after : Change → Record → Record
record_after (Now.Know n c) r = record r { cells = slice_set r.cells n (Some c) }
record_after _ r = r

abbrev pub thing_after : Change → Thing → Thing
thing_after c (T.Record r) = T.Record (record_after c r)
thing_after c (T.Instance o) = T.Instance (instance_after c o)
thing_after c (T.List xs) = T.List (list_after c xs)
thing_after c (T.Set ks) = T.Set (set_after c ks)
thing_after c (T.Map es) = T.Map (map_after c es)
thing_after c (T.Exception e) = T.Exception e
thing_after c (T.Guard g) = T.Guard g

-- the things, where one of them changes
abbrev pub changed : ℕ → (Thing → Thing) → List Thing → List Thing
changed n f [] = []
changed zero f (t ∷ ts) = f t ∷ ts
changed (suc n) f (t ∷ ts) = t ∷ changed n f ts
