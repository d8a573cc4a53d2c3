-- Cells of the records that values name.
use Rattle.std.specs.Prelude.{ℕ, List, slice_get, slice_index_or, Option, None, Some}
use Rattle.apex_meaning.specs.Places.{setting_units}
use Rattle.txn_heap.specs.declared.thing.Ref.{Ref}
use Rattle.txn_heap.specs.declared.thing.Thing.{Thing}
use Rattle.txn_heap.specs.declared.thing.Thing.TheVariants as T
use Rattle.txn_heap.specs.declared.thing.Value.{Value}
use Rattle.txn_heap.specs.declared.thing.Value.TheVariants.{Plain, Object}

abbrev pub setting_of : ℕ → Ref → Option Thing → Option (Ref × ℕ)
setting_of field r (Some (T.Record known)) = Some (r, setting_units (slice_index_or known.cells field None))
setting_of field r _ = None

-- the record and the units of a store; none where the value names no record
abbrev pub setting_at : ℕ → Value → List Thing → Option (Ref × ℕ)
setting_at field (Plain k) heap = None
setting_at field (Object r) heap = setting_of field r (slice_get heap r.place)
