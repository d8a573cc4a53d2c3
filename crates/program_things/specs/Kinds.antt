-- What things are, and what of them is asked.
use Rattle.std.specs.Prelude.{ℕ, Bool, true, List, slice_get, Option, None, Some}
use Rattle.apex_num.specs.declared.cell.Cell.{Cell}
use Rattle.apex_meaning.specs.Exceptions.{Kind, BuiltIn, Declared, Nothing, kind_of_thing, message_of_thing}
use Rattle.txn_heap.specs.declared.thing.Thing.{Thing}
use Rattle.txn_heap.specs.declared.thing.Thing.TheVariants as T
use Rattle.txn_heap.specs.declared.thing.Value.{Value}
use Rattle.txn_heap.specs.declared.thing.Value.TheVariants.{Plain, Object}
use Rattle.program_things.specs.declared.kinds.ThingKind.{ThingKind}
use Rattle.program_things.specs.declared.kinds.ThingKind.TheVariants as R

abbrev pub as_kind : ThingKind → Kind
as_kind (R.BuiltIn e) = BuiltIn e
as_kind (R.Declared k) = Declared k
as_kind R.Nothing = Nothing

abbrev pub kind_at : Value → List Thing → Kind
kind_at (Plain k) heap = Nothing
kind_at (Object r) heap = kind_of_thing (slice_get heap r.place)

abbrev pub if_known : Kind → Cell → Option Cell
if_known Nothing m = None
if_known k m = Some m

abbrev pub message_in : Option Thing → Option Cell
message_in thing = if_known (kind_of_thing thing) (message_of_thing thing)

-- the message of an exception; none where the value names none
abbrev pub message_at : Value → List Thing → Option Cell
message_at (Plain k) heap = None
message_at (Object r) heap = message_in (slice_get heap r.place)

-- what a cast lets through
abbrev pub cast_fits : (Kind → Bool) → Value → List Thing → Bool
cast_fits good (Plain k) heap = true
cast_fits good (Object r) heap = good (kind_of_thing (slice_get heap r.place))

-- an instance with another message
abbrev pub told_as : Cell → Option Thing → Option Thing
told_as m (Some (T.Instance i)) = Some (T.Instance (record i { message = m }))
told_as m _ = None
