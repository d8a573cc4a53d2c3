-- The things that a trigger sees (docs/platform.md, "Triggers").
use Rattle.std.specs.Prelude.{ℕ, zero, suc, ◌+◌, not, Bool, true, false, cond, List, [], ◌∷◌, ◌++◌, length, map, slice_get, Option, None, Some}
use Rattle.apex_num.specs.declared.cell.Cell.{Cell}
use Rattle.apex_num.specs.declared.cell.Cell.TheVariants as C
use Rattle.apex_requests.specs.declared.request.Context.{Context}
use Rattle.apex_requests.specs.declared.request.Op.{Op}
use Rattle.apex_requests.specs.declared.request.Op.TheVariants as Op
use Rattle.apex_rows.specs.declared.row.Row.{Row}
use Rattle.apex_schema.specs.declared.schema.Object.{Object as TheObject}
use Rattle.apex_schema.specs.declared.schema.Schema.{Schema}
use Rattle.heap_methods.specs.Operands.{null, truth, count}
use Rattle.save_statements.specs.Phases.{row_units}
use Rattle.txn_heap.specs.Words.{with_entries}
use Rattle.txn_heap.specs.declared.thing.Guard.{Guard}
use Rattle.txn_heap.specs.declared.thing.Guard.TheVariants.{Fixed, Watched, Open}
use Rattle.txn_heap.specs.declared.thing.Record.{Record}
use Rattle.txn_heap.specs.declared.thing.Thing.{Thing}
use Rattle.txn_heap.specs.declared.thing.Thing.TheVariants as T
use Rattle.txn_heap.specs.declared.thing.Value.{Value}
use Rattle.txn_heap.specs.declared.thing.Value.TheVariants.{Plain, Object}
use Rattle.typed_program.specs.declared.expr.TriggerVariable.{TriggerVariable}
use Rattle.typed_program.specs.declared.expr.TriggerVariable.TheVariants as V

-- ---- records

-- a copy of a row, which knows all its cells
abbrev pub record_of : Row → Record
record_of row = record { object = row.object; cells = map (λ (c : Cell). Some c) row.cells; selected = None }

-- those of rows, each behind what guards it
abbrev pub records : Guard → List Row → List Thing
records guard [] = []
records guard (row ∷ rows) = T.Guard guard ∷ T.Record (record_of row) ∷ records guard rows

abbrev pub at : ℕ → Value
at place = Object (record { place = place })

-- the records of rows that begin at a place, in their order, and by their Ids
abbrev pub listed_from : ℕ → List Row → List Value
listed_from place [] = []
listed_from place (row ∷ rows) = at (suc place) ∷ listed_from (suc (suc place)) rows

abbrev pub by_id : ℕ → List Row → List (Cell × Value)
by_id place [] = []
by_id place (row ∷ rows) = (C.Id row.id, at (suc place)) ∷ by_id (suc (suc place)) rows

-- ---- which variables there are for an operation, before or after

abbrev pub is_insert : Op → Bool
is_insert Op.Insert = true
is_insert _ = false

abbrev pub is_update : Op → Bool
is_update Op.Update = true
is_update _ = false

abbrev pub is_delete : Op → Bool
is_delete Op.Delete = true
is_delete _ = false

abbrev pub has_new : Op → Bool
has_new Op.Insert = true
has_new Op.Update = true
has_new _ = false

abbrev pub has_old : Op → Bool
has_old Op.Update = true
has_old Op.Delete = true
has_old _ = false

abbrev pub has_new_map : Op → Bool → Bool
has_new_map Op.Insert before = not before
has_new_map Op.Update before = true
has_new_map _ before = false

-- ---- what may be done with the records: before the write, those of `Trigger.new` are changed and given errors; after it they are
-- given errors; so are those of `Trigger.old` in a delete

abbrev pub new_guard : Bool → Guard
new_guard true = Open None
new_guard false = Watched None

abbrev pub old_guard : Op → Guard
old_guard Op.Delete = Watched None
old_guard _ = Fixed

-- the rows of the statement
abbrev pub own_rows : Context → List Row
own_rows c = cond (has_new c.op) c.news c.olds

-- ---- all things of a firing, from a place on: the records, the lists and maps of them, which nobody may change, and behind
-- these what has the variables

abbrev pub fixed_if : Bool → Thing → List Thing
fixed_if true thing = T.Guard Fixed ∷ thing ∷ []
fixed_if false thing = []

abbrev pub at_if : Bool → ℕ → Value
at_if true place = at (suc place)
at_if false place = null

module _ (place : ℕ) (c : Context) where
  abbrev pub news : List Thing
  news = records (new_guard c.before) c.news

  abbrev pub olds : List Thing
  olds = records (old_guard c.op) c.olds

  abbrev pub old_place : ℕ
  old_place = place + length news

  abbrev pub new_list_place : ℕ
  new_list_place = old_place + length olds

  abbrev pub new_list : List Thing
  new_list = fixed_if (has_new c.op) (T.List (listed_from place c.news))

  abbrev pub old_list_place : ℕ
  old_list_place = new_list_place + length new_list

  abbrev pub old_list : List Thing
  old_list = fixed_if (has_old c.op) (T.List (listed_from old_place c.olds))

  abbrev pub new_map_place : ℕ
  new_map_place = old_list_place + length old_list

  abbrev pub new_map : List Thing
  new_map = fixed_if (has_new_map c.op c.before) (T.Map (with_entries [] (by_id place c.news)))

  abbrev pub old_map_place : ℕ
  old_map_place = new_map_place + length new_map

  abbrev pub old_map : List Thing
  old_map = fixed_if (has_old c.op) (T.Map (with_entries [] (by_id old_place c.olds)))

  abbrev pub this_place : ℕ
  this_place = old_map_place + length old_map

  -- in the order of `place_of`
  abbrev pub variables : List Value
  variables =
      at_if (has_new c.op) new_list_place
      ∷ at_if (has_old c.op) old_list_place
      ∷ at_if (has_new_map c.op c.before) new_map_place
      ∷ at_if (has_old c.op) old_map_place
      ∷ truth (is_insert c.op)
      ∷ truth (is_update c.op)
      ∷ truth (is_delete c.op)
      ∷ truth c.before
      ∷ truth (not c.before)
      ∷ count (length (own_rows c))
      ∷ []

  -- no code can name it; its variables are looked at by their places
  abbrev pub this_thing : Thing
  this_thing = T.Instance (record { class = 0; message = C.Null; fields = variables })

  abbrev pub things : List Thing
  things = news ++ (olds ++ (new_list ++ (old_list ++ (new_map ++ (old_map ++ this_thing ∷ [])))))

-- the place of a variable among the others
abbrev pub place_of : TriggerVariable → ℕ
place_of V.New = 0
place_of V.Old = 1
place_of V.NewMap = 2
place_of V.OldMap = 3
place_of V.IsInsert = 4
place_of V.IsUpdate = 5
place_of V.IsDelete = 6
place_of V.IsBefore = 7
place_of V.IsAfter = 8
place_of V.Size = 9

-- ---- allocation units: those of each row that is copied

abbrev pub object_units : Option TheObject → ℕ
object_units None = 64
object_units (Some o) = row_units o

abbrev pub units_in : Schema → List Row → ℕ
units_in schema [] = 0
units_in schema (row ∷ rows) = object_units (slice_get schema.objects row.object) + units_in schema rows

abbrev pub copy_units : Schema → Context → ℕ
copy_units schema c = units_in schema c.news + units_in schema c.olds
