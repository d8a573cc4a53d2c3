-- What code around a save does: triggers fire (docs/platform.md, "Triggers").
use Rattle.std.specs.Prelude.{ℕ, suc, Bool, not, List, [], ◌∷◌, ◌++◌, length, map, Option, None, Some}
use Rattle.std.specs.declared.cmp.Ordering.{Ordering}
use Rattle.activations.specs.declared.abrupt.Abrupt.{Abrupt}
use Rattle.activations.specs.declared.abrupt.Abrupt.TheVariants.{Throws}
use Rattle.apex_num.specs.declared.kind.LimitKind.TheVariants.{Depth, Steps, Alloc}
use Rattle.apex_requests.specs.declared.request.Context.{Context}
use Rattle.apex_syntax.specs.declared.unit.EventOp.{EventOp}
use Rattle.apex_syntax.specs.declared.unit.EventOp.TheVariants as E
use Rattle.query_rows.specs.Orders.{sorted_in}
use Rattle.request_states.specs.Runs.{Setting}
use Rattle.request_states.specs.States.{State, Res, keeps, with_heap}
use Rattle.row_meaning.specs.Cells.{bytes_cmp}
use Rattle.save_firings.specs.Tables.{all_listed}
use Rattle.save_firings.specs.declared.table.Listing.{Listing}
use Rattle.save_meaning.specs.Results as R
use Rattle.save_meaning.specs.Results.{Gives, Stops, Leaves, Closes, bind}
use Rattle.save_meaning.specs.Transactions as Save
use Rattle.save_meaning.specs.Transactions.{left}
use Rattle.save_statements.specs.declared.firing.Fired.{Fired}
use Rattle.save_statements.specs.declared.firing.Fired.TheVariants.{Ran, Threw}
use Rattle.save_statements.specs.declared.firing.Trigger.{Trigger}
use Rattle.save_statements.specs.declared.pending.Act.{Act}
use Rattle.save_statements.specs.declared.pending.Act.TheVariants.{Inserting, Updating, Deleting}
use Rattle.save_statements.specs.Phases.{Code}
use Rattle.trigger_things.specs.Lefts.{lefts, closed}
use Rattle.trigger_things.specs.Things.{at, copy_units, own_rows, things, this_place}
use Rattle.txn_heap.specs.declared.thing.Value.{Value}
use Rattle.typed_program.specs.declared.program.Program.{Program}
use Rattle.typed_program.specs.declared.unit.TypedEvent.{TypedEvent}
use Rattle.typed_program.specs.declared.unit.TypedTrigger.{TypedTrigger}
use Rattle.apex_meaning.specs.Exceptions.{class_told, message_told}
use Rattle.apex_meaning.specs.Meanings.{Again, Trigger as TriggerBody}

-- ---- which triggers there are

abbrev pub act_of : EventOp → Act
act_of E.Insert = Inserting
act_of E.Update = Updating
act_of E.Delete = Deleting

-- a trigger with its number, at each of its events
abbrev pub listing : ℕ × TypedTrigger → TypedEvent → Listing
listing t event = record {
  object = t.1.object;
  act = act_of event.op;
  before = not event.after;
  triggers = record { name = t.1.name; number = t.0 } ∷ [];
}

abbrev pub listings_of : List (ℕ × TypedTrigger) → List Listing
listings_of [] = []
listings_of (t ∷ ts) = map (listing t) t.1.events ++ listings_of ts

abbrev pub numbered : ℕ → List TypedTrigger → List (ℕ × TypedTrigger)
numbered n [] = []
numbered n (t ∷ ts) = (n, t) ∷ numbered (suc n) ts

-- those of a program, in the order of their folded names
abbrev pub by_name : ℕ × TypedTrigger → ℕ × TypedTrigger → Ordering
by_name a b = bytes_cmp a.1.folded b.1.folded

abbrev pub listings : Program → List Listing
listings program = listings_of (sorted_in by_name (numbered 0 program.triggers))

module _ (setting : Setting) (again : Again) where
  -- ---- the firing of one

  -- it is over: its records may not be changed any more
  abbrev pub over : ℕ → ℕ → State → State
  over count place st = left keeps Depth (with_heap (closed count place st.world.heap) st)

  -- how it comes out for the save: how it left its records, and what it threw; an end that nothing sees is the end of the save
  abbrev pub comes_out : ℕ → ℕ → Res Value → R.Res State ⊥ Fired
  comes_out count place (Gives v st) = Gives (Ran (lefts count place st.world.heap)) (over count place st)
  comes_out count place (Stops (Leaves (Throws r)) st) =
      Gives (Threw (class_told setting.program r st.world.heap) (message_told r st.world.heap) (lefts count place st.world.heap)) (over count place st)
  comes_out count place (Stops (Leaves why) st) = Gives (Ran (lefts count place st.world.heap)) (over count place st)
  comes_out count place (Stops (Closes end) st) = Stops (Closes end) st

  -- its things are there: its code runs on them
  abbrev pub fires_on : ℕ → Context → ℕ → State → R.Res State ⊥ Fired
  fires_on n c place st =
      comes_out (length (own_rows c)) place (again.body (TriggerBody n) [] (at (this_place place c)) (with_heap (st.world.heap ++ things place c) st))

  -- it is open while its code runs; a step is charged for it, and the units of the rows that are copied
  abbrev pub fire : ℕ → Context → State → R.Res State ⊥ Fired
  fire n c st =
      bind (Save.charge keeps Depth 1 st) (λ u s.
      bind (Save.charge keeps Steps 1 s) (λ u1 s1.
      bind (Save.charge keeps Alloc (copy_units setting.schema c) s1) (λ u2 s2.
      fires_on n c (length s2.world.heap) s2)))

  -- ---- what a save has of the code around it; there are no roll-ups yet

  abbrev pub code_of : Code State
  code_of = record {
    triggers = λ object act before. all_listed object act before (listings setting.program);
    fire = fire;
    roll_up = λ object rs st. Gives rs st;
  }
