-- Which triggers there are (docs/platform.md, "Saves").
use Rattle.std.specs.Prelude.{◌≡◌, ℕ, eqb, ◌&&◌, Bool, true, false, cond, List, [], ◌∷◌, ◌++◌, slice_get, Option, None, Some}
use Rattle.save_statements.specs.declared.pending.Act.{Act}
use Rattle.save_statements.specs.declared.pending.Act.TheVariants.{Inserting, Updating, Deleting}
use Rattle.save_statements.specs.declared.firing.Trigger.{Trigger}
use Rattle.save_firings.specs.declared.table.Listing.{Listing}
use Rattle.save_firings.specs.declared.table.TriggerTable.{TriggerTable}

abbrev pub same_act : Act → Act → Bool
same_act Inserting Inserting = true
same_act Updating Updating = true
same_act Deleting Deleting = true
same_act _ _ = false

abbrev pub same_side : Bool → Bool → Bool
same_side true true = true
same_side false false = true
same_side _ _ = false

-- the triggers of a listing, where it is for this event of this object
abbrev pub listed_by : ℕ → Act → Bool → Listing → List Trigger
listed_by object act before l = cond (same_act l.act act && same_side l.before before) (cond (eqb l.object object) l.triggers []) []

-- those of all listings, in their order
abbrev pub all_listed : ℕ → Act → Bool → List Listing → List Trigger
all_listed object act before [] = []
all_listed object act before (l ∷ ls) = listed_by object act before l ++ all_listed object act before ls

-- which triggers fire, by these listings
abbrev pub fires : List Listing → ℕ → Act → Bool → List Trigger
fires ls object act before = all_listed object act before ls

-- ---- as a table has them

abbrev pub or_no_triggers : Option (List Trigger) → List Trigger
or_no_triggers None = []
or_no_triggers (Some ts) = ts

abbrev pub listed_at : List (List Trigger) → ℕ → List Trigger
listed_at lists object = or_no_triggers (slice_get lists object)

abbrev pub lists : TriggerTable → Act → Bool → List (List Trigger)
lists table Inserting before = cond before table.before_insert table.after_insert
lists table Updating before = cond before table.before_update table.after_update
lists table Deleting before = cond before table.before_delete table.after_delete

-- the triggers of an object for an act, before or behind the write, in the order in which they fire
abbrev pub listed : TriggerTable → ℕ → Act → Bool → List Trigger
listed table object act before = listed_at (lists table act before) object

-- a table has the triggers of these listings
abbrev pub IsTableOf : TriggerTable → List Listing → Type 0
IsTableOf table ls = (object : ℕ) (act : Act) (before : Bool) → listed table object act before ≡ all_listed object act before ls
