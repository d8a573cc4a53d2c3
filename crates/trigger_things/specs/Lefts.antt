-- How a trigger leaves its records (docs/platform.md, "Triggers").
use Rattle.std.specs.Prelude.{ℕ, zero, suc, List, [], ◌∷◌, map, slice_get, Option, None, Some}
use Rattle.apex_num.specs.declared.cell.Cell.{Cell}
use Rattle.apex_num.specs.declared.cell.Cell.TheVariants as C
use Rattle.apex_rows.specs.declared.row.Row.{Row}
use Rattle.save_meaning.specs.Drafts.{no_id}
use Rattle.save_statements.specs.declared.firing.Left.{Left}
use Rattle.txn_heap.specs.Changes.{changed}
use Rattle.txn_heap.specs.Guards.{error_of, guard_in}
use Rattle.txn_heap.specs.declared.thing.Guard.TheVariants.{Fixed}
use Rattle.txn_heap.specs.declared.thing.Thing.{Thing}
use Rattle.txn_heap.specs.declared.thing.Thing.TheVariants as T

-- a cell as it was left; a record of a trigger knows all of them
abbrev pub cell_left : Option Cell → Cell
cell_left None = C.Null
cell_left (Some c) = c

-- the cells of a record; the Id is the save's to know, and not the trigger's
abbrev pub row_of : Option Thing → Row
row_of (Some (T.Record r)) = record { object = r.object; id = no_id; cells = map cell_left r.cells }
row_of _ = record { object = 0; id = no_id; cells = [] }

-- the record behind a place, and the message of the first error that what guards it there has
abbrev pub left_at : List Thing → ℕ → Left
left_at heap place = record { row = row_of (slice_get heap (suc place)); message = error_of (guard_in (slice_get heap place)) }

-- so many records that begin at a place
abbrev pub lefts : ℕ → ℕ → List Thing → List Left
lefts zero place heap = []
lefts (suc n) place heap = left_at heap place ∷ lefts n (suc (suc place)) heap

-- behind the firing nothing may be done with them any more
abbrev pub closed : ℕ → ℕ → List Thing → List Thing
closed zero place heap = heap
closed (suc n) place heap = closed n (suc (suc place)) (changed place (λ _. T.Guard Fixed) heap)
