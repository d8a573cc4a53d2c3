-- What a transaction has changed and not yet committed (docs/platform.md, "Overlays").
use Rattle.std.specs.Prelude.{ℕ, ◌&&◌, not, eqb, nat_lt, cond, List, [], ◌∷◌, ◌++◌, filter, Option, None, Some}
use Rattle.apex_rows.specs.declared.row.Row.{Row}
use Rattle.row_meaning.specs.Stores.{put_all, without, of_object}

-- a row, or that the Id has none any more
pub data Change : Type 0 where
  Now : Row → Change
  Gone : Change

-- the changes of a transaction, by Id; an Id stands here once
abbrev pub Overlay : Type 0
Overlay = List (List ℕ × Change)

abbrev pub touched_ids : Overlay → List (List ℕ)
touched_ids [] = []
touched_ids (e ∷ es) = e.0 ∷ touched_ids es

abbrev pub row_of : Change → List Row
row_of (Now row) = row ∷ []
row_of Gone = []

abbrev pub overlay_rows : Overlay → List Row
overlay_rows [] = []
overlay_rows (e ∷ es) = row_of e.1 ++ overlay_rows es

-- the rows of an object that a transaction sees, where a store answered these: those that it didn't touch, and its own
abbrev pub merged : Overlay → ℕ → List Row → List Row
merged overlay object rows = put_all (of_object object (overlay_rows overlay)) (without (touched_ids overlay) rows)

-- the whole store as a transaction sees it
abbrev pub over : List Row → Overlay → List Row
over rows overlay = put_all (overlay_rows overlay) (without (touched_ids overlay) rows)

-- ---- savepoints

-- a savepoint: its number, the overlay of its moment, and the firing that set it
pub record Mark : Type 0 where
  pub number : ℕ
  pub overlay : Overlay
  pub firing : ℕ

-- the savepoint of a number that a firing may go back to
abbrev pub mark_of : List Mark → ℕ → ℕ → Option Mark
mark_of [] number firing = None
mark_of (m ∷ ms) number firing = cond (eqb m.number number && eqb m.firing firing) (Some m) (mark_of ms number firing)

-- the savepoints that are left after a rollback to one of this number
abbrev pub left_after : ℕ → List Mark → List Mark
left_after number marks = filter (λ (m : Mark). not (nat_lt number m.number)) marks
