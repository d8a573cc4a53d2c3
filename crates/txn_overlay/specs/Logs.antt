-- What stood at Ids before they were changed, and an overlay that goes back by it.
use Rattle.std.specs.Prelude.{◌≡◌, ℕ, ◌≤◌, List, [], ◌∷◌, ◌++◌, drop, map, Option, None, Some}
use Rattle.std.specs.Map.{set_value, remove_entry}
use Rattle.std.specs.BTreeMap.{is_at}
use Rattle.row_meaning.specs.Cells.{bytes_cmp}
use Rattle.row_meaning.specs.Overlays as O
use Rattle.row_meaning.specs.Overlays.{Overlay}
use Rattle.txn_overlay.specs.declared.overlay.Change.{Change}
use Rattle.txn_overlay.specs.declared.overlay.Change.TheVariants.{Now, Gone}
use Rattle.txn_overlay.specs.declared.overlay.Was.{Was}
use Rattle.txn_overlay.specs.declared.overlay.Was.TheVariants.{Held, Removed, Untouched}

-- what stood at an Id, by its change until then
abbrev pub was_by : List ℕ → Change → Was
was_by id (Now row) = Held row
was_by id Gone = Removed id

abbrev pub was_at : List ℕ → Option Change → Was
was_at id None = Untouched id
was_at id (Some c) = was_by id c

-- an Id gets back what stood there
abbrev pub put_back : Was → Overlay → Overlay
put_back (Held row) v = set_value (is_at (bytes_cmp row.id)) v (O.Now row)
put_back (Removed id) v = set_value (is_at (bytes_cmp id)) v O.Gone
put_back (Untouched id) v = remove_entry (is_at (bytes_cmp id)) v

-- so does each Id of a log, the last one first
abbrev pub all_back : List Was → Overlay → Overlay
all_back [] v = v
all_back (w ∷ ws) v = put_back w (all_back ws v)

-- the overlay as it was after so many changes of a log
abbrev pub back_to : ℕ → List Was → Overlay → Overlay
back_to n log now = all_back (drop n log) now

-- the overlay as it was at each mark
abbrev pub saved_at : List ℕ → List Was → Overlay → List Overlay
saved_at marks log now = map (λ (n : ℕ). back_to n log now) marks

-- a log has one entry more, which leads from one overlay back to another
pub record Logged (log later : List Was) (before after : Overlay) : Type 0 where
  pub was : Was
  pub added : later ≡ log ++ was ∷ []
  pub back : put_back was after ≡ before

-- marks don't rise, the innermost first, and lie within a log
abbrev pub MarksFall : ℕ → List ℕ → Type 0
MarksFall top [] = Unit {0}
MarksFall top (m ∷ ms) = (m ≤ top) × MarksFall m ms
