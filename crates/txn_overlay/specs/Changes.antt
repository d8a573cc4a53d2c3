-- The changes of a transaction as a table has them, and what they come to (docs/platform.md, "Overlays").
use Rattle.std.specs.Prelude.{◌≡◌, ℕ, ◌++◌, not, cond, bytes_eq, List, [], ◌∷◌, filter, Option, None, Some}
use Rattle.std.specs.List.Sorted.{IsStrictlySortedBy}
use Rattle.std.specs.Map.{keys_of}
use Rattle.std.specs.declared.cmp.Ordering.{Ordering}
use Rattle.std.specs.declared.cmp.Ordering.TheVariants.{Less, Equal, Greater}
use Rattle.apex_rows.specs.declared.row.Writes.{Writes}
use Rattle.row_meaning.specs.Cells.{bytes_cmp}
use Rattle.row_meaning.specs.Overlays as O
use Rattle.row_meaning.specs.Overlays.{Overlay, overlay_rows}
use Rattle.record_ids.specs.Ids.{is_minted_by}
use Rattle.txn_overlay.specs.declared.overlay.Change.{Change}
use Rattle.txn_overlay.specs.declared.overlay.Change.TheVariants.{Now, Gone}

abbrev pub shown : Change → O.Change
shown (Now row) = O.Now row
shown Gone = O.Gone

abbrev pub plain : List (List ℕ × Change) → Overlay
plain [] = []
plain (e ∷ es) = (e.0, shown e.1) ∷ plain es

-- the Id of a row that is written is the one under which it stands
abbrev pub KeyFits : List ℕ → Change → Type 0
KeyFits id (Now row) = row.id ≡ id
KeyFits id Gone = Unit {0}

abbrev pub AllFit : List (List ℕ × Change) → Type 0
AllFit [] = Unit {0}
AllFit (e ∷ es) = KeyFits e.0 e.1 × AllFit es

-- the Ids rise
pub record IsKeyed (es : List (List ℕ × Change)) : Type 0 where
  pub fit : AllFit es
  pub rising : IsStrictlySortedBy bytes_cmp (keys_of es)

-- with a change of an Id, in the order of the Ids, in place of an earlier one
abbrev pub changed_by : Ordering → List ℕ → O.Change → (List ℕ × O.Change) → Overlay → Overlay → Overlay
changed_by Less id c e es more = (id, c) ∷ e ∷ es
changed_by Equal id c e es more = (e.0, c) ∷ es
changed_by Greater id c e es more = e ∷ more

abbrev pub changed : List ℕ → O.Change → Overlay → Overlay
changed id c [] = (id, c) ∷ []
changed id c (e ∷ es) = changed_by (bytes_cmp id e.0) id c e es (changed id c es)

-- the change of an Id, where it has one
abbrev pub found_in : Overlay → List ℕ → Option O.Change
found_in [] id = None
found_in (e ∷ es) id = cond (bytes_eq e.0 id) (Some e.1) (found_in es id)

-- the Ids that are gone
abbrev pub gone_in : List ℕ → O.Change → List (List ℕ)
gone_in id (O.Now row) = []
gone_in id O.Gone = id ∷ []

abbrev pub gone_ids : Overlay → List (List ℕ)
gone_ids [] = []
gone_ids (e ∷ es) = gone_in e.0 e.1 ++ gone_ids es

-- what a transaction of this session and request writes: its rows, and the removed Ids that it didn't make
abbrev pub writes_of : ℕ → ℕ → Overlay → Writes
writes_of session request overlay = record {
  puts = overlay_rows overlay;
  drops = filter (λ (id : List ℕ). not (is_minted_by session request id)) (gone_ids overlay);
}
