-- An overlay, and what it was where each statement began that is going on (docs/platform.md, "Overlays").
use Rattle.std.specs.Prelude.{List, [], ◌∷◌, drop}
use Rattle.row_meaning.specs.Overlays.{Overlay}

-- the innermost statement first
pub record Layers : Type 0 where
  pub now : Overlay
  pub saved : List Overlay

abbrev pub saved_again : Layers → Layers
saved_again j = record j { saved = j.now ∷ j.saved }

-- a statement ends, and what it changed stays
abbrev pub kept : Layers → Layers
kept j = record j { saved = drop 1 j.saved }

-- a statement ends, and the overlay is what it was
abbrev pub undone_to : Layers → List Overlay → Layers
undone_to j [] = j
undone_to j (v ∷ vs) = record { now = v; saved = vs }

abbrev pub undone : Layers → Layers
undone j = undone_to j j.saved
