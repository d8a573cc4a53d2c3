use Rattle.std.proofs.Common.{◌≡◌, ℕ, List, [], ◌∷◌, take}
use Rattle.std.specs.Prelude.{◌||◌, ◌&&◌, eqb}
use Rattle.save_statements.specs.Records.{named_by}
use Rattle.delete_cascades.specs.Layers.{has_place, places_in}
use Rattle.delete_cascades.proofs.level.add_row.Given as goal

abbrev pub invariant-loop-naming : goal.invariant-loop-naming
invariant-loop-naming l =
    (id : List ℕ) (n : ℕ) → has_place (places_in l.places id) n ≡ (has_place (places_in l.initial.places id) n || (eqb l.place n && named_by (take l.naming-index l.namings) (id ∷ []) l.row))
