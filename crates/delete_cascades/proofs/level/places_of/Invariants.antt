use Rattle.std.proofs.Common.{◌≡◌, ℕ, List, [], ◌∷◌, Some, ltb}
use Rattle.std.specs.Prelude.{◌&&◌, slice_get}
use Rattle.apex_rows.specs.declared.row.Row.{Row}
use Rattle.save_statements.specs.Records.{named_by}
use Rattle.delete_cascades.specs.Layers.{has_place, places_in}
use Rattle.delete_cascades.proofs.level.places_of.Given as goal

abbrev pub invariant-loop-i : goal.invariant-loop-i
invariant-loop-i l =
    (id : List ℕ) (n : ℕ) (row : Row) → slice_get l.rows n ≡ Some row → has_place (places_in l.places id) n ≡ (ltb n l.i && named_by l.namings (id ∷ []) row)
