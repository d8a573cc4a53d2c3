use Rattle.std.proofs.Common.{◌≡◌, take}
use Rattle.delete_cascades.specs.Layers.{is_under, marked}
use Rattle.delete_cascades.proofs.level.found_under.Given as goal

abbrev pub invariant-loop-id : goal.invariant-loop-id
invariant-loop-id l =
    l.found.entries ≡ marked (is_under l.places (take l.id-index l.ids)) 0 l.rows
