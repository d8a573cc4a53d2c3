use Rattle.std.proofs.Common.{◌≡◌, ◌++◌, ◌∷◌, [], drop}
use Rattle.delete_cascades.specs.Layers.{all_below}
use Rattle.delete_cascades.proofs.level.all_below.Given as goal

abbrev pub invariant-loop-level : goal.invariant-loop-level
invariant-loop-level l =
    l.under ++ all_below (drop l.level-index l.levels) l.last ≡ all_below l.levels (l.fn.id ∷ [])
