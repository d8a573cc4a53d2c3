use Rattle.std.proofs.Common.{◌≡◌, ◌++◌}
use Rattle.delete_cascades.specs.Layers.{layers_of}
use Rattle.delete_cascades.proofs.level.levels_of.Given as goal

abbrev pub invariant-loop-rows : goal.invariant-loop-rows
invariant-loop-rows l =
    l.all ++ layers_of l.namings l.rows-iterator.rest.items ≡ layers_of l.namings l.fn.levels
