use Rattle.std.proofs.Common.{◌≡◌, drop, map}
use Rattle.type_names.specs.TypeTrees.{known, placed_of}
use Rattle.type_names.specs.Walks.{all}
use Rattle.type_names.proofs.WalkSteps.{behind}
use Rattle.type_names.proofs.names.+types.Given as goal

abbrev pub invariant-args_of-loop-tree : goal.invariant-args_of-loop-tree
invariant-args_of-loop-tree l =
    all (map (placed_of (known l.names)) l.trees) ≡ behind l.done (all (map (placed_of (known l.names)) (drop l.tree-index l.trees)))
