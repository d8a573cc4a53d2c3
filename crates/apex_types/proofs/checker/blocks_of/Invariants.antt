use Rattle.std.proofs.Common.{◌≡◌, map, take}
use Rattle.apex_types.specs.Homes.{home}
use Rattle.apex_types.specs.Checks.{block_of}
use Rattle.apex_types.proofs.checker.blocks_of.Given as goal

abbrev pub invariant-loop-tree : goal.invariant-loop-tree
invariant-loop-tree l = l.all ≡ map (block_of (home l.home)) (take l.tree-index l.trees)
