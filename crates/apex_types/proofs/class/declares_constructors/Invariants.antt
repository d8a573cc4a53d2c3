use Rattle.std.proofs.Common.{◌≡◌, drop}
use Rattle.std.specs.List.{list_any}
use Rattle.apex_types.specs.Units.{is_constructor}
use Rattle.apex_types.proofs.class.declares_constructors.Given as goal

abbrev pub invariant-loop-tree : goal.invariant-loop-tree
invariant-loop-tree l = list_any is_constructor (drop l.tree-index l.trees) ≡ list_any is_constructor l.trees
