use Rattle.std.proofs.Common.{◌≡◌, map, take}
use Rattle.apex_types.specs.Units.{event_of}
use Rattle.apex_types.proofs.units.events_of.Given as goal

abbrev pub invariant-loop-tree : goal.invariant-loop-tree
invariant-loop-tree l = l.all ≡ map event_of (take l.tree-index l.trees)
