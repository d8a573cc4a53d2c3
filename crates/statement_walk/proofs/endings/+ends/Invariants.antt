use Rattle.std.proofs.Common.{◌≡◌, false, drop, map, ◌&&◌}
use Rattle.statement_walk.specs.Endings as spec
use Rattle.statement_walk.proofs.endings.+ends.Given as goal

abbrev pub invariant-last-loop-tree : goal.invariant-last-loop-tree
invariant-last-loop-tree l = spec.last_ends l.sure (map spec.ending (drop l.tree-index l.trees)) ≡ spec.last_ends false (map spec.ending l.trees)

abbrev pub invariant-catches_end-loop-tree : goal.invariant-catches_end-loop-tree
invariant-catches_end-loop-tree l = (l.sure && spec.all_end (map spec.catch_ends (drop l.tree-index l.trees))) ≡ spec.all_end (map spec.catch_ends l.trees)
