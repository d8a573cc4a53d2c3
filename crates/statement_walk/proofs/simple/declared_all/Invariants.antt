use Rattle.std.proofs.Common.{◌≡◌, [], drop}
use Rattle.statement_walk.specs.Scenes.{scene}
use Rattle.statement_walk.specs.Simples as spec
use Rattle.statement_walk.proofs.simple.declared_all.Given as goal

abbrev pub invariant-loop-tree : goal.invariant-loop-tree
invariant-loop-tree l =
    spec.declared_from (scene l.view) l.kind (drop l.tree-index l.trees) l.locals l.scope
    ≡ spec.declared_from (scene l.view) l.kind l.trees [] l.fn.scope
