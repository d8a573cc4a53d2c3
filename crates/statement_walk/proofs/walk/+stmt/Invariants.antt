use Rattle.std.proofs.Common.{◌≡◌, [], drop, map}
use Rattle.statement_walk.specs.Scenes.{scene}
use Rattle.statement_walk.specs.Statements as spec
use Rattle.statement_walk.proofs.walk.+stmt.Given as goal

abbrev pub invariant-stmts-loop-tree : goal.invariant-stmts-loop-tree
invariant-stmts-loop-tree l =
    spec.stmts_from (map (spec.statement (scene l.view)) (drop l.tree-index l.trees)) l.in_loop l.done l.scope
    ≡ spec.stmts_from (map (spec.statement (scene l.view)) l.trees) l.in_loop [] l.fn.scope

abbrev pub invariant-catches-loop-tree : goal.invariant-catches-loop-tree
invariant-catches-loop-tree l =
    spec.catches_from (map (spec.catching (scene l.view)) (drop l.tree-index l.trees)) l.in_loop l.done l.scope
    ≡ spec.catches_from (map (spec.catching (scene l.view)) l.trees) l.in_loop [] l.fn.scope
