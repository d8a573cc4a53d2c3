use Rattle.std.proofs.Common.{rules, ◌≡◌, Err}
use Rattle.statement_walk.specs.Scenes.{scene}
use Rattle.statement_walk.proofs.Steps.{local_halts}
use Rattle.statement_walk.proofs.simple.declared_all.Goals as goal

pub returns-in_err-local : goal.returns-in_err-local
returns-in_err-local c =
    let e : c.from_residual.result ≡ Err c.in_err-local.field-0.0 = search rules in
    rw e (local_halts (scene c.args.view.now) c.args.kind.now c.args.trees.now c.loop-tree.tree-index c.tree-item.result c.loop-tree-test.true c.tree-item.is c.loop-tree.locals c.loop-tree.scope c.in_err-local.field-0.0 _ c.in_err-local.ensures c.loop-tree.invariant)
