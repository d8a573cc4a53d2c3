use Rattle.std.proofs.Common.{rules, ◌≡◌, ◌++◌, ◌∷◌, [], length, Err, sym, ap, ◌∙◌, refl, subst}
use Rattle.expression_walk.specs.Expressions.{expression, field, item, item_in, pair_in, fields_from}
use Rattle.expression_walk.specs.Views.{sight}
use Rattle.expression_walk.proofs.Steps.{goes_to, halts, one_more, one_more_of, next}
use Rattle.expression_walk.proofs.Trees.{call_comes, call_fails, call_part_comes, call_part_fails, made_comes, made_fails, query_parts}
use Rattle.type_names.specs.Walks.{Gives, Fails}
use Rattle.expression_walk.proofs.+expr.Goals as goal

pub calls::call-returns-in_err-args : goal.calls::call-returns-in_err-args
calls::call-returns-in_err-args n c =
    let e : c.from_residual-in_err-args.result ≡ Err c.in_err-args.field-0.0 = search rules in
    rw e (call_fails (sight c.args.view.now) c.args.tree.now c.args.span c.args.word.now c.args.args.now (length c.args.args.now) c.in_ok-callee.callee c.in_err-args.field-0.0 c.requires refl c.in_ok-callee.ensures c.in_err-args.ensures)

pub calls::call-returns : goal.calls::call-returns
calls::call-returns n c = call_comes (sight c.args.view.now) c.args.tree.now c.args.span c.args.word.now c.args.args.now (length c.args.args.now) c.in_ok-callee.callee c.in_ok-args.args c.in_ok-this.this c.called.result c.requires refl c.in_ok-callee.ensures c.in_ok-args.ensures c.in_ok-this.ensures c.called.ensures

pub calls::call_on-returns-in_err-args : goal.calls::call_on-returns-in_err-args
calls::call_on-returns-in_err-args n c =
    let e : c.from_residual-in_err-args.result ≡ Err c.in_err-args.field-0.0 = search rules in
    rw e (call_part_fails (sight c.args.view.now) c.args.tree.now c.args.span c.args.word.now c.args.args.now (length c.args.args.now) c.args.value c.in_ok-callee.callee c.in_err-args.field-0.0 c.requires refl c.in_ok-callee.ensures c.in_err-args.ensures)

pub calls::call_on-returns : goal.calls::call_on-returns
calls::call_on-returns n c = call_part_comes (sight c.args.view.now) c.args.tree.now c.args.span c.args.word.now c.args.args.now (length c.args.args.now) c.args.value c.in_ok-callee.callee c.in_ok-args.args c.called.result c.requires refl c.in_ok-callee.ensures c.in_ok-args.ensures c.called.ensures

pub makings::fields-loop-tree-preserved : goal.makings::fields-loop-tree-preserved
makings::fields-loop-tree-preserved n c = sym (next (fields_from c.args.object) (λ p pairs. p c.args.object pairs) (field (sight c.args.view.now)) (λ p ps pairs. refl) c.args.trees.now c.loop-tree.tree-index c.tree-item.result c.loop-tree-test.true c.tree-item.is c.loop-tree.given.pairs c.in_ok-given.given.pairs c.in_ok-given.ensures) ∙ c.loop-tree.invariant

pub makings::items-loop-tree-preserved : goal.makings::items-loop-tree-preserved
makings::items-loop-tree-preserved n c = one_more_of (item_in (sight c.args.view.now) c.args.wanted.now.kind.now) (item (sight c.args.view.now)) c.args.trees.now c.loop-tree.tree-index c.tree-item.result c.loop-tree-test.true c.tree-item.is _ c.loop-tree.items c.push.new.self c.in_ok-item.item c.loop-tree.invariant c.in_ok-item.ensures (c.in_ok-push.ensures.ok ∙ ap (λ x. c.loop-tree.items ++ x ∷ []) c.into_value.ensures)

pub makings::made-returns-in_err-args : goal.makings::made-returns-in_err-args
makings::made-returns-in_err-args n c =
    let e : c.from_residual-in_err-args.result ≡ Err c.in_err-args.field-0.0 = search rules in
    rw e (made_fails (sight c.args.view.now) c.args.at c.args.type_at c.args.kind c.args.trees.now (length c.args.trees.now) c.in_ok-maker.maker c.in_err-args.field-0.0 refl c.in_ok-maker.ensures c.in_err-args.ensures)

pub makings::made-returns : goal.makings::made-returns
makings::made-returns n c = made_comes (sight c.args.view.now) c.args.at c.args.type_at c.args.kind c.args.trees.now (length c.args.trees.now) c.in_ok-maker.maker c.in_ok-args.args c.made_with.result refl c.in_ok-maker.ensures c.in_ok-args.ensures c.made_with.ensures

pub makings::pairs-loop-tree-preserved : goal.makings::pairs-loop-tree-preserved
makings::pairs-loop-tree-preserved n c = one_more_of (pair_in (sight c.args.view.now) c.args.wanted.now.kind.now) (item (sight c.args.view.now)) c.args.trees.now c.loop-tree.tree-index c.tree-item.result c.loop-tree-test.true c.tree-item.is _ c.loop-tree.pairs c.push.new.self c.in_ok-pair.pair c.loop-tree.invariant c.in_ok-pair.ensures c.in_ok-push.ensures.ok

pub walk::values-loop-tree-preserved : goal.walk::values-loop-tree-preserved
walk::values-loop-tree-preserved n c = one_more (expression (sight c.args.view.now)) c.args.trees.now c.loop-tree.tree-index c.tree-item.result c.loop-tree-test.true c.tree-item.is _ c.loop-tree.values c.push.new.self c.in_ok-value.value c.loop-tree.invariant c.in_ok-value.ensures c.in_ok-push.ensures.ok

pub queries::query-returns-in_err-clauses : goal.queries::query-returns-in_err-clauses
queries::query-returns-in_err-clauses n c =
    let e : c.from_residual.result ≡ Err c.in_err-clauses.field-0.0 = search rules in
    rw e (subst (λ w. Fails w c.in_err-clauses.field-0.0) (sym (query_parts (sight c.args.view.now) c.args.tree.now c.args.object c.args.binds.now c.opened-so_far.result c.opened-so_far.ensures)) (halts _ _ c.in_err-clauses.field-0.0 c.in_err-clauses.ensures))

pub queries::query-returns : goal.queries::query-returns
queries::query-returns n c =
    query_parts (sight c.args.view.now) c.args.tree.now c.args.object c.args.binds.now c.opened-so_far.result c.opened-so_far.ensures
    ∙ goes_to _ _ (c.clauses.new.so_far, c.clauses.new.binds) _ c.in_ok-clauses.ensures (ap (λ q. Gives (q, c.clauses.new.binds)) (sym c.in_ok-closed_query.ensures))
