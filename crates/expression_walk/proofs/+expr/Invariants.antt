use Rattle.std.proofs.Common.{◌≡◌, [], drop, map}
use Rattle.expression_walk.specs.Expressions as spec
use Rattle.expression_walk.specs.Views.{sight}
use Rattle.type_names.specs.Walks.{Gives, onward, all}
use Rattle.typed_operations.specs.Chains.{closed}
use Rattle.type_names.proofs.WalkSteps.{behind}
use Rattle.expression_walk.proofs.+expr.Given as goal

abbrev pub invariant-walk::values-loop-tree : goal.invariant-walk::values-loop-tree
invariant-walk::values-loop-tree l =
    all (map (spec.expression (sight l.view)) l.trees) ≡ behind l.values (all (map (spec.expression (sight l.view)) (drop l.tree-index l.trees)))

abbrev pub invariant-walk::postfix-loop-one : goal.invariant-walk::postfix-loop-one
invariant-walk::postfix-loop-one l =
    spec.parts_from (map (spec.part (sight l.view)) (drop l.one-index l.parts)) l.value ≡ spec.bare (sight l.view) l.fn.tree

abbrev pub invariant-operators::chain-loop-next : goal.invariant-operators::chain-loop-next
invariant-operators::chain-loop-next l =
    onward (spec.operands_from (map (spec.operand (sight l.view)) (drop l.next-index l.operands)) l.chain) (λ chain. Gives (closed chain)) ≡ spec.bare (sight l.view) l.fn.tree

abbrev pub invariant-makings::fields-loop-tree : goal.invariant-makings::fields-loop-tree
invariant-makings::fields-loop-tree l =
    spec.fields_from l.object (map (spec.field (sight l.view)) (drop l.tree-index l.trees)) l.given.pairs ≡ spec.fields_from l.object (map (spec.field (sight l.view)) l.trees) []

abbrev pub invariant-makings::items-loop-tree : goal.invariant-makings::items-loop-tree
invariant-makings::items-loop-tree l =
    all (spec.items_in (sight l.view) l.wanted.kind.now (map (spec.item (sight l.view)) l.trees))
    ≡ behind l.items (all (spec.items_in (sight l.view) l.wanted.kind.now (map (spec.item (sight l.view)) (drop l.tree-index l.trees))))

abbrev pub invariant-makings::pairs-loop-tree : goal.invariant-makings::pairs-loop-tree
invariant-makings::pairs-loop-tree l =
    all (spec.pairs_in (sight l.view) l.wanted.kind.now (map (spec.item (sight l.view)) l.trees))
    ≡ behind l.pairs (all (spec.pairs_in (sight l.view) l.wanted.kind.now (map (spec.item (sight l.view)) (drop l.tree-index l.trees))))

abbrev pub invariant-conditions::terms-loop-tree : goal.invariant-conditions::terms-loop-tree
invariant-conditions::terms-loop-tree l =
    spec.terms_from (map (λ v. v l.to) (map (spec.value (sight l.view)) (drop l.tree-index l.trees))) l.terms l.binds
    ≡ spec.terms_from (map (λ v. v l.to) (map (spec.value (sight l.view)) l.trees)) [] l.fn.binds

abbrev pub invariant-conditions::conds-loop-tree : goal.invariant-conditions::conds-loop-tree
invariant-conditions::conds-loop-tree l =
    spec.conds_from (map (λ c. c l.object) (map (spec.condition (sight l.view)) (drop l.tree-index l.trees))) l.conds l.binds
    ≡ spec.conds_from (map (λ c. c l.object) (map (spec.condition (sight l.view)) l.trees)) [] l.fn.binds

abbrev pub invariant-queries::sels-loop-tree : goal.invariant-queries::sels-loop-tree
invariant-queries::sels-loop-tree l =
    spec.sels_from (map (spec.sel (sight l.view)) (drop l.tree-index l.trees)) l.so_far l.binds ≡ spec.sels_from (map (spec.sel (sight l.view)) l.trees) l.fn.so_far l.fn.binds
