use Rattle.std.proofs.Common.{rules, ◌≡◌, ◌+◌, [], ◌∷◌, ◌++◌, take, Err, subst, sym}
use Rattle.std.proofs.lemmas.List.{take_all}
use Rattle.tenant_units.proofs.Steps.{Each, unit_more, no_units, one_no_units, all_are, all_one}
use Rattle.tenant_units.proofs.trees.unit_trees.Goals as goal

pub returns-in_err-tree-clause-trees : goal.returns-in_err-tree-clause-trees
returns-in_err-tree-clause-trees c =
    let fault = c.in_err-tree.field-0.0 in
    let e : c.from_residual.result ≡ Err fault = search rules in
    rw e (no_units c.args.units.now c.units.i c.index-units-i.result c.units.trees c.units-test.true c.index-units-i.is c.units.invariant fault c.in_err-tree.ensures.tree)

pub returns-in_err-tree-clause-only : goal.returns-in_err-tree-clause-only
returns-in_err-tree-clause-only c =
    let fault = c.in_err-tree.field-0.0 in
    let e : c.from_residual.result ≡ Err fault = search rules in
    rw e (one_no_units c.args.units.now c.units.i c.index-units-i.result c.units.trees c.units-test.true c.index-units-i.is c.units.invariant fault c.in_err-tree.ensures.tree c.in_err-tree.ensures.only)

pub units-preserved : goal.units-preserved
units-preserved c =
    subst (λ l. Each (take (c.units.i + 1) c.args.units.now) l) (sym c.in_ok-push.ensures.ok)
    (subst (λ t. Each (take (c.units.i + 1) c.args.units.now) (c.units.trees ++ t ∷ [])) (sym c.into_value.ensures)
    (unit_more c.args.units.now c.units.i c.index-units-i.result c.units.trees c.units-test.true c.index-units-i.is c.units.invariant c.in_ok-tree.tree c.in_ok-tree.ensures.tree c.in_ok-tree.ensures.only))

pub returns-clause-trees : goal.returns-clause-trees
returns-clause-trees c = all_are c.args.units.now c.units.trees (subst (λ l. Each l c.units.trees) (take_all c.units.i c.args.units.now c.units-test.false) c.units.invariant)

pub returns-clause-only : goal.returns-clause-only
returns-clause-only c = all_one c.args.units.now c.units.trees (subst (λ l. Each l c.units.trees) (take_all c.units.i c.args.units.now c.units-test.false) c.units.invariant)
