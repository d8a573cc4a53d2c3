use Rattle.std.proofs.Common.{◌≡◌, drop, map}
use Rattle.std.specs.Prelude.{max}
use Rattle.apex_syntax.specs.Depths as spec
use Rattle.apex_syntax.proofs.nesting.+exprs.Given as goal

abbrev pub invariant-exprs-loop-inner : goal.invariant-exprs-loop-inner
invariant-exprs-loop-inner l = max l.most (spec.most (map spec.expr_depth (drop l.inner-index l.all))) ≡ spec.most (map spec.expr_depth l.all)

abbrev pub invariant-fields-loop-inner : goal.invariant-fields-loop-inner
invariant-fields-loop-inner l = max l.most (spec.most (map spec.field_depth (drop l.inner-index l.all))) ≡ spec.most (map spec.field_depth l.all)

abbrev pub invariant-items-loop-inner : goal.invariant-items-loop-inner
invariant-items-loop-inner l = max l.most (spec.most (map spec.item_depth (drop l.inner-index l.all))) ≡ spec.most (map spec.item_depth l.all)

abbrev pub invariant-parts-loop-inner : goal.invariant-parts-loop-inner
invariant-parts-loop-inner l = max l.most (spec.most (map spec.part_depth (drop l.inner-index l.all))) ≡ spec.most (map spec.part_depth l.all)

abbrev pub invariant-rights-loop-inner : goal.invariant-rights-loop-inner
invariant-rights-loop-inner l = max l.most (spec.most (map spec.operand_depth (drop l.inner-index l.all))) ≡ spec.most (map spec.operand_depth l.all)

abbrev pub invariant-sels-loop-inner : goal.invariant-sels-loop-inner
invariant-sels-loop-inner l = max l.most (spec.most (map spec.sel_depth (drop l.inner-index l.all))) ≡ spec.most (map spec.sel_depth l.all)

abbrev pub invariant-conds-loop-inner : goal.invariant-conds-loop-inner
invariant-conds-loop-inner l = max l.most (spec.most (map spec.cond_depth (drop l.inner-index l.all))) ≡ spec.most (map spec.cond_depth l.all)

abbrev pub invariant-values-loop-inner : goal.invariant-values-loop-inner
invariant-values-loop-inner l = max l.most (spec.most (map spec.value_depth (drop l.inner-index l.all))) ≡ spec.most (map spec.value_depth l.all)
