use Rattle.std.proofs.Common.{◌≡◌, drop, map}
use Rattle.std.specs.Prelude.{max}
use Rattle.apex_syntax.specs.Depths as spec
use Rattle.apex_syntax.proofs.nesting.+stmts.Given as goal

abbrev pub invariant-stmts-loop-inner : goal.invariant-stmts-loop-inner
invariant-stmts-loop-inner l = max l.most (spec.all_nests (map spec.stmt_nest (drop l.inner-index l.all))) ≡ spec.all_nests (map spec.stmt_nest l.all)

abbrev pub invariant-catches-loop-inner : goal.invariant-catches-loop-inner
invariant-catches-loop-inner l = max l.most (spec.most (map spec.catch_depth (drop l.inner-index l.all))) ≡ spec.most (map spec.catch_depth l.all)
