use Rattle.std.proofs.Common.{◌≡◌, drop, map}
use Rattle.std.specs.Prelude.{max}
use Rattle.apex_syntax.specs.Depths as spec
use Rattle.apex_syntax.proofs.nesting.+types.Given as goal

abbrev pub invariant-types-loop-inner : goal.invariant-types-loop-inner
invariant-types-loop-inner l = max l.most (spec.most (map spec.type_depth (drop l.inner-index l.all))) ≡ spec.most (map spec.type_depth l.all)
