use Rattle.std.proofs.Common.{◌≡◌, drop, map}
use Rattle.std.specs.Prelude.{max}
use Rattle.apex_syntax.specs.Depths as spec
use Rattle.apex_syntax.proofs.nesting.names.Given as goal

abbrev pub invariant-loop-inner : goal.invariant-loop-inner
invariant-loop-inner l = max l.most (spec.most (map spec.name_depth (drop l.inner-index l.all))) ≡ spec.most (map spec.name_depth l.all)
