use Rattle.std.proofs.Common.{◌≡◌, drop}
use Rattle.std.specs.List.{list_any}
use Rattle.class_walk.specs.Missing as spec
use Rattle.class_walk.proofs.missing.any_lacks_body.Given as goal

abbrev pub invariant-loop-method : goal.invariant-loop-method
invariant-loop-method l = list_any spec.lacks_body (drop l.method-index l.methods) ≡ list_any spec.lacks_body l.methods
