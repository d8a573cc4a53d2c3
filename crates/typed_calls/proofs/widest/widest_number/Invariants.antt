use Rattle.std.proofs.Common.{◌≡◌, drop}
use Rattle.typed_calls.specs.Widths.{widest_from}
use Rattle.typed_program.specs.declared.expr.Number.TheVariants as N
use Rattle.typed_calls.proofs.widest.widest_number.Given as goal

abbrev pub invariant-loop-arg : goal.invariant-loop-arg
invariant-loop-arg l = widest_from l.most (drop l.arg-index l.args) ≡ widest_from N.Integer l.args
