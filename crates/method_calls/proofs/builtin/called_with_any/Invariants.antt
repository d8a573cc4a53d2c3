use Rattle.std.proofs.Common.{◌≡◌, drop}
use Rattle.method_calls.specs.BuiltinUses.{called_with_any}
use Rattle.method_calls.proofs.builtin.called_with_any.Given as goal

abbrev pub invariant-loop-count : goal.invariant-loop-count
invariant-loop-count l = called_with_any l.kind l.method (drop l.count-index l.counts) l.on ≡ called_with_any l.kind l.method l.counts l.on
