use Rattle.std.proofs.Common.{◌≡◌, ◌++◌, ◌+◌, length}
use Rattle.typed_calls.specs.Arguments.{converted_from}
use Rattle.typed_calls.proofs.arguments.converted_all.Given as goal

abbrev pub invariant-loop-arg : goal.invariant-loop-arg
invariant-loop-arg l =
    (l.trees ++ converted_from l.hows l.i l.arg-iterator.rest.items ≡ converted_from l.hows 0 l.fn.args) × (l.i + length l.arg-iterator.rest.items ≡ length l.fn.args)
