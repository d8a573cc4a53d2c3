use Rattle.std.proofs.Common.{◌≡◌}
use Rattle.stack_compiler.specs.Offsets.{from, offset}
use Rattle.stack_compiler.proofs.layout.offsets_of.Given as goal

abbrev pub invariant-loop-class : goal.invariant-loop-class
invariant-loop-class l = l.all ≡ from (offset l.program) 0 l.class
