use Rattle.std.proofs.Common.{◌≡◌, ◌-◌, [], reverse}
use Rattle.stack_code.specs.Machine.{taken}
use Rattle.program_things.proofs.operands.take_values.Given as goal

abbrev pub invariant-values : goal.invariant-values
invariant-values l = taken (l.count - l.i) l.stack (reverse l.values.items) ≡ taken l.count l.fn.stack []
