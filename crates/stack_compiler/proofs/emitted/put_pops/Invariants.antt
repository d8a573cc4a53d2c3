use Rattle.std.proofs.Common.{◌≡◌, ◌++◌, replicate}
use Rattle.stack_code.specs.declared.code.Instr.TheVariants as I
use Rattle.stack_compiler.proofs.emitted.put_pops.Given as goal

abbrev pub invariant-loop : goal.invariant-loop
invariant-loop l = l.code.items ≡ l.fn.code.items ++ replicate l.counter I.Pop
