use Rattle.std.proofs.Common.{◌≡◌, ◌++◌, drop}
use Rattle.stack_code.specs.Code.{locals_code}
use Rattle.stack_compiler.proofs.turns.emit_locals.Given as goal

abbrev pub invariant-loop-local : goal.invariant-loop-local
invariant-loop-local l = l.code.items ++ locals_code l.layout.program.now (drop l.local-index l.locals) ≡ l.fn.code.items ++ locals_code l.layout.program.now l.locals
