-- Clauses with their code.
use Rattle.stack_code.specs.Code.{ClauseCode}
use Rattle.stack_compiler.specs.declared.clauses.CaughtCode.{CaughtCode}

abbrev pub clause_of : CaughtCode → ClauseCode
clause_of c = record { kind = c.kind; slot = c.slot; code = c.code }
