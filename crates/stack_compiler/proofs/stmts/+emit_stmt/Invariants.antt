use Rattle.std.proofs.Common.{◌≡◌, ◌++◌, drop, take, map}
use Rattle.stack_code.specs.Code.{joined, stmt_code}
use Rattle.stack_compiler.specs.Clauses.{clause_of}
use Rattle.stack_compiler.specs.Codes.{clause_code}
use Rattle.stack_compiler.proofs.stmts.+emit_stmt.Given as goal

abbrev pub invariant-emit_stmts-loop-stmt : goal.invariant-emit_stmts-loop-stmt
invariant-emit_stmts-loop-stmt l = l.code.items ++ joined (map (stmt_code l.layout.program.now) (drop l.stmt-index l.stmts)) ≡ l.fn.code.items ++ joined (map (stmt_code l.layout.program.now) l.stmts)

abbrev pub invariant-clauses_alone-loop-clause : goal.invariant-clauses_alone-loop-clause
invariant-clauses_alone-loop-clause l = map clause_of l.all ≡ map (clause_code l.layout.program.now) (take l.clause-index l.clauses)
