use Rattle.apex_parse_expr.specs.Exprs.{expr}
use Rattle.apex_parse_stmt.specs.Stmts.{stmt, begins_stmt, begins_expr}
use Rattle.apex_parse_stmt.proofs.Begins.{begun, stmt_begins, expr_begins}
use Rattle.apex_parse_stmt.proofs.laws.laws_of_beginnings.Goals as goal

pub returns-clause-statements : goal.returns-clause-statements
returns-clause-statements c = λ tokens room at s end h. begun begins_stmt tokens (stmt room) at s end (stmt_begins room) h

pub returns-clause-expressions : goal.returns-clause-expressions
returns-clause-expressions c = λ tokens room at x end h. begun begins_expr tokens (expr room) at x end (expr_begins room) h
