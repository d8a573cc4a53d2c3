-- Laws of the grammar of statements.
use Rattle.std.specs.Prelude.{ℕ, List}
use Rattle.apex_lexer.specs.Reading.{Shown}
use Rattle.apex_syntax.specs.declared.expr.Expr.{Expr}
use Rattle.apex_syntax.specs.declared.stmt.Stmt.{Stmt}
use Rattle.token_grammar.specs.Notation.{Reads, Test, kind_at}
use Rattle.apex_parse_expr.specs.Exprs.{expr}
use Rattle.apex_parse_stmt.specs.Stmts.{stmt, next_stmt, next_of, begins_expr}

-- what is read as a statement begins with a token by which one is known to begin
abbrev pub StmtBegins : Type 0
StmtBegins = (tokens : List Shown) (room at : ℕ) (s : Stmt) (end : ℕ) → Reads tokens (stmt room) at s end → next_stmt tokens at

-- and so is what is read as an expression
abbrev pub ExprBegins : Type 0
ExprBegins = (tokens : List Shown) (room at : ℕ) (x : Expr) (end : ℕ) → Reads tokens (expr room) at x end → next_of begins_expr tokens at
