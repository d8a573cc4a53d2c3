-- What is to be shown of readings and of depth: where `room` forms may be opened, no more than so many are open at once in
-- what is read.
use Rattle.std.specs.Prelude.{◌≤◌, ℕ, List}
use Rattle.apex_lexer.specs.Reading.{Shown}
use Rattle.apex_lexer.specs.declared.token.Token.{Token}
use Rattle.apex_syntax.specs.Depths.{type_depth, query_depth, expr_depth, stmt_nest, unit_depth}
use Rattle.apex_syntax.specs.declared.expr.Expr.{Expr}
use Rattle.apex_syntax.specs.declared.expr.TypeTree.{TypeTree}
use Rattle.apex_syntax.specs.declared.query.QueryTree.{QueryTree}
use Rattle.apex_syntax.specs.declared.stmt.Stmt.{Stmt}
use Rattle.apex_syntax.specs.declared.unit.Unit.{Unit}
use Rattle.token_grammar.specs.Notation.{Reads}
use Rattle.soql_parse.specs.Queries.{query, range}
use Rattle.apex_parse_leaf.specs.Types.{type}
use Rattle.apex_parse_expr.specs.Exprs.{expr}
use Rattle.apex_parse_stmt.specs.Stmts.{stmt}
use Rattle.apex_parse_stmt.specs.Units.{WholeUnit, block_unit}
use Rattle.apex_parse_unit.specs.Classes.{class_or_interface}
use Rattle.apex_parse_unit.specs.Triggers.{trigger_whole}

abbrev pub TypeDepth : Type 0
TypeDepth = (tokens : List Shown) (room at : ℕ) (t : TypeTree) (end : ℕ) → Reads tokens (type room) at t end → type_depth t ≤ room

-- a query alone; its binds are kept as their tokens
abbrev pub QueryDepth : Type 0
QueryDepth = (tokens : List Shown) (room at : ℕ) (q : QueryTree) (end : ℕ) → Reads tokens (query range room) at q end → query_depth q ≤ room

abbrev pub ExprDepth : Type 0
ExprDepth = (tokens : List Shown) (room at : ℕ) (x : Expr) (end : ℕ) → Reads tokens (expr room) at x end → expr_depth x ≤ room

abbrev pub StmtDepth : Type 0
StmtDepth = (tokens : List Shown) (room at : ℕ) (s : Stmt) (end : ℕ) → Reads tokens (stmt room) at s end → (stmt_nest s).depth ≤ room

-- ---- units, as the parsers tell of them: they are read with a room of 64

abbrev pub BlockDepth : Type 0
BlockDepth = (tokens : List Token) (room : ℕ) (unit : Unit) → WholeUnit tokens (block_unit room) unit → unit_depth unit ≤ room

abbrev pub ClassDepth : Type 0
ClassDepth = (tokens : List Token) (room : ℕ) (unit : Unit) → WholeUnit tokens (class_or_interface room) unit → unit_depth unit ≤ room

abbrev pub TriggerDepth : Type 0
TriggerDepth = (tokens : List Token) (room : ℕ) (unit : Unit) → WholeUnit tokens (trigger_whole room) unit → unit_depth unit ≤ room
