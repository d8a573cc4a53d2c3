use Rattle.soql_parse.specs.Queries.{range}
use Rattle.nesting_laws.proofs.TypeDepths.{type_within}
use Rattle.nesting_laws.proofs.QueryDepths.{range_within, query_within}
use Rattle.nesting_laws.proofs.ExprDepths.{expr_within}
use Rattle.nesting_laws.proofs.StmtDepths.{stmt_within}
use Rattle.nesting_laws.proofs.laws.laws_of_trees.Goals as goal

pub returns-clause-types : goal.returns-clause-types
returns-clause-types c = λ tokens room at t end h. (type_within room).by tokens at t end h

pub returns-clause-queries : goal.returns-clause-queries
returns-clause-queries c = λ tokens room at q end h. (query_within range range_within room).by tokens at q end h

pub returns-clause-exprs : goal.returns-clause-exprs
returns-clause-exprs c = λ tokens room at x end h. (expr_within room).by tokens at x end h

pub returns-clause-stmts : goal.returns-clause-stmts
returns-clause-stmts c = λ tokens room at s end h. (stmt_within room).by tokens at s end h
