use Rattle.std.proofs.Common.{◌-◌, length}
use Rattle.token_grammar.proofs.Chain.{SoFar}
use Rattle.apex_parse_stmt.specs.Stmts as grammar
use Rattle.apex_parse_stmt.proofs.nest.stmts.Given as goal

abbrev pub invariant-stmts : goal.invariant-stmts
invariant-stmts g l = SoFar l.tokens grammar.next_stmt (grammar.deeper_stmt l.room) l.at l.stmts l.end

abbrev pub decreases-stmts : goal.decreases-stmts
decreases-stmts g l = length l.tokens - l.end
