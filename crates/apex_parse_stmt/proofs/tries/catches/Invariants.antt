use Rattle.std.proofs.Common.{◌-◌, length}
use Rattle.apex_lexer.specs.declared.token.Keyword.TheVariants.{Catch}
use Rattle.token_grammar.specs.Tokens.{next_word}
use Rattle.token_grammar.proofs.Chain.{SoFar}
use Rattle.apex_parse_stmt.specs.Stmts as grammar
use Rattle.apex_parse_stmt.proofs.tries.catches.Given as goal

abbrev pub invariant-catches : goal.invariant-catches
invariant-catches g l = SoFar l.tokens (next_word Catch) (grammar.catch l.room (grammar.deeper_stmt l.room)) l.at l.catches l.end

abbrev pub decreases-catches : goal.decreases-catches
decreases-catches g l = length l.tokens - l.end
