use Rattle.std.proofs.Common.{◌-◌, length}
use Rattle.token_grammar.proofs.Chain.{Skipped}
use Rattle.soql_parse.specs.Queries as grammar
use Rattle.soql_parse.proofs.ranges.bind_parts.Given as goal

abbrev pub invariant-parts : goal.invariant-parts
invariant-parts l = Skipped l.tokens grammar.next_part (grammar.bind_part l.room) l.at l.end

abbrev pub decreases-parts : goal.decreases-parts
decreases-parts l = length l.tokens - l.end
