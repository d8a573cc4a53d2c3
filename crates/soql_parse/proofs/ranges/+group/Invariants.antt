use Rattle.std.proofs.Common.{◌+◌, ◌-◌, ◌*◌, length}
use Rattle.token_grammar.proofs.Chain.{Skipped}
use Rattle.soql_parse.specs.Queries as grammar
use Rattle.soql_parse.proofs.ranges.+group.Given as goal

abbrev pub decreases-group : goal.decreases-group
decreases-group l = 3 * l.room

abbrev pub decreases-inner : goal.decreases-inner
decreases-inner l = 3 * l.room + 1

abbrev pub decreases-inners : goal.decreases-inners
decreases-inners l = 3 * l.room + 2

abbrev pub invariant-inners-inners : goal.invariant-inners-inners
invariant-inners-inners l = Skipped l.tokens grammar.next_inner (grammar.inner (grammar.group l.room)) l.at l.end

abbrev pub decreases-inners-inners : goal.decreases-inners-inners
decreases-inners-inners l = length l.tokens - l.end
