use Rattle.std.proofs.Common.{◌+◌, ◌-◌, ◌*◌, length}
use Rattle.token_grammar.specs.Tokens.{next_word}
use Rattle.token_grammar.proofs.Chain.{Listed}
use Rattle.soql_parse.specs.Queries as grammar
use Rattle.soql_parse.proofs.cond.+cond.Given as goal

abbrev pub decreases-negation : goal.decreases-negation
decreases-negation g l = 6 * l.room

abbrev pub decreases-enclosed : goal.decreases-enclosed
decreases-enclosed g l = 6 * l.room

abbrev pub decreases-one : goal.decreases-one
decreases-one g l = 6 * l.room + 1

abbrev pub decreases-linked : goal.decreases-linked
decreases-linked g l = 6 * l.room + 2

abbrev pub decreases-chain : goal.decreases-chain
decreases-chain g l = 6 * l.room + 3

abbrev pub decreases-all_of : goal.decreases-all_of
decreases-all_of g l = 6 * l.room + 4

abbrev pub decreases-any_of : goal.decreases-any_of
decreases-any_of g l = 6 * l.room + 4

abbrev pub decreases-cond : goal.decreases-cond
decreases-cond g l = 6 * l.room + 5

abbrev pub invariant-chain-conds : goal.invariant-chain-conds
invariant-chain-conds g l = Listed l.tokens (next_word l.link) (grammar.linked l.link (grammar.one (g.K.BindRule.rule l.binds.how) l.room)) l.at l.fn.first l.conds l.end

abbrev pub decreases-chain-conds : goal.decreases-chain-conds
decreases-chain-conds g l = length l.tokens - l.end
