use Rattle.std.proofs.Common.{◌+◌, ◌-◌, ◌*◌, length}
use Rattle.token_grammar.proofs.Chain.{SoFar}
use Rattle.apex_parse_leaf.specs.Leaves as leaves
use Rattle.apex_parse_expr.specs.Exprs as grammar
use Rattle.apex_parse_expr.proofs.levels.+levels.Given as goal

abbrev pub decreases-operand : goal.decreases-operand
decreases-operand g l = 8 * grammar.rank l.level

abbrev pub decreases-link : goal.decreases-link
decreases-link g l = 8 * grammar.rank l.level + 1

abbrev pub decreases-links : goal.decreases-links
decreases-links g l = 8 * grammar.rank l.level + 2

abbrev pub decreases-chain : goal.decreases-chain
decreases-chain g l = 8 * grammar.rank l.level + 4

abbrev pub decreases-ordered : goal.decreases-ordered
decreases-ordered g l = 19

abbrev pub decreases-order : goal.decreases-order
decreases-order g l = 20

abbrev pub invariant-links-links : goal.invariant-links-links
invariant-links-links g l = SoFar l.tokens (leaves.next_op l.level) (grammar.link l.level (grammar.operand l.level (grammar.unary l.room))) l.at l.links l.end

abbrev pub decreases-links-links : goal.decreases-links-links
decreases-links-links g l = length l.tokens - l.end
