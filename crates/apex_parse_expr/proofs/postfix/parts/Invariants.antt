use Rattle.std.proofs.Common.{◌-◌, length}
use Rattle.token_grammar.proofs.Chain.{SoFar}
use Rattle.apex_parse_leaf.specs.Leaves as leaves
use Rattle.apex_parse_expr.specs.Exprs as grammar
use Rattle.apex_parse_expr.proofs.postfix.parts.Given as goal

abbrev pub invariant-parts : goal.invariant-parts
invariant-parts g l = SoFar l.tokens leaves.next_part (grammar.part l.room (grammar.deeper_expr l.room)) l.at l.parts l.end

abbrev pub decreases-parts : goal.decreases-parts
decreases-parts g l = length l.tokens - l.end
