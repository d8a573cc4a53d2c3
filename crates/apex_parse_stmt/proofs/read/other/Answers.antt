use Rattle.token_grammar.specs.Notation.{seen}
use Rattle.token_grammar.proofs.Chain.{one_way, other_way}
use Rattle.apex_parse_stmt.proofs.Looks.{declared, undeclared}
use Rattle.apex_parse_stmt.proofs.read.other.Goals as goal

pub returns-then-declared : goal.returns-then-declared
returns-then-declared c = other_way c.if-is_call.ensures (other_way c.if-is_call-2.ensures (one_way (declared (seen c.args.tokens.now) c.args.at _ c.if-declared.true c.in_ok-declared.ensures) c.declare.ensures))

pub returns-else-declared : goal.returns-else-declared
returns-else-declared c = other_way c.if-is_call.ensures (other_way c.if-is_call-2.ensures (other_way (undeclared (seen c.args.tokens.now) c.args.at _ c.if-declared.false c.in_ok-declared.ensures) c.expr_stmt.ensures))
