use Rattle.token_grammar.proofs.Chain.{next, halt, gives, raised}
use Rattle.apex_parse_stmt.proofs.tries.caught.Goals as goal

pub returns-in_err-member : goal.returns-in_err-member
returns-in_err-member c = raised c.from_residual-in_err-member.ensures (next c.in_ok-class.ensures (halt c.in_err-member.ensures))

pub returns-in_err-name : goal.returns-in_err-name
returns-in_err-name c = raised c.from_residual-in_err-name.ensures (next c.in_ok-class.ensures (next c.in_ok-member.ensures (halt c.in_err-name.ensures)))

pub returns : goal.returns
returns c = next c.in_ok-class.ensures (next c.in_ok-member.ensures (next c.in_ok-name.ensures gives))
