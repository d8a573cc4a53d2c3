use Rattle.token_grammar.proofs.Chain.{next, halt, raised}
use Rattle.apex_parse_stmt.proofs.declare.declarator.Goals as goal

pub returns-in_err-value : goal.returns-in_err-value
returns-in_err-value c = raised c.from_residual-in_err-value.ensures (next c.in_ok-name.ensures (halt c.in_err-value.ensures))
