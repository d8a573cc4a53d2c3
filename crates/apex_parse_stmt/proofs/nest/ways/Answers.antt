use Rattle.token_grammar.proofs.Chain.{next, halt, raised}
use Rattle.apex_parse_stmt.proofs.nest.ways.Goals as goal

pub returns-in_err-no : goal.returns-in_err-no
returns-in_err-no g c = raised c.from_residual-in_err-no.ensures (next c.in_ok-yes.ensures (halt c.in_err-no.ensures))
