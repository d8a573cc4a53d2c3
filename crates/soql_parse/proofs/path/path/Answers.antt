use Rattle.token_grammar.proofs.Chain.{next, halt, here, since, gives, raised}
use Rattle.soql_parse.proofs.path.path.Goals as goal

pub returns-in_err-names : goal.returns-in_err-names
returns-in_err-names c = raised c.from_residual-in_err-names.ensures (here (next c.in_ok-first.ensures (halt c.in_err-names.ensures)))

pub returns : goal.returns
returns c = rw c.span_of-span.ensures (here (next c.in_ok-first.ensures (next c.in_ok-names.ensures (since gives))))
