use Rattle.token_grammar.proofs.Chain.{next, halt, raised, ended}
use Rattle.soql_parse.proofs.cond.compared.Goals as goal

pub returns-in_err-value : goal.returns-in_err-value
returns-in_err-value g c = raised c.from_residual-in_err-value.ensures (next c.in_ok-op.ensures (halt c.in_err-value.ensures))

pub returns : goal.returns
returns g c = next c.in_ok-op.ensures (next c.in_ok-value.ensures (ended c.span_of-span.ensures c.boxed.ensures))
