use Rattle.token_grammar.proofs.Chain.{next}
use Rattle.apex_parse_stmt.proofs.nest.braced.Goals as goal

pub returns : goal.returns
returns g c = next c.in_ok-body.ensures (c.boxed.ensures c.args.tokens.now)
