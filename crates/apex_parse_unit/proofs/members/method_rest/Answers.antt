use Rattle.token_grammar.proofs.Chain.{next, halt, raised}
use Rattle.apex_parse_unit.proofs.members.method_rest.Goals as goal

pub returns-in_err-body : goal.returns-in_err-body
returns-in_err-body c = raised c.from_residual-in_err-body.ensures (next c.in_ok-params.ensures (halt c.in_err-body.ensures))

pub returns : goal.returns
returns c = next c.in_ok-params.ensures (next c.in_ok-body.ensures (c.boxed.ensures c.args.tokens.now))
