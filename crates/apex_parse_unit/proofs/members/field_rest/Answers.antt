use Rattle.token_grammar.proofs.Chain.{next, past, stuck, raised}
use Rattle.apex_parse_unit.proofs.members.field_rest.Goals as goal

pub returns-in_err-end : goal.returns-in_err-end
returns-in_err-end c = raised c.from_residual-in_err-end.ensures (next c.in_ok-value.ensures (stuck c.in_err-end.ensures))

pub returns : goal.returns
returns c = next c.in_ok-value.ensures (past c.in_ok-end.ensures (c.boxed.ensures c.args.tokens.now))
