use Rattle.token_grammar.proofs.Chain.{next}
use Rattle.apex_parse_unit.proofs.members.property_rest.Goals as goal

pub returns : goal.returns
returns c = next c.in_ok-end.ensures (c.boxed.ensures c.args.tokens.now)
