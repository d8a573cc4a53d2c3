use Rattle.token_grammar.proofs.Chain.{next}
use Rattle.apex_parse_unit.proofs.params.typed_result.Goals as goal

pub returns : goal.returns
returns c = next c.in_ok-kind.ensures (c.boxed.ensures c.args.tokens.now)
