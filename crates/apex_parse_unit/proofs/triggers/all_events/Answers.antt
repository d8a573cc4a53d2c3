use Rattle.token_grammar.proofs.Chain.{next}
use Rattle.apex_parse_unit.proofs.triggers.all_events.Goals as goal

pub returns : goal.returns
returns c = next c.in_ok-first.ensures c.more_events.ensures
