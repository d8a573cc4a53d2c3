use Rattle.token_grammar.proofs.Chain.{next, past}
use Rattle.apex_parse_stmt.proofs.loops.for_each.Goals as goal

pub returns : goal.returns
returns c = past c.in_ok-behind.ensures (next c.in_ok-list.ensures (c.boxed.ensures c.args.tokens.now))
