use Rattle.token_grammar.proofs.Chain.{next}
use Rattle.apex_parse_stmt.proofs.read.block_unit.Goals as goal

pub returns : goal.returns
returns c = next c.in_ok-stmts.ensures (c.boxed.ensures c.args.tokens.now)
