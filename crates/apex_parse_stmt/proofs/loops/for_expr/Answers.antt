use Rattle.token_grammar.proofs.Chain.{next}
use Rattle.apex_parse_stmt.proofs.Starts.{begun_by}
use Rattle.apex_parse_stmt.proofs.loops.for_expr.Goals as goal

pub returns : goal.returns
returns c = next c.in_ok-tree.ensures (begun_by c.args.room c.in_ok-start.ensures c.for_rest.ensures)
