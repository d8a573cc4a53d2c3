use Rattle.std.proofs.Common.{inl}
use Rattle.token_grammar.proofs.Chain.{list_more}
use Rattle.token_grammar.proofs.Moves.{nearer}
use Rattle.apex_parse_stmt.proofs.declare.more_declarators.Goals as goal

pub names-smaller : goal.names-smaller
names-smaller c = nearer (inl tt) c.in_ok-next.ensures

pub names-preserved : goal.names-preserved
names-preserved c = list_more c.names.invariant c.names-test.ensures c.in_ok-next.ensures c.in_ok-push-2.ensures.ok
