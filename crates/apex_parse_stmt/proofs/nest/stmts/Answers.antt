use Rattle.token_grammar.proofs.Chain.{grown}
use Rattle.token_grammar.proofs.Moves.{nearer}
use Rattle.apex_parse_stmt.proofs.Moving.{deeper_moves}
use Rattle.apex_parse_stmt.proofs.nest.stmts.Goals as goal

pub stmts-smaller : goal.stmts-smaller
stmts-smaller g c = nearer (deeper_moves c.args.room) c.in_ok-next.ensures

pub stmts-preserved : goal.stmts-preserved
stmts-preserved g c = rw c.in_ok-push.ensures.ok (rw c.into_value.ensures (grown c.stmts.invariant c.stmts-test.ensures c.in_ok-next.ensures))
