use Rattle.token_grammar.proofs.Chain.{grown}
use Rattle.token_grammar.proofs.Moves.{nearer}
use Rattle.apex_parse_unit.proofs.Moving.{signature_moves}
use Rattle.apex_parse_unit.proofs.interfaces.signatures.Goals as goal

pub all-smaller : goal.all-smaller
all-smaller c = nearer (signature_moves c.args.room) c.in_ok-next.ensures

pub all-preserved : goal.all-preserved
all-preserved c = rw c.in_ok-push.ensures.ok (rw c.into_value.ensures (grown c.all.invariant c.all-test.ensures c.in_ok-next.ensures))
