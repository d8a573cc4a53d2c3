use Rattle.token_grammar.proofs.Chain.{grown}
use Rattle.token_grammar.proofs.Moves.{nearer}
use Rattle.apex_parse_expr.specs.Exprs.{deeper_expr}
use Rattle.apex_parse_expr.proofs.Moving.{part_moves}
use Rattle.apex_parse_expr.proofs.postfix.parts.Goals as goal

pub parts-smaller : goal.parts-smaller
parts-smaller g c = nearer (part_moves c.args.room (deeper_expr c.args.room)) c.in_ok-next.ensures

pub parts-preserved : goal.parts-preserved
parts-preserved g c = rw c.in_ok-push.ensures.ok (grown c.parts.invariant c.parts-test.ensures c.in_ok-next.ensures)
