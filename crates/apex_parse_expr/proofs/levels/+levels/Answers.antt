use Rattle.std.proofs.Common.{inl}
use Rattle.token_grammar.proofs.Chain.{next, halt, here, since, gives, raised, one_way, other_way, grown}
use Rattle.token_grammar.proofs.Moves.{nearer}
use Rattle.apex_parse_expr.proofs.levels.+levels.Goals as goal

pub links-links-smaller : goal.links-links-smaller
links-links-smaller g t c = nearer (inl tt) c.in_ok-next.ensures

pub links-links-preserved : goal.links-links-preserved
links-links-preserved g t c = rw c.in_ok-push.ensures.ok (grown c.links.invariant c.links-test.ensures c.in_ok-next.ensures)

pub chain-returns-in_err-links : goal.chain-returns-in_err-links
chain-returns-in_err-links g t c = raised c.from_residual-in_err-links.ensures (here (next c.in_ok-first.ensures (halt c.in_err-links.ensures)))

pub chain-returns : goal.chain-returns
chain-returns g t c = rw c.in_ok-chained.ensures (rw c.span_of-span.ensures (here (next c.in_ok-first.ensures (next c.in_ok-links.ensures (since gives)))))

pub order-returns-then-is_op : goal.order-returns-then-is_op
order-returns-then-is_op g t c = here (next c.in_ok-first.ensures (one_way c.if-is_op.ensures c.ordered.ensures))

pub order-returns-else-is_op : goal.order-returns-else-is_op
order-returns-else-is_op g t c = here (next c.in_ok-first.ensures (other_way c.if-is_op.ensures gives))

pub ordered-returns : goal.ordered-returns
ordered-returns g t c = rw c.in_ok-chained.ensures (rw c.in_ok-push.ensures.ok (rw c.new-links.ensures (rw c.span_of-span.ensures (next c.in_ok-right.ensures (since gives)))))
