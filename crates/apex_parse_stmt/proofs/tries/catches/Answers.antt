use Rattle.std.proofs.Common.{inl, inr}
use Rattle.token_grammar.proofs.Chain.{grown}
use Rattle.token_grammar.proofs.Moves.{nearer}
use Rattle.apex_parse_stmt.proofs.tries.catches.Goals as goal

pub catches-smaller : goal.catches-smaller
catches-smaller g c = nearer (inr (λ i. inl (inl tt))) c.in_ok-next.ensures

pub catches-preserved : goal.catches-preserved
catches-preserved g c = rw c.in_ok-push.ensures.ok (grown c.catches.invariant c.catches-test.ensures c.in_ok-next.ensures)
