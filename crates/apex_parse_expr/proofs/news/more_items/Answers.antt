use Rattle.std.proofs.Common.{inl}
use Rattle.token_grammar.proofs.Chain.{list_more}
use Rattle.token_grammar.proofs.Moves.{nearer}
use Rattle.apex_parse_expr.proofs.news.more_items.Goals as goal

pub items-smaller : goal.items-smaller
items-smaller g c = nearer (inl tt) c.in_ok-next.ensures

pub items-preserved : goal.items-preserved
items-preserved g c = list_more c.items.invariant c.items-test.ensures c.in_ok-next.ensures c.in_ok-push-2.ensures.ok
