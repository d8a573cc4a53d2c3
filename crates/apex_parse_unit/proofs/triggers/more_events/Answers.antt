use Rattle.std.proofs.Common.{inl}
use Rattle.token_grammar.proofs.Chain.{list_more}
use Rattle.token_grammar.proofs.Moves.{nearer}
use Rattle.apex_parse_unit.proofs.triggers.more_events.Goals as goal

pub events-smaller : goal.events-smaller
events-smaller c = nearer (inl tt) c.in_ok-next.ensures

pub events-preserved : goal.events-preserved
events-preserved c = list_more c.events.invariant c.events-test.ensures c.in_ok-next.ensures c.in_ok-push-2.ensures.ok
