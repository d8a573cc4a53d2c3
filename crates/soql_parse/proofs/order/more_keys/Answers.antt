use Rattle.std.proofs.Common.{inl}
use Rattle.token_grammar.proofs.Chain.{list_more}
use Rattle.token_grammar.proofs.Moves.{nearer}
use Rattle.soql_parse.proofs.order.more_keys.Goals as goal

pub keys-smaller : goal.keys-smaller
keys-smaller c = nearer (inl tt) c.in_ok-key.ensures

pub keys-preserved : goal.keys-preserved
keys-preserved c = list_more c.keys.invariant c.keys-test.ensures c.in_ok-key.ensures c.in_ok-push-2.ensures.ok
