use Rattle.std.proofs.Common.{inl}
use Rattle.token_grammar.proofs.Chain.{list_more}
use Rattle.token_grammar.proofs.Moves.{nearer}
use Rattle.soql_parse.proofs.value.more_values.Goals as goal

pub values-smaller : goal.values-smaller
values-smaller g c = nearer (inl tt) c.in_ok-value.ensures

pub values-preserved : goal.values-preserved
values-preserved g c = list_more c.values.invariant c.values-test.ensures c.in_ok-value.ensures c.in_ok-push-2.ensures.ok
