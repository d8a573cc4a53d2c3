use Rattle.std.proofs.Common.{inl}
use Rattle.token_grammar.proofs.Chain.{list_more}
use Rattle.token_grammar.proofs.Moves.{nearer}
use Rattle.apex_parse_expr.proofs.news.more_fields.Goals as goal

pub fields-smaller : goal.fields-smaller
fields-smaller g c = nearer (inl tt) c.in_ok-next.ensures

pub fields-preserved : goal.fields-preserved
fields-preserved g c = list_more c.fields.invariant c.fields-test.ensures c.in_ok-next.ensures c.in_ok-push-2.ensures.ok
