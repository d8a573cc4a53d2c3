use Rattle.std.proofs.Common.{inl}
use Rattle.token_grammar.proofs.Chain.{list_more}
use Rattle.token_grammar.proofs.Moves.{nearer}
use Rattle.apex_parse_expr.proofs.args.more_exprs.Goals as goal

pub exprs-smaller : goal.exprs-smaller
exprs-smaller g c = nearer (inl tt) c.in_ok-next.ensures

pub exprs-preserved : goal.exprs-preserved
exprs-preserved g c = list_more c.exprs.invariant c.exprs-test.ensures c.in_ok-next.ensures c.in_ok-add-2.ensures.ok
