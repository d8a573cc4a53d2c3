use Rattle.std.proofs.Common.{inl, [], ◌∷◌, ◌++◌, ap, ◌∙◌}
use Rattle.token_grammar.proofs.Chain.{list_more}
use Rattle.token_grammar.proofs.Moves.{nearer}
use Rattle.apex_parse_unit.proofs.params.more_params.Goals as goal

pub params-smaller : goal.params-smaller
params-smaller c = nearer (inl tt) c.in_ok-next.ensures

pub params-preserved : goal.params-preserved
params-preserved c = list_more c.params.invariant c.params-test.ensures c.in_ok-next.ensures (c.in_ok-push-2.ensures.ok ∙ ap (λ p. c.params.params ++ p ∷ []) c.into_value-in-params.ensures)
