use Rattle.std.proofs.Common.{ap, ◌∙◌}
use Rattle.apex_syntax.specs.declared.stmt.ForStart.TheVariants.{Declare}
use Rattle.token_grammar.proofs.Chain.{next}
use Rattle.apex_parse_stmt.proofs.Starts.{begun_by}
use Rattle.apex_parse_stmt.proofs.loops.for_variables.Goals as goal

pub returns : goal.returns
returns c = next c.in_ok-names.ensures (begun_by c.args.room (c.in_ok-start.ensures ∙ ap (λ k. Declare k c.in_ok-names.names) c.into_value.ensures) c.for_rest.ensures)
