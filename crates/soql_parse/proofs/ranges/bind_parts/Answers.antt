use Rattle.token_grammar.proofs.Chain.{skip_more}
use Rattle.token_grammar.proofs.Moves.{nearer}
use Rattle.soql_parse.proofs.Groups.{part_moves}
use Rattle.soql_parse.proofs.ranges.bind_parts.Goals as goal

pub parts-smaller : goal.parts-smaller
parts-smaller c = nearer (part_moves _) c.in_ok-after.ensures

pub parts-preserved : goal.parts-preserved
parts-preserved c = skip_more c.parts.invariant c.parts-test.ensures c.in_ok-after.ensures
