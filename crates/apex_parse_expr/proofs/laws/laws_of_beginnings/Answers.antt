use Rattle.apex_parse_expr.proofs.Begins.{begin_laws}
use Rattle.apex_parse_expr.proofs.laws.laws_of_beginnings.Goals as goal

pub returns : goal.returns
returns c = begin_laws
