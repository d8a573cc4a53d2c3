use Rattle.apex_parse_expr.proofs.Begins.{token_laws}
use Rattle.apex_parse_expr.proofs.laws.laws_of_tokens.Goals as goal

pub returns : goal.returns
returns c = token_laws
