use Rattle.token_grammar.specs.Notation.{seen}
use Rattle.apex_parse_leaf.proofs.Looks.{by_paren}
use Rattle.apex_parse_leaf.proofs.casts.is_cast.Goals as goal

pub returns-then-is_sign : goal.returns-then-is_sign
returns-then-is_sign c = by_paren (seen c.args.tokens.now) c.args.at _ c.if-is_sign.ensures c.is_cast_type.ensures
