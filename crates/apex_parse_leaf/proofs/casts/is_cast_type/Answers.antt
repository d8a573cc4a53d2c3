use Rattle.token_grammar.specs.Notation.{seen}
use Rattle.apex_parse_leaf.proofs.Looks.{by_type}
use Rattle.apex_parse_leaf.proofs.casts.is_cast_type.Goals as goal

pub returns : goal.returns
returns c = by_type (seen c.args.tokens.now) c.args.at _ c.if-is_primitive_cast.ensures c.if-is_system_cast.ensures c.is_other_cast.ensures
