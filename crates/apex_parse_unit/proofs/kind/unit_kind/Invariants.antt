use Rattle.std.specs.Prelude.{◌≡◌, drop}
use Rattle.token_grammar.specs.Notation.{seen}
use Rattle.apex_parse_unit.specs.Kinds.{unit_kind}
use Rattle.apex_parse_unit.proofs.kind.unit_kind.Given as goal

abbrev pub invariant-loop-token : goal.invariant-loop-token
invariant-loop-token l = unit_kind (seen l.tokens) ≡ unit_kind (seen (drop l.token-index l.tokens))
