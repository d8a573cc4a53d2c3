use Rattle.std.proofs.Common.{◌≡◌, ◌++◌, drop, false}
use Rattle.token_grammar.specs.Literals as literals
use Rattle.token_grammar.proofs.literal.said.Given as goal

abbrev pub invariant-bytes : goal.invariant-bytes
invariant-bytes l = literals.said false l.body ≡ l.bytes ++ literals.said l.escaped (drop l.byte-index l.body)
