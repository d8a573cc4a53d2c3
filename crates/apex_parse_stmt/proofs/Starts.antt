-- What a `for` begins with.
use Rattle.std.specs.Prelude.{◌≡◌, ℕ, List, Result}
use Rattle.std.proofs.Common.{subst}
use Rattle.apex_lexer.specs.declared.token.Token.{Token}
use Rattle.apex_syntax.specs.declared.stmt.ForStart.{ForStart}
use Rattle.token_grammar.specs.declared.fault.Stop.{Stop}
use Rattle.token_grammar.specs.Readings.{Told}
use Rattle.apex_parse_stmt.specs.declared.part.ForHead.{ForHead}
use Rattle.apex_parse_stmt.specs.Stmts.{for_rest}

pub begun_by : (room : ℕ) {tokens : List Token} {at : ℕ} {start other : ForStart} {o : Result (ForHead × ℕ) Stop} → start ≡ other → Told tokens (for_rest room start) at o → Told tokens (for_rest room other) at o
begun_by room {tokens = tokens} {at = at} {o = o} e h = subst (λ s. Told tokens (for_rest room s) at o) e h
