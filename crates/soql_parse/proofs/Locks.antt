-- FOR UPDATE behind an order.
use Rattle.std.specs.Prelude.{◌≡◌, ℕ, Bool, true, List, Err}
use Rattle.std.proofs.Common.{sym, subst}
use Rattle.apex_lexer.specs.declared.token.Token.{Token}
use Rattle.token_grammar.specs.declared.fault.ParseWord.TheVariants.{LockedOrder}
use Rattle.token_grammar.specs.declared.fault.Stop.TheVariants.{At}
use Rattle.token_grammar.specs.Readings.{Told}
use Rattle.token_grammar.proofs.Chain.{refuses}
use Rattle.soql_parse.specs.Queries.{update}

pub locked : {tokens : List Token} {has_order : Bool} {place at : ℕ} → has_order ≡ true → Told tokens (update has_order place) at (Err (At LockedOrder place))
locked {tokens = tokens} {place = place} {at = at} e = subst (λ b. Told tokens (update b place) at (Err (At LockedOrder place))) (sym e) refuses
