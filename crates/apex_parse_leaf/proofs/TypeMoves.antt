-- Types take tokens.
use Rattle.std.specs.Prelude.{ℕ, zero, suc}
use Rattle.std.proofs.Common.{inl, inr}
use Rattle.token_grammar.proofs.Moves.{Moves}
use Rattle.apex_parse_leaf.specs.Types.{type}

pub type_moves : (room : ℕ) → Moves (type room)
type_moves zero = inr (λ i. inl tt)
type_moves (suc room) = inr (λ i. inl tt)
