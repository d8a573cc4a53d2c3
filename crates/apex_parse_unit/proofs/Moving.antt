-- Modifiers, members and methods take tokens.
use Rattle.std.specs.Prelude.{ℕ}
use Rattle.std.proofs.Common.{inl, inr}
use Rattle.token_grammar.proofs.Moves.{Moves}
use Rattle.apex_parse_leaf.proofs.TypeMoves.{type_moves}
use Rattle.apex_parse_unit.specs.Members.{modifier, member, result_tree}
use Rattle.apex_parse_unit.specs.Classes.{class_modifier, signature}

pub modifier_moves : Moves modifier
modifier_moves = inr (λ i. inl tt)

pub class_modifier_moves : Moves class_modifier
class_modifier_moves = inr (λ i. inl (inl tt, tt))

pub member_moves : (room : ℕ) → Moves (member room)
member_moves room = inr (λ i. inr (λ ms. inl (inl (inr (λ j. inl tt)), (inl tt, inl (type_moves room)))))

result_moves : (room : ℕ) → Moves (result_tree room)
result_moves room = (inr (λ i. inl tt), inl (type_moves room))

pub signature_moves : (room : ℕ) → Moves (signature room)
signature_moves room = inr (λ i. inl (result_moves room))
