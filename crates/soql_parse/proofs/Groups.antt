-- Groups take tokens.
use Rattle.std.specs.Prelude.{◌≡◌, ◌-◌, ◌<◌, ℕ, zero, suc, List, Result}
use Rattle.std.proofs.Common.{arith, inl, inr, sym, subst}
use Rattle.apex_lexer.specs.declared.token.Token.{Token}
use Rattle.token_grammar.specs.declared.fault.Stop.{Stop}
use Rattle.token_grammar.specs.Readings.{Told}
use Rattle.token_grammar.proofs.Moves.{Moves}
use Rattle.soql_parse.specs.Queries.{opener, group, group_with, inner, bind_part}

opener_moves : (room : ℕ) → Moves (opener room)
opener_moves zero = inr (λ i. inl tt)
opener_moves (suc room) = tt

pub group_moves : (room : ℕ) → Moves (group room)
group_moves zero = inl (opener_moves zero)
group_moves (suc room) = inl (opener_moves (suc room))

pub inner_moves : (room : ℕ) → Moves (inner (group room))
inner_moves room = (group_moves room, tt)

pub part_moves : (room : ℕ) → Moves (bind_part room)
part_moves room = (inl tt, group_moves room)

pub omega_room : (room : ℕ) → 0 < room → room ≡ suc (room - 1)
omega_room room h = omega arith

-- a group that is opened where so many more may be open
pub group_at : {tokens : List Token} {room inside at : ℕ} {o : Result (Unit {0} × ℕ) Stop} → room ≡ suc inside → Told tokens (group_with room (group inside)) at o → Told tokens (group room) at o
group_at {tokens = tokens} {inside = inside} {at = at} {o = o} e h =
    subst (λ r. Told tokens (group r) at o) (sym e) (subst (λ r. Told tokens (group_with r (group inside)) at o) e h)
