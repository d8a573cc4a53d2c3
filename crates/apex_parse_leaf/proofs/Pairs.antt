-- Types in forms that are opened, and counted pairs.
use Rattle.std.specs.Prelude.{◌≡◌, ◌+◌, ◌<◌, ◌≤◌, ℕ, zero, suc, List, [], ◌∷◌, ◌++◌, length, Result, Ok, Err, ◌-◌}
use Rattle.std.proofs.Common.{arith, inl, inr, refl, sym, subst, length-append}
use Rattle.apex_lexer.specs.declared.token.Token.{Token}
use Rattle.apex_lexer.specs.declared.token.Sign.TheVariants.{OpenBracket}
use Rattle.apex_syntax.specs.declared.expr.TypeTree.{TypeTree}
use Rattle.token_grammar.specs.declared.fault.Stop.{Stop}
use Rattle.token_grammar.specs.Notation.{Rule, seen}
use Rattle.token_grammar.specs.Readings.{Told}
use Rattle.token_grammar.specs.Tokens.{next_sign}
use Rattle.token_grammar.proofs.Chain.{SoFar, begun, grown, all_read, broken, next, halt, gives}
use Rattle.token_grammar.proofs.Moves.{Moves, beyond, nearer}
use Rattle.apex_parse_leaf.specs.Types.{pair, arrays, type, type_with, deeper_type}

pub deepen_type : {tokens : List Token} {B : Type 0} {room inside at : ℕ} {o : Result (B × ℕ) Stop} (f : Rule TypeTree → Rule B) → room ≡ suc inside → Told tokens (f (type inside)) at o → Told tokens (f (deeper_type room)) at o
deepen_type {tokens = tokens} {at = at} {o = o} f e h = subst (λ r. Told tokens (f (deeper_type r)) at o) (sym e) h

type_is : (tokens : List Token) (room at : ℕ) (o : Result (TypeTree × ℕ) Stop) → Told tokens (type_with room (deeper_type room)) at o → Told tokens (type room) at o
type_is tokens zero at o h = h
type_is tokens (suc room) at o h = h

pub type_by : (room : ℕ) {tokens : List Token} {at : ℕ} {o : Result (TypeTree × ℕ) Stop} → Told tokens (type_with room (deeper_type room)) at o → Told tokens (type room) at o
type_by room {tokens = tokens} {at = at} {o = o} h = type_is tokens room at o h

pair_moves : (room : ℕ) → Moves (pair room)
pair_moves zero = inl (inr (λ i. inl tt))
pair_moves (suc room) = inl (inl tt)

-- so many pairs were read
pub record Counted (tokens : List Token) (room at count end : ℕ) : Type 0 where
  pub items : List (Unit {0})
  pub so_far : SoFar tokens (next_sign OpenBracket) (pair room) at items end
  pub is : count ≡ length items
  pub low : count ≤ end

pub counted_none : {tokens : List Token} {room at : ℕ} → Counted tokens room at 0 at
counted_none {at = at} = record { items = []; so_far = begun; is = refl; low = omega arith }

pub pair_beyond : (room : ℕ) {tokens : List Token} {end after : ℕ} {x : Unit {0}} → Told tokens (pair room) end (Ok (x, after)) → end < after
pair_beyond room h = beyond (pair_moves room) h

pub pair_nearer : (room : ℕ) {tokens : List Token} {end after : ℕ} {x : Unit {0}} → Told tokens (pair room) end (Ok (x, after)) → length tokens - after < length tokens - end
pair_nearer room h = nearer (pair_moves room) h

pub counted_more : {tokens : List Token} {room at count end after : ℕ} {x : Unit {0}} → Counted tokens room at count end → next_sign OpenBracket (seen tokens) end → Told tokens (pair room) end (Ok (x, after)) → Counted tokens room at (count + 1) after
counted_more {room = room} {x = x} c t h =
    let b = pair_beyond room h in let l = c.low in let i = c.is in let a = length-append c.items (x ∷ []) in
    record { items = c.items ++ x ∷ []; so_far = grown c.so_far t h; is = omega arith; low = omega arith }

pub counted_all : {tokens : List Token} {room at count end : ℕ} → Counted tokens room at count end → (next_sign OpenBracket (seen tokens) end → ⊥) → Told tokens (arrays room) at (Ok (count, end))
counted_all {tokens = tokens} {room = room} {at = at} {end = end} c t = subst (λ n. Told tokens (arrays room) at (Ok (n, end))) (sym c.is) (next (all_read c.so_far t) gives)

pub counted_broken : {tokens : List Token} {room at count end : ℕ} {e : Stop} → Counted tokens room at count end → next_sign OpenBracket (seen tokens) end → Told tokens (pair room) end (Err e) → Told tokens (arrays room) at (Err e)
counted_broken c t h = halt (broken c.so_far t h)
