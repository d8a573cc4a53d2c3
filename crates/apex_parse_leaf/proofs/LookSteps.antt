-- What a look ahead comes to, step by step.
use Rattle.std.specs.Prelude.{◌≡◌, ◌+◌, ◌-◌, ◌<◌, ◌≤◌, ◌⊎◌, ℕ, suc, List, [], ◌∷◌, Bool, true, false, Option, Some, None, Err, length, slice_get}
use Rattle.std.proofs.Common.{arith, refl, sym, subst, ◌∙◌, inl, inr, ⊎_elim, true≢false}
use Rattle.std.proofs.lemmas.Option.{slice_get_within}
use Rattle.apex_lexer.specs.Reading.{Shown}
use Rattle.apex_lexer.specs.declared.token.Sign.{Sign}
use Rattle.apex_lexer.specs.declared.token.Sign.TheVariants.{Comma, Less, More}
use Rattle.apex_lexer.specs.declared.token.Token.{Token}
use Rattle.token_grammar.specs.declared.fault.ParseWord.{ParseWord}
use Rattle.token_grammar.specs.declared.fault.Stop.TheVariants.{At}
use Rattle.token_grammar.specs.declared.read.Names.TheVariants.{InCode}
use Rattle.token_grammar.specs.Notation.{Reads, seen}
use Rattle.token_grammar.specs.Readings.{Told}
use Rattle.token_grammar.proofs.Laws.{apart}
use Rattle.token_grammar.specs.Tokens.{name, next_sign}
use Rattle.token_grammar.proofs.Moves.{reached, moved}
use Rattle.apex_parse_leaf.specs.Types.{arrays, member, IsType}
use Rattle.apex_parse_leaf.specs.Ends.{IsHead, ArePairs, IsShut, IsSecond, IsClose, Closes, Goes, GoesOn, IsLater, IsEnd}
use Rattle.apex_parse_leaf.specs.declared.ends.Next.{Next}
use Rattle.apex_parse_leaf.specs.declared.ends.Next.TheVariants.{Due, Behind, Nothing}
use Rattle.apex_parse_leaf.proofs.Deep.{Inside, pairs_one, made, inside, plain, with_args, sign_there}

-- ---- brackets

pub no_arrays : {tokens : List Token} {at place : ℕ} {word : ParseWord} → Told tokens (arrays 1) at (Err (At word place)) → (end : ℕ) → ArePairs (seen tokens) at end → ⊥
no_arrays {tokens = tokens} {at = at} {place = place} {word = word} h end ps = apart (seen tokens) (arrays 1) at ps.count end word place ps.reads h.by

-- ---- where it goes on

opens_on : (tokens : List Shown) (p m end : ℕ) (levels : List Bool) → next_sign Less tokens p → Inside tokens p m → Closes tokens levels m end → Goes tokens (Due (p + 1)) (false ∷ levels) end
opens_on tokens p m end levels c (inl a) k = absurd (a.0 c)
opens_on tokens p m end levels c (inr a) k = (a.1.0, a.1.1, (m, a.1.2, k))

pub opens : {tokens : List Shown} {at p : ℕ} {levels : List Bool} → IsHead tokens at p → next_sign Less tokens p → GoesOn tokens (Due at) levels (Due (p + 1)) (false ∷ levels)
opens {tokens = tokens} {p = p} {levels = levels} h c = record {
  on = λ end (m, t, k). opens_on tokens p m end levels c (inside tokens h t) k;
  back = λ end (q, t, (m, j, k)). (m, with_args tokens h c t j, k);
}

ends_on : (tokens : List Shown) (p e m end : ℕ) (levels : List Bool) → (next_sign Less tokens p → ⊥) → ArePairs tokens p e → Inside tokens p m → Closes tokens levels m end → Closes tokens levels e end
ends_on tokens p e m end levels nay ps (inl a) k = subst (λ z. Closes tokens levels z end) (pairs_one tokens a.1 ps) k
ends_on tokens p e m end levels nay ps (inr a) k = absurd (nay a.0)

pub ends : {tokens : List Shown} {at p e : ℕ} {levels : List Bool} → IsHead tokens at p → (next_sign Less tokens p → ⊥) → ArePairs tokens p e → GoesOn tokens (Due at) levels (Behind e) levels
ends {tokens = tokens} {p = p} {e = e} {levels = levels} h nay ps = record {
  on = λ end (m, t, k). ends_on tokens p e m end levels nay ps (inside tokens h t) k;
  back = λ end k. (e, plain tokens h nay ps, k);
}

neither : (tokens : List Shown) (p m : ℕ) → (next_sign Less tokens p → ⊥) → ((e : ℕ) → ArePairs tokens p e → ⊥) → Inside tokens p m → ⊥
neither tokens p m nay none (inl a) = none m a.1
neither tokens p m nay none (inr a) = nay a.0

pub no_pairs : {tokens : List Shown} {at p : ℕ} {levels still : List Bool} → IsHead tokens at p → (next_sign Less tokens p → ⊥) → ((e : ℕ) → ArePairs tokens p e → ⊥) → GoesOn tokens (Due at) levels Nothing still
no_pairs {tokens = tokens} {p = p} h nay none = record { on = λ end (m, t, k). neither tokens p m nay none (inside tokens h t); back = λ end k. absurd k }

pub no_head : {tokens : List Shown} {at : ℕ} {levels still : List Bool} → ((p : ℕ) → IsHead tokens at p → ⊥) → GoesOn tokens (Due at) levels Nothing still
no_head {tokens = tokens} none = record { on = λ end (m, t, k). none (made tokens t).middle (made tokens t).head; back = λ end k. absurd k }

two_signs : (tokens : List Shown) (at : ℕ) → next_sign More tokens at → next_sign Comma tokens at → ⊥
two_signs tokens at a b = cc

shut_ends : (tokens : List Shown) (second : Bool) (at e m : ℕ) → next_sign More tokens at → ArePairs tokens (at + 1) e → IsClose second tokens at m → m ≡ e
shut_ends tokens true at e m a ps s = pairs_one tokens s.pairs ps
shut_ends tokens false at e m a ps (inl s) = pairs_one tokens s.pairs ps
shut_ends tokens false at e m a ps (inr s) = absurd (two_signs tokens at a s.comma)

shut_by : (tokens : List Shown) (second : Bool) (at e : ℕ) → IsShut tokens at e → IsClose second tokens at e
shut_by tokens true at e s = s
shut_by tokens false at e s = inl s

pub shuts : {tokens : List Shown} {at e : ℕ} {levels : List Bool} (second : Bool) → next_sign More tokens at → ArePairs tokens (at + 1) e → GoesOn tokens (Behind at) (second ∷ levels) (Behind e) levels
shuts {tokens = tokens} {at = at} {e = e} {levels = levels} second a ps = record {
  on = λ end (m, s, k). subst (λ z. Closes tokens levels z end) (shut_ends tokens second at e m a ps s) k;
  back = λ end k. (e, shut_by tokens second at e (record { shuts = a; pairs = ps }), k);
}

shut_pairs : (tokens : List Shown) (second : Bool) (at m : ℕ) → next_sign More tokens at → IsClose second tokens at m → ArePairs tokens (at + 1) m
shut_pairs tokens true at m a s = s.pairs
shut_pairs tokens false at m a (inl s) = s.pairs
shut_pairs tokens false at m a (inr s) = absurd (two_signs tokens at a s.comma)

pub shuts_not : {tokens : List Shown} {at : ℕ} {levels still : List Bool} (second : Bool) → next_sign More tokens at → ((e : ℕ) → ArePairs tokens (at + 1) e → ⊥) → GoesOn tokens (Behind at) (second ∷ levels) Nothing still
shuts_not {tokens = tokens} {at = at} second a none = record { on = λ end (m, s, k). none m (shut_pairs tokens second at m a s); back = λ end k. absurd k }

second_on : (tokens : List Shown) (at m end : ℕ) (levels : List Bool) → next_sign Comma tokens at → IsClose false tokens at m → Closes tokens levels m end → Goes tokens (Due (at + 1)) (true ∷ levels) end
second_on tokens at m end levels c (inl a) k = absurd (two_signs tokens at a.shuts c)
second_on tokens at m end levels c (inr a) k = (a.middle, a.is_type, (m, a.shut, k))

pub goes_second : {tokens : List Shown} {at : ℕ} {levels : List Bool} (second : Bool) → second ≡ false → next_sign Comma tokens at → GoesOn tokens (Behind at) (second ∷ levels) (Due (at + 1)) (true ∷ levels)
goes_second {tokens = tokens} {at = at} {levels = levels} false e c = record {
  on = λ end (m, s, k). second_on tokens at m end levels c s k;
  back = λ end (q, t, (m, s, k)). (m, inr (record { comma = c; middle = q; is_type = t; shut = s }), k);
}
goes_second true e c = absurd (true≢false e)

pub only_shuts : {tokens : List Shown} {at : ℕ} {levels still : List Bool} (second : Bool) → second ≡ true → (next_sign More tokens at → ⊥) → GoesOn tokens (Behind at) (second ∷ levels) Nothing still
only_shuts true e nay = record { on = λ end (m, s, k). nay s.shuts; back = λ end k. absurd k }
only_shuts false e nay = absurd (true≢false (sym e))

nor : (tokens : List Shown) (at m : ℕ) → (next_sign More tokens at → ⊥) → (next_sign Comma tokens at → ⊥) → IsClose false tokens at m → ⊥
nor tokens at m nay never (inl a) = nay a.shuts
nor tokens at m nay never (inr a) = never a.comma

pub nor_second : {tokens : List Shown} {at : ℕ} {levels still : List Bool} (second : Bool) → second ≡ false → (next_sign More tokens at → ⊥) → (next_sign Comma tokens at → ⊥) → GoesOn tokens (Behind at) (second ∷ levels) Nothing still
nor_second {tokens = tokens} {at = at} false e nay never = record { on = λ end (m, s, k). nor tokens at m nay never s; back = λ end k. absurd k }
nor_second true e nay never = absurd (true≢false e)

-- ---- places

sign_within : (tokens : List Shown) (s : Sign) (at : ℕ) → next_sign s tokens at → at < length tokens
sign_within tokens s at c = let h = sign_there tokens s at c in slice_get_within tokens at h.0 h.1

record Ahead (tokens : List Shown) (at end : ℕ) : Type 0 where
  beyond : at < end
  within : end ≤ length tokens

head_ahead : {tokens : List Shown} {at end : ℕ} → IsHead tokens at end → Ahead tokens at end
head_ahead {tokens = tokens} {at = at} {end = end} h =
    let a = moved tokens (name InCode) at h.word h.middle tt h.names in
    let b = reached tokens member h.middle h.other end h.has_member in
    let c = a.beyond in let d = a.inside in let e = b.forth in
    record { beyond = omega arith; within = ⊎_elim (λ f. omega arith) (λ f. f) b.within }

pairs_ahead : {tokens : List Shown} {at p end : ℕ} → at < p → p ≤ length tokens → ArePairs tokens p end → Ahead tokens at end
pairs_ahead {tokens = tokens} {p = p} {end = end} l w ps =
    let b = reached tokens (arrays 1) p ps.count end ps.reads in
    let e = b.forth in
    record { beyond = omega arith; within = ⊎_elim (λ f. omega arith) (λ f. f) b.within }

pub later_ends : {tokens : List Shown} {at p e : ℕ} → IsHead tokens at p → ArePairs tokens p e → IsLater (length tokens) at (Behind e)
later_ends h ps = let a = head_ahead h in let b = pairs_ahead a.beyond a.within ps in (b.beyond, b.within)

pub later_opens : (tokens : List Shown) {at p : ℕ} → IsHead tokens at p → next_sign Less tokens p → IsLater (length tokens) at (Due (p + 1))
later_opens tokens {p = p} h c = let a = head_ahead h in let b = a.beyond in let w = sign_within tokens Less p c in (omega arith, omega arith)

pub later_shuts : (tokens : List Shown) {at e : ℕ} → next_sign More tokens at → ArePairs tokens (at + 1) e → IsLater (length tokens) at (Behind e)
later_shuts tokens {at = at} c ps =
    let w = sign_within tokens More at c in
    let b = pairs_ahead {tokens = tokens} {at = at} {p = at + 1} (omega arith) (omega arith) ps in (b.beyond, b.within)

pub later_second : (tokens : List Shown) {at : ℕ} → next_sign Comma tokens at → IsLater (length tokens) at (Due (at + 1))
later_second tokens {at = at} c = let w = sign_within tokens Comma at c in (omega arith, omega arith)

-- ---- the whole

pub begins : {tokens : List Shown} {at : ℕ} → GoesOn tokens (Due at) [] (Due at) []
begins = record { on = λ end h. h; back = λ end h. h }

pub then_on : {tokens : List Shown} {a b c : Next} {x y z : List Bool} → GoesOn tokens a x b y → GoesOn tokens b y c z → GoesOn tokens a x c z
then_on p q = record { on = λ end h. q.on end (p.on end h); back = λ end h. p.back end (q.back end h) }

pub no_end : {tokens : List Shown} {at : ℕ} {levels : List Bool} → GoesOn tokens (Due at) [] Nothing levels → IsEnd tokens at None
no_end g = λ end t. g.on end (end, t, refl)

pub one_end : {tokens : List Shown} {at end : ℕ} {levels : List Bool} → levels ≡ [] → GoesOn tokens (Due at) [] (Behind end) levels → IsEnd tokens at (Some end)
one_end {tokens = tokens} {at = at} {end = end} e g =
    let h = subst (λ o. GoesOn tokens (Due at) [] (Behind end) o) e g in
    let b = h.back end refl in
    (subst (λ z. IsType tokens at z) (sym b.2) b.1, λ other t. h.on other (other, t, refl))

-- how much is left of the tokens
abbrev pub left : ℕ → Next → ℕ
left size (Due at) = suc (size - at)
left size (Behind at) = suc (size - at)
left size Nothing = 0

pub less_left : (size at : ℕ) (after : Next) → IsLater size at after → left size after < suc (size - at)
less_left size at (Due next) h = let a = h.0 in let b = h.1 in omega arith
less_left size at (Behind next) h = let a = h.0 in let b = h.1 in omega arith
less_left size at Nothing h = omega arith
