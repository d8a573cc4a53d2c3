-- What a look at a parenthesis tells of a cast.
use Rattle.std.specs.Prelude.{◌≡◌, ◌+◌, ℕ, Bool, true, false, List, Option, None, Some, Result, Ok, Err, IfOk, MatchBool}
use Rattle.std.proofs.Common.{inl, inr, subst, ⊎_elim}
use Rattle.apex_lexer.specs.Reading.{Shown}
use Rattle.apex_lexer.specs.declared.token.Sign.TheVariants.{OpenParen}
use Rattle.token_grammar.specs.Tokens.{next_sign}
use Rattle.apex_parse_leaf.specs.Ends.{IsEnd}
use Rattle.apex_parse_leaf.specs.Casts.{Primitive, SystemPrimitive, CastEnd, TypeCast, IsCastType, next_cast}

pub other_some : {tokens : List Shown} {at end : ℕ} (b : Bool) → IsEnd tokens at (Some end) → MatchBool b (CastEnd tokens end) (CastEnd tokens end → ⊥) → MatchBool b (TypeCast tokens at) (TypeCast tokens at → ⊥)
other_some {end = end} true h m = record { end = end; is_type = h.0; ends = m }
other_some {tokens = tokens} false h m = λ o. m (subst (CastEnd tokens) (h.1 o.end o.is_type) o.ends)

pub other_none : {tokens : List Shown} {at : ℕ} → IsEnd tokens at None → TypeCast tokens at → ⊥
other_none h o = h o.end o.is_type

third : (tokens : List Shown) (at : ℕ) (b : Bool) → (Primitive tokens at → ⊥) → (SystemPrimitive tokens at → ⊥) → MatchBool b (TypeCast tokens at) (TypeCast tokens at → ⊥) → MatchBool b (IsCastType tokens at) (IsCastType tokens at → ⊥)
third tokens at true p s m = inr (inr m)
third tokens at false p s m = λ t. ⊎_elim p (λ u. ⊎_elim s m u) t

pub by_type : (tokens : List Shown) (at : ℕ) {E : Type 0} (r : Result Bool E) → (Primitive tokens at → ⊥) → (SystemPrimitive tokens at → ⊥) → IfOk r (λ b. MatchBool b (TypeCast tokens at) (TypeCast tokens at → ⊥)) → IfOk r (λ b. MatchBool b (IsCastType tokens at) (IsCastType tokens at → ⊥))
by_type tokens at (Ok b) p s m = third tokens at b p s m
by_type tokens at (Err e) p s m = m

open_at : (tokens : List Shown) (at : ℕ) (b : Bool) → next_sign OpenParen tokens at → MatchBool b (IsCastType tokens (at + 1)) (IsCastType tokens (at + 1) → ⊥) → MatchBool b (next_cast tokens at) (next_cast tokens at → ⊥)
open_at tokens at true k m = (k, m)
open_at tokens at false k m = λ c. m c.1

pub by_paren : (tokens : List Shown) (at : ℕ) {E : Type 0} (r : Result Bool E) → next_sign OpenParen tokens at → IfOk r (λ b. MatchBool b (IsCastType tokens (at + 1)) (IsCastType tokens (at + 1) → ⊥)) → IfOk r (λ b. MatchBool b (next_cast tokens at) (next_cast tokens at → ⊥))
by_paren tokens at (Ok b) k m = open_at tokens at b k m
by_paren tokens at (Err e) k m = m
