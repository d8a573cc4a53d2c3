-- What a look ahead tells of a declaration.
use Rattle.std.specs.Prelude.{◌≡◌, ℕ, Bool, true, false, List, MatchBool}
use Rattle.std.proofs.Common.{sym, subst, true≢false}
use Rattle.apex_lexer.specs.Reading.{Shown}
use Rattle.token_grammar.specs.declared.read.Names.TheVariants.{InCode}
use Rattle.token_grammar.specs.Notation.{kind_at}
use Rattle.token_grammar.specs.Tokens.{is_name}
use Rattle.apex_parse_leaf.specs.Types.{IsType}
use Rattle.apex_parse_stmt.specs.Stmts.{TypedName, next_declared}

abbrev IsNamed : List Shown → ℕ → Type 0
IsNamed tokens end = is_name InCode (kind_at tokens end) ≡ true

pub typed : (tokens : List Shown) (at end : ℕ) (b : Bool) → IsType tokens at end × ((other : ℕ) → IsType tokens at other → other ≡ end) → MatchBool b (IsNamed tokens end) (IsNamed tokens end → ⊥) → MatchBool b (next_declared tokens at) (next_declared tokens at → ⊥)
typed tokens at end true h n = record { end = end; is_type = h.0; named = n }
typed tokens at end false h n = λ d. n (subst (IsNamed tokens) (h.1 d.end d.is_type) d.named)

pub untyped : (tokens : List Shown) (at : ℕ) → ((end : ℕ) → IsType tokens at end → ⊥) → next_declared tokens at → ⊥
untyped tokens at none d = none d.end d.is_type

pub declared : (tokens : List Shown) (at : ℕ) (b : Bool) → b ≡ true → MatchBool b (next_declared tokens at) (next_declared tokens at → ⊥) → next_declared tokens at
declared tokens at true e m = m
declared tokens at false e m = absurd (true≢false (sym e))

pub undeclared : (tokens : List Shown) (at : ℕ) (b : Bool) → b ≡ false → MatchBool b (next_declared tokens at) (next_declared tokens at → ⊥) → next_declared tokens at → ⊥
undeclared tokens at false e m = m
undeclared tokens at true e m = absurd (true≢false e)
