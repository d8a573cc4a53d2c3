-- How the end of a type of any depth is found: which types are still open, and what is due.
use Rattle.std.specs.Prelude.{◌≡◌, ◌+◌, ◌<◌, ◌≤◌, ◌⊎◌, ℕ, List, [], ◌∷◌, Bool, true, false, Option, length}
use Rattle.apex_lexer.specs.Reading.{Shown}
use Rattle.apex_lexer.specs.declared.token.Sign.TheVariants.{Comma, More}
use Rattle.apex_syntax.specs.declared.word.Word.{Word}
use Rattle.token_grammar.specs.declared.read.Names.TheVariants.{InCode}
use Rattle.token_grammar.specs.Notation.{Reads}
use Rattle.token_grammar.specs.Tokens.{name, next_sign}
use Rattle.apex_parse_leaf.specs.Types.{IsType, member, arrays}
use Rattle.apex_parse_leaf.specs.declared.ends.Next.{Next}
use Rattle.apex_parse_leaf.specs.declared.ends.Next.TheVariants.{Due, Behind, Nothing}

-- a name, and one behind a dot, stand between two places
pub record IsHead (tokens : List Shown) (at end : ℕ) : Type 0 where
  pub word : Word
  pub middle : ℕ
  pub other : Option Word
  pub names : Reads tokens (name InCode) at word middle
  pub has_member : Reads tokens member middle other end

-- pairs of `[` and `]` do, in any number, and no `[` behind them
pub record ArePairs (tokens : List Shown) (at end : ℕ) : Type 0 where
  pub count : ℕ
  pub reads : Reads tokens (arrays 1) at count end

-- a `>` and pairs
pub record IsShut (tokens : List Shown) (at end : ℕ) : Type 0 where
  pub shuts : next_sign More tokens at
  pub pairs : ArePairs tokens (at + 1) end

-- a `,`, a type, a `>` and pairs
pub record IsSecond (tokens : List Shown) (at end : ℕ) : Type 0 where
  pub comma : next_sign Comma tokens at
  pub middle : ℕ
  pub is_type : IsType tokens (at + 1) middle
  pub shut : IsShut tokens middle end

-- what closes a type between `<` and `>`; the mark says that its comma stands before this
abbrev pub IsClose : Bool → List Shown → ℕ → ℕ → Type 0
IsClose true tokens at end = IsShut tokens at end
IsClose false tokens at end = IsShut tokens at end ⊎ IsSecond tokens at end

-- behind a type the types that are open close one after the other, the innermost first
abbrev pub Closes : List Shown → List Bool → ℕ → ℕ → Type 0
Closes tokens [] at end = end ≡ at
Closes tokens (second ∷ levels) at end = (middle : ℕ) × IsClose second tokens at middle × Closes tokens levels middle end

-- the whole type ends there
abbrev pub Goes : List Shown → Next → List Bool → ℕ → Type 0
Goes tokens (Due at) levels end = (middle : ℕ) × IsType tokens at middle × Closes tokens levels middle end
Goes tokens (Behind at) levels end = Closes tokens levels at end
Goes tokens Nothing levels end = ⊥

-- it ends at the same places as before
pub record GoesOn (tokens : List Shown) (before : Next) (levels : List Bool) (after : Next) (still : List Bool) : Type 0 where
  pub on : (end : ℕ) → Goes tokens before levels end → Goes tokens after still end
  pub back : (end : ℕ) → Goes tokens after still end → Goes tokens before levels end

-- what comes next comes behind a place
abbrev pub IsLater : ℕ → ℕ → Next → Type 0
IsLater size at (Due next) = (at < next) × (next ≤ size)
IsLater size at (Behind next) = (at < next) × (next ≤ size)
IsLater size at Nothing = Unit {0}

-- one place where it ends, and no other, or none
abbrev pub IsEnd : List Shown → ℕ → Option ℕ → Type 0
IsEnd tokens at (Option.Some end) = IsType tokens at end × ((other : ℕ) → IsType tokens at other → other ≡ end)
IsEnd tokens at Option.None = (end : ℕ) → IsType tokens at end → ⊥
