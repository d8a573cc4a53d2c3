-- How far a role stands above others (docs/platform.md, "Sharing").
use Rattle.std.specs.Prelude.{◌≡◌, ◌≤◌, ◌<◌, ◌+◌, ◌-◌, ℕ, zero, suc, true, false, cond, nat_lt, List, length, slice_get, Option, None, Some}
use Rattle.apex_schema.specs.declared.schema.Role.{Role}
use Rattle.row_meaning.specs.Accesses.{is_above}
use Rattle.row_access.specs.declared.ranks.Rank.{Rank}
use Rattle.row_access.specs.declared.ranks.Rank.TheVariants.{After, Never, Far}

-- the wanted role is the one after so many steps up, and not before
pub record Stands (roles : List Role) (wanted k from : ℕ) : Type 0 where
  pub within : k ≤ length roles
  pub before : (n : ℕ) → n < k → is_above n roles from wanted ≡ false
  pub behind : (n : ℕ) → is_above (k + n) roles from wanted ≡ true

-- what a rank of a role says of a wanted one
abbrev pub Tells : List Role → ℕ → Rank → ℕ → Type 0
Tells roles wanted (After k) from = Stands roles wanted k from
Tells roles wanted Never from = (n : ℕ) → is_above n roles from wanted ≡ false
Tells roles wanted Far from = is_above (length roles) roles from wanted ≡ false

abbrev pub flat : Option (Option Rank) → Option Rank
flat None = None
flat (Some r) = r

-- the rank of a role, where it is known
abbrev pub known_at : List (Option Rank) → ℕ → Option Rank
known_at ranks role = flat (slice_get ranks role)

abbrev pub TellsIf : List Role → ℕ → Option Rank → ℕ → Type 0
TellsIf roles wanted None from = Unit {0}
TellsIf roles wanted (Some r) from = Tells roles wanted r from

-- each rank that is known is right
abbrev pub AllTell : List Role → ℕ → List (Option Rank) → Type 0
AllTell roles wanted ranks = (from : ℕ) → TellsIf roles wanted (known_at ranks from) from

-- the same, where a role is wanted
abbrev pub AllTellOf : List Role → Option ℕ → List (Option Rank) → Type 0
AllTellOf roles None ranks = Unit {0}
AllTellOf roles (Some wanted) ranks = AllTell roles wanted ranks

-- the rank of a role from which so many steps lead to one that the wanted role stands so many more above, among so many roles
abbrev pub later : ℕ → ℕ → ℕ → Rank
later roles steps more = cond (nat_lt (roles - steps) more) Far (After (steps + more))

-- the rank of the role above one with this rank
abbrev pub lowered : ℕ → Option Rank
lowered zero = None
lowered (suc k) = Some (After k)

abbrev pub rank_above : Rank → Option Rank
rank_above (After k) = lowered k
rank_above Never = Some Never
rank_above Far = None
