-- A list of turns byte by byte.
use Rattle.std.specs.Prelude.{◌≡◌, ℕ, ◌+◌, ◌*◌, ◌-◌, ◌&&◌, cond, eqb, nat_lt, List, [], ◌∷◌, ◌++◌, Option, None, Some}
use Rattle.std.specs.Char.{is_ascii_digit}
use Rattle.turn_lists.specs.declared.fault.TurnsFault.{TurnsFault}
use Rattle.turn_lists.specs.declared.list.At.{At}
use Rattle.turn_lists.specs.declared.list.At.TheVariants.{Tenant, TenantNumber, Session, SessionNumber, Nowhere}
use Rattle.turn_lists.specs.declared.turn.Turn.{Turn}
use Rattle.turn_lists.specs.Lists.{IsNone, Lists}

abbrev pub first_digit : ℕ → Option ℕ
first_digit b = cond (is_ascii_digit b) (Some (b - 48)) None

abbrev pub more_digits : ℕ → ℕ → Option ℕ
more_digits n b = cond (nat_lt 0 n && (nat_lt n 100000000 && is_ascii_digit b)) (Some (n * 10 + (b - 48))) None

abbrev pub or_at : (ℕ → At) → Option ℕ → At → At
or_at at None other = other
or_at at (Some n) other = at n

abbrev pub behind_tenant : ℕ → ℕ → At
behind_tenant n b = or_at TenantNumber (more_digits n b) (cond (eqb b 46) (Session n) Nowhere)

abbrev pub behind_session : ℕ → ℕ → ℕ → At
behind_session t n b = or_at (SessionNumber t) (more_digits n b) (cond (eqb b 44) Tenant Nowhere)

abbrev pub next : At → ℕ → At
next Tenant b = or_at TenantNumber (first_digit b) Nowhere
next (TenantNumber n) b = behind_tenant n b
next (Session t) b = or_at (SessionNumber t) (first_digit b) Nowhere
next (SessionNumber t n) b = behind_session t n b
next Nowhere b = Nowhere

abbrev pub reads : At → List ℕ → At
reads at [] = at
reads at (b ∷ bs) = reads (next at b) bs

-- the turn that a comma ends
abbrev pub turn_at : At → List Turn
turn_at (SessionNumber t n) = record { tenant = t; session = n } ∷ []
turn_at _ = []

abbrev pub ended : At → ℕ → List Turn
ended at b = cond (eqb b 44) (turn_at at) []

abbrev pub all_ended : At → List ℕ → List Turn
all_ended at [] = []
all_ended at (b ∷ bs) = ended at b ++ all_ended (next at b) bs

-- what `-` isn't
abbrev pub IsRead : List ℕ → List Turn → Type 0
IsRead word turns = Lists word turns

abbrev pub IsRefused : List ℕ → TurnsFault → Type 0
IsRefused word fault = IsNone (λ turns. (turns ≡ [] → ⊥) × Lists word turns) fault

-- a word is no such list
abbrev pub AreNone : List ℕ → Type 0
AreNone word = (turns : List Turn) → (turns ≡ [] → ⊥) → Lists word turns → ⊥

abbrev pub IsList : List ℕ → Type 0
IsList word = (turns : List Turn) × Lists word turns

abbrev pub IsNoList : List ℕ → Type 0
IsNoList word = (turns : List Turn) → Lists word turns → ⊥
