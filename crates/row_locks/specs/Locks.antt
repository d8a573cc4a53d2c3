-- The rows that sessions of tenants hold (docs/platform.md, "Locks").
use Rattle.std.specs.Prelude.{ℕ, Bool, List, Option}
use Rattle.std.specs.Map.{lookup}
use Rattle.row_locks.specs.declared.place.Place.{Place}
use Rattle.row_locks.specs.contracts.place.PlacePartialEq.TheImpl.{ghosts}

-- tenants and Ids are equal
abbrev pub place_eq : Place → Place → Bool
place_eq = ghosts.eq

-- rows with the sessions that hold them
abbrev pub Locked : Type 0
Locked = List (Place × ℕ)

-- they, and for how many rows more there is room
pub record Held : Type 0 where
  pub locks : Locked
  pub room : ℕ

-- the session that holds a row of a tenant
abbrev pub holder_of : ℕ → Locked → List ℕ → Option ℕ
holder_of tenant locks id = lookup (place_eq (record { tenant = tenant; id = id })) locks
