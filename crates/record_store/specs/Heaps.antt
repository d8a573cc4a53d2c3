-- The rows of tenants, by the numbers of these.
use Rattle.std.specs.Prelude.{◌≡◌, ℕ, true, List, [], Option, None, Some}
use Rattle.std.specs.Option.{is_some}
use Rattle.std.specs.Ordering.{nat_cmp}
use Rattle.std.specs.Map.{lookup}
use Rattle.std.specs.BTreeMap.{is_at}
use Rattle.apex_rows.specs.declared.row.Row.{Row}
use Rattle.record_store.specs.Places.{Places, rows_of}

abbrev pub Heap : Type 0
Heap = List (ℕ × Places)

abbrev pub or_nothing : Option Places → Places
or_nothing None = []
or_nothing (Some places) = places

-- the places of a tenant
abbrev pub places_of : ℕ → Heap → Places
places_of tenant heap = or_nothing (lookup (is_at (nat_cmp tenant)) heap)

-- a tenant's rows, in the order of their Ids
abbrev pub rows_in : ℕ → Heap → List Row
rows_in tenant heap = rows_of (places_of tenant heap)

abbrev pub SamePlaces : Heap → Heap → Type 0
SamePlaces before after = (tenant : ℕ) → places_of tenant after ≡ places_of tenant before

abbrev pub SameRows : Heap → Heap → Type 0
SameRows before after = (tenant : ℕ) → rows_in tenant after ≡ rows_in tenant before

-- a tenant has its rows, though there may be none
abbrev pub IsThere : ℕ → Heap → Type 0
IsThere tenant heap = is_some (lookup (is_at (nat_cmp tenant)) heap) ≡ true

-- the rows of tenants, and how many questions were answered
pub record Stored : Type 0 where
  pub tenants : Heap
  pub asked : ℕ
