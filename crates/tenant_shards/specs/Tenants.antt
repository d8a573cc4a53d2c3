-- The tenants of a shard (docs/platform.md, "Shards").
use Rattle.std.specs.Prelude.{◌≡◌, ℕ, eqb, false, List, [], ◌∷◌, filter, map, Option, None, Some}
use Rattle.std.specs.List.{list_any}
use Rattle.std.specs.Ordering.{nat_cmp}
use Rattle.std.specs.Map.{lookup}
use Rattle.std.specs.BTreeMap.{is_at}
use Rattle.apex_requests.specs.declared.reply.Event.{Event}
use Rattle.tenant_parts.specs.declared.part.TenantPart.{TenantPart}
use Rattle.legal_trails.specs.Legal.{Session}
use Rattle.tenant_shards.specs.declared.kept.Entry.{Entry}
use Rattle.tenant_shards.specs.declared.kept.Kept.{Kept}

abbrev pub Tenants : Type 0
Tenants = List (ℕ × Kept)

-- what is kept of a tenant, by its number
abbrev pub kept_at : ℕ → Tenants → Option Kept
kept_at tenant all = lookup (is_at (nat_cmp tenant)) all

abbrev pub sessions_in : Option Kept → List Session
sessions_in None = []
sessions_in (Some kept) = kept.sessions

-- the sessions of a tenant; none where it isn't there
abbrev pub sessions_at : ℕ → Tenants → List Session
sessions_at tenant all = sessions_in (kept_at tenant all)

abbrev pub part_of : Option Kept → Option TenantPart
part_of None = None
part_of (Some kept) = Some kept.part

abbrev pub part_at : ℕ → Tenants → Option TenantPart
part_at tenant all = part_of (kept_at tenant all)

-- the events of a tenant, in their order
abbrev pub trail_in : ℕ → List Entry → List Event
trail_in tenant entries = map (λ (e : Entry). e.event) (filter (λ (e : Entry). eqb e.tenant tenant) entries)

-- no number stands twice
abbrev pub Differ : List ℕ → Type 0
Differ [] = Unit {0}
Differ (n ∷ ns) = (list_any (eqb n) ns ≡ false) × Differ ns

-- each is there
abbrev pub AreKept : List ℕ → Tenants → Type 0
AreKept [] all = Unit {0}
AreKept (n ∷ ns) all = ((kept : Kept) × (kept_at n all ≡ Some kept)) × AreKept ns all
