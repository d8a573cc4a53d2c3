-- What a shard leaves (docs/platform.md, "Shards").
use Rattle.std.specs.Prelude.{◌≡◌, ℕ, true, List, [], ◌∷◌, Option, None, Some}
use Rattle.std.specs.BTreeMap.{is_at}
use Rattle.std.specs.Map.{lookup}
use Rattle.std.specs.Option.{is_some}
use Rattle.std.specs.Ordering.{nat_cmp}
use Rattle.apex_requests.specs.declared.reply.Event.{Event}
use Rattle.tenant_shards.specs.declared.finish.Finished.{Finished}
use Rattle.tenant_shards.specs.declared.kept.Kept.{Kept}
use Rattle.tenant_shards.specs.Shards.{IsLegal, Shared}
use Rattle.tenant_shards.specs.Tenants.{Tenants, kept_at, trail_in}

-- ---- trails by the numbers of their tenants

abbrev pub Trails : Type 0
Trails = List (ℕ × List Event)

abbrev pub or_none : Option (List Event) → List Event
or_none None = []
or_none (Some trail) = trail

abbrev pub trail_at : ℕ → Trails → List Event
trail_at tenant trails = or_none (lookup (is_at (nat_cmp tenant)) trails)

abbrev pub IsThere : ℕ → Trails → Type 0
IsThere tenant trails = is_some (lookup (is_at (nat_cmp tenant)) trails) ≡ true

-- the part of a tenant, with its trail
pub record IsLeft (all : Tenants) (trails : Trails) (tenant : ℕ) (f : Finished) : Type 0 where
  pub kept : Kept
  pub is_kept : kept_at tenant all ≡ Some kept
  pub number : f.tenant ≡ tenant
  pub part : f.part ≡ kept.part
  pub trail : f.trail ≡ trail_at tenant trails

abbrev pub AreLeft : Tenants → Trails → List ℕ → List Finished → Type 0
AreLeft all trails [] [] = Unit {0}
AreLeft all trails (n ∷ ns) (f ∷ fs) = IsLeft all trails n f × AreLeft all trails ns fs
AreLeft all trails _ _ = ⊥

-- ---- of a shard

-- the part of a tenant with its trail, which is legal
pub record IsFinished (shard : Shared) (tenant : ℕ) (f : Finished) : Type 0 where
  pub kept : Kept
  pub is_kept : kept_at tenant shard.tenants ≡ Some kept
  pub number : f.tenant ≡ tenant
  pub part : f.part ≡ kept.part
  pub trail : f.trail ≡ trail_in tenant shard.entries
  pub legal : IsLegal tenant kept shard

abbrev pub AreFinished : Shared → List ℕ → List Finished → Type 0
AreFinished shard [] [] = Unit {0}
AreFinished shard (n ∷ ns) (f ∷ fs) = IsFinished shard n f × AreFinished shard ns fs
AreFinished shard _ _ = ⊥
