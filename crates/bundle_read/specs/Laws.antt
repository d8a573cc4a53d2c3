-- What is to be shown of bundles.
use Rattle.std.specs.Prelude.{ℕ, ◌≤◌, ◌≢◌, List, length, All, Ok}
use Rattle.std.specs.List.{AllPairs}
use Rattle.bundle_read.specs.declared.entries.Bundle.{Bundle}
use Rattle.bundle_read.specs.declared.entries.SessionEntry.{SessionEntry}
use Rattle.bundle_read.specs.declared.entries.TenantPlan.{TenantPlan}
use Rattle.bundle_read.specs.Bundles.{IsRead}

abbrev pub HasFewRequests : SessionEntry → Type 0
HasFewRequests s = length s.requests ≤ 10000

-- no more users and sessions than there may be, and no session with more requests than there may be
pub record IsBounded (t : TenantPlan) : Type 0 where
  pub users : length t.schema.users ≤ 1000000
  pub sessions : length t.sessions ≤ 10000
  pub requests : All HasFewRequests t.sessions

abbrev pub AreBounded : List TenantPlan → Type 0
AreBounded ts = All IsBounded ts

abbrev pub BundlesAreBounded : Type 0
BundlesAreBounded = (bytes : List ℕ) (bundle : Bundle) → IsRead bytes (Ok bundle) → AreBounded bundle.tenants

abbrev pub BundlesAreShort : Type 0
BundlesAreShort = (bytes : List ℕ) (bundle : Bundle) → IsRead bytes (Ok bundle) → length bundle.tenants ≤ 1000

-- no tenant has the name of a later one
abbrev pub HaveOwnNames : List TenantPlan → Type 0
HaveOwnNames ts = AllPairs (λ (s t : TenantPlan). s.name ≢ t.name) ts

abbrev pub NamesDiffer : Type 0
NamesDiffer = (bytes : List ℕ) (bundle : Bundle) → IsRead bytes (Ok bundle) → HaveOwnNames bundle.tenants
