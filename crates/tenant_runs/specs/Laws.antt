-- What is to be shown of parts.
use Rattle.bundle_read.specs.Laws.{IsBounded}
use Rattle.bundle_read.specs.declared.entries.TenantPlan.{TenantPlan}
use Rattle.tenant_parts.specs.declared.part.TenantPart.{TenantPart}
use Rattle.tenant_front.specs.Parts.{IsPart}
use Rattle.tenant_runs.specs.Tenants.{HasRoom}

abbrev pub PartsHaveRoom : Type 0
PartsHaveRoom = (plan : TenantPlan) (part : TenantPart) → IsPart plan part → IsBounded plan → HasRoom part
