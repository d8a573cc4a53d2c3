-- The faults of the steps as faults of a part.
use Rattle.schema_plans.specs.declared.plan_fault.SchemaFault.{SchemaFault}
use Rattle.schema_plans.specs.declared.plan_fault.SchemaFault.TheVariants as Schema
use Rattle.seed_rows.specs.declared.fault.SeedFault.{SeedFault}
use Rattle.seed_rows.specs.declared.fault.SeedFault.TheVariants as Seed
use Rattle.tenant_front.specs.declared.fault.FrontFault.{FrontFault}
use Rattle.tenant_front.specs.declared.fault.FrontFault.TheVariants.{Wrong, NoMemory}
use Rattle.tenant_sessions.specs.declared.users.SessionFault.{SessionFault}
use Rattle.tenant_sessions.specs.declared.users.SessionFault.TheVariants as Sessions
use Rattle.tenant_units.specs.declared.fault.UnitFault.{UnitFault}
use Rattle.tenant_units.specs.declared.fault.UnitFault.TheVariants as Units

abbrev pub of_schema : SchemaFault → FrontFault
of_schema (Schema.Wrong fault) = Wrong fault
of_schema Schema.NoMemory = NoMemory

abbrev pub of_sessions : SessionFault → FrontFault
of_sessions (Sessions.Wrong fault) = Wrong fault
of_sessions Sessions.NoMemory = NoMemory

abbrev pub of_units : UnitFault → FrontFault
of_units (Units.Wrong fault) = Wrong fault
of_units Units.NoMemory = NoMemory

abbrev pub of_seed : SeedFault → FrontFault
of_seed (Seed.Wrong fault) = Wrong fault
of_seed Seed.NoMemory = NoMemory
