-- What a tenant of a bundle is, and its first fault (docs/formats.md, "Tenants").
use Rattle.std.specs.Prelude.{◌≡◌, ◌⊎◌, ℕ, List, [], map, slice_get, Option, None, Some, Result, Ok, Err}
use Rattle.fault_words.specs.declared.fault.Fault.{Fault}
use Rattle.apex_rows.specs.declared.row.Row.{Row}
use Rattle.apex_schema.specs.declared.schema.Schema.{Schema}
use Rattle.apex_syntax.specs.declared.unit.Unit.{Unit as Tree}
use Rattle.apex_types.specs.declared.fault.TypeFault.{TypeFault}
use Rattle.typed_program.specs.declared.program.Program.{Program}
use Rattle.apex_types.specs.Checks.{Gives, Wrong as WrongIn, checked, typed_units}
use Rattle.bundle_read.specs.declared.entries.TenantPlan.{TenantPlan}
use Rattle.bundle_read.specs.declared.entries.UnitPlan.{UnitPlan}
use Rattle.seed_rows.specs.Seeds.{IsOnlySeed, all_written, IsFirstFault as IsSeedFault}
use Rattle.tenant_parts.specs.declared.session.Session.{Session}
use Rattle.tenant_requests.specs.declared.open.OpenSession.{OpenSession}
use Rattle.tenant_requests.specs.Requests.{AreOpenSessions, AreClosedSessions}
use Rattle.tenant_schema.specs.Deployed.{IsDeployed, IsFault as IsSchemaFault}
use Rattle.tenant_sessions.specs.Users.{AreUsers, each_user, first_none, unknown}
use Rattle.tenant_units.specs.Faults.{Tells}
use Rattle.tenant_units.specs.Trees.{AreUnits, IsFirstFault as IsTextFault}
use Rattle.type_names.specs.declared.fault.TreeFault.{TreeFault}
use Rattle.typed_program.specs.declared.stmt.TypedStmt.{TypedStmt}
use Rattle.tenant_front.specs.declared.fault.FrontFault.{FrontFault}
use Rattle.tenant_front.specs.declared.fault.FrontFault.TheVariants.{Wrong, NoMemory}
use Rattle.tenant_parts.specs.declared.part.TenantPart.{TenantPart}

-- ---- the program

abbrev pub IsProgram : Schema → List Tree → List Tree → Program → Type 0
IsProgram schema units blocks program = checked schema.objects units blocks ≡ Gives program

-- the fault of a unit's code, at the unit's name
pub record IsToldOf (plans : List UnitPlan) (wrong : TypeFault) (fault : Fault) : Type 0 where
  pub unit : UnitPlan
  pub is_unit : slice_get plans wrong.unit ≡ Some unit
  pub tells : Tells unit.name unit.text wrong.fault.at wrong.fault.word fault

-- want of memory is free
abbrev pub IsTold : List UnitPlan → TypeFault → FrontFault → Type 0
IsTold plans wrong (Wrong fault) = IsToldOf plans wrong fault
IsTold plans wrong NoMemory = Unit {0}

-- the first fault of the code of all units
pub record IsCodeFault (schema : Schema) (plans : List UnitPlan) (units : List Tree) (fault : Fault) : Type 0 where
  pub wrong : TypeFault
  pub is_wrong : typed_units schema.objects units ≡ WrongIn wrong
  pub told : IsToldOf plans wrong fault

abbrev pub NoProgram : Schema → List UnitPlan → List Tree → FrontFault → Type 0
NoProgram schema plans units (Wrong fault) = IsCodeFault schema plans units fault
NoProgram schema plans units NoMemory = Unit {0}

-- ---- a part

abbrev pub fault_of : Result (List TypedStmt) TreeFault → Option TreeFault
fault_of (Ok stmts) = None
fault_of (Err fault) = Some fault

-- what a tenant has beside its schema, where its sessions have these users and its units these trees
pub record IsRest (plan : TenantPlan) (schema : Schema) (users : List ℕ) (units : List Tree) (program : Program) (seed : List Row) (sessions : List Session) : Type 0 where
  pub opened : List OpenSession
  pub blocks : List Tree
  pub are_open : AreOpenSessions schema users plan.sessions [] opened blocks
  pub is_program : IsProgram schema units blocks program
  pub is_seed : IsOnlySeed schema (all_written schema plan.seed) seed
  pub are_closed : AreClosedSessions (map fault_of program.blocks) opened sessions

pub record IsPart (plan : TenantPlan) (part : TenantPart) : Type 0 where
  pub deployed : IsDeployed plan.schema part.schema
  pub users : List ℕ
  pub are_users : AreUsers plan.schema.users plan.sessions users
  pub units : List Tree
  pub are_units : AreUnits plan.units units
  pub rest : IsRest plan part.schema users units part.program part.seed part.sessions

-- ---- the first fault, in the order of the steps

abbrev pub IsSessionFault : TenantPlan → Fault → Type 0
IsSessionFault plan fault = (session : ℕ) × (first_none (each_user plan.schema.users plan.sessions) ≡ Some session) × (fault ≡ unknown session)

-- behind the texts of units
abbrev pub IsBehindTexts : TenantPlan → Schema → List Tree → Fault → Type 0
IsBehindTexts plan schema units fault =
    IsCodeFault schema plan.units units fault
    ⊎ (((program : Program) × IsProgram schema units [] program) × IsSeedFault schema (all_written schema plan.seed) fault)

-- want of memory is free
abbrev pub NoRest : TenantPlan → Schema → List Tree → FrontFault → Type 0
NoRest plan schema units (Wrong fault) = IsBehindTexts plan schema units fault
NoRest plan schema units NoMemory = Unit {0}

-- behind the users of sessions
abbrev pub IsBehindUsers : TenantPlan → Schema → Fault → Type 0
IsBehindUsers plan schema fault =
    IsTextFault plan.units fault ⊎ ((units : List Tree) × AreUnits plan.units units × IsBehindTexts plan schema units fault)

-- behind the schema
abbrev pub IsBehindSchema : TenantPlan → Schema → Fault → Type 0
IsBehindSchema plan schema fault =
    IsSessionFault plan fault ⊎ (((users : List ℕ) × AreUsers plan.schema.users plan.sessions users) × IsBehindUsers plan schema fault)

abbrev pub IsFrontFault : TenantPlan → Fault → Type 0
IsFrontFault plan fault = IsSchemaFault plan.schema fault ⊎ ((schema : Schema) × IsDeployed plan.schema schema × IsBehindSchema plan schema fault)

-- want of memory is free
abbrev pub NoPart : TenantPlan → FrontFault → Type 0
NoPart plan (Wrong fault) = IsFrontFault plan fault
NoPart plan NoMemory = Unit {0}
