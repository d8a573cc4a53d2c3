-- What is to be shown of parts: a plan has one part or one first fault, and not both, and the fault is that of the first
-- reader of the plan that has one.
use Rattle.std.specs.Prelude.{◌≡◌, ◌⊎◌, ◌↔◌, ℕ, List, [], ◌∷◌, None, Some}
use Rattle.apex_rows.specs.declared.row.Row.{Row}
use Rattle.apex_schema.specs.declared.rule.Rule.{Rule}
use Rattle.apex_schema.specs.declared.schema.Schema.{Schema}
use Rattle.apex_syntax.specs.declared.unit.Unit.{Unit as Tree}
use Rattle.bundle_read.specs.declared.entries.TenantPlan.{TenantPlan}
use Rattle.fault_words.specs.declared.fault.Fault.{Fault}
use Rattle.schema_plans.specs.Plans.{schema_fault}
use Rattle.seed_rows.specs.Seeds.{IsSeed, all_written, IsFirstFault as IsSeedFault}
use Rattle.tenant_parts.specs.declared.part.TenantPart.{TenantPart}
use Rattle.tenant_schema.specs.Deployed.{HaveFormulas, IsRuleFault, IsDeployed}
use Rattle.tenant_sessions.specs.Users.{AreUsers}
use Rattle.tenant_units.specs.Trees.{AreUnits, IsFirstFault as IsTextFault}
use Rattle.typed_program.specs.declared.program.Program.{Program}
use Rattle.tenant_front.specs.Parts.{IsProgram, IsCodeFault, IsPart, IsSessionFault, IsFrontFault}

-- ---- one part or one fault

abbrev pub PartIsOnly : Type 0
PartIsOnly = (plan : TenantPlan) (part other : TenantPart) → IsPart plan part → IsPart plan other → other ≡ part

abbrev pub FaultIsOnly : Type 0
FaultIsOnly = (plan : TenantPlan) (fault other : Fault) → IsFrontFault plan fault → IsFrontFault plan other → other ≡ fault

abbrev pub NotBoth : Type 0
NotBoth = (plan : TenantPlan) (part : TenantPart) (fault : Fault) → IsPart plan part → IsFrontFault plan fault → ⊥

-- ---- the readers of a plan: those of its schema, formulas apart, of the formulas of its rules, of the users of its
-- sessions, of the texts of its units, of their code, and of its seed. Blocks and saves that are refused refuse their
-- requests alone
pub data Reader : Type 0 where
  Structure : Reader
  Formulas : Reader
  Users : Reader
  Texts : Reader
  Code : Reader
  Seed : Reader

-- in the order in which they are asked
abbrev pub readers : List Reader
readers = Structure ∷ Formulas ∷ Users ∷ Texts ∷ Code ∷ Seed ∷ []

-- what it reads is there
abbrev pub Finds : TenantPlan → Reader → Type 0
Finds plan Structure = schema_fault plan.schema ≡ None
Finds plan Formulas = (rules : List (List Rule)) × HaveFormulas plan.schema 0 plan.schema.objects rules
Finds plan Users = (users : List ℕ) × AreUsers plan.schema.users plan.sessions users
Finds plan Texts = (units : List Tree) × AreUnits plan.units units
Finds plan Code = (schema : Schema) × (units : List Tree) × (program : Program) × IsDeployed plan.schema schema × AreUnits plan.units units × IsProgram schema units [] program
Finds plan Seed = (schema : Schema) × (rows : List Row) × IsDeployed plan.schema schema × IsSeed schema (all_written schema plan.seed) rows

-- the fault is its first one
abbrev pub Refuses : TenantPlan → Reader → Fault → Type 0
Refuses plan Structure fault = schema_fault plan.schema ≡ Some fault
Refuses plan Formulas fault = IsRuleFault plan.schema 0 plan.schema.objects fault
Refuses plan Users fault = IsSessionFault plan fault
Refuses plan Texts fault = IsTextFault plan.units fault
Refuses plan Code fault = (schema : Schema) × (units : List Tree) × IsDeployed plan.schema schema × AreUnits plan.units units × IsCodeFault schema plan.units units fault
Refuses plan Seed fault = (schema : Schema) × IsDeployed plan.schema schema × IsSeedFault schema (all_written schema plan.seed) fault

-- one of these readers refuses with the fault, and those before it find what they read
abbrev pub IsOfFirst : TenantPlan → List Reader → Fault → Type 0
IsOfFirst plan [] fault = ⊥
IsOfFirst plan (r ∷ rs) fault = Refuses plan r fault ⊎ (Finds plan r × IsOfFirst plan rs fault)

abbrev pub FaultIsOfFirst : Type 0
FaultIsOfFirst = (plan : TenantPlan) (fault : Fault) → IsFrontFault plan fault ↔ IsOfFirst plan readers fault

-- none finds what it reads and refuses
abbrev pub FindsOrRefuses : Type 0
FindsOrRefuses = (plan : TenantPlan) (reader : Reader) (fault : Fault) → Finds plan reader → Refuses plan reader fault → ⊥

-- where there is a part, each finds what it reads
abbrev pub AllFind : Type 0
AllFind = (plan : TenantPlan) (part : TenantPart) (reader : Reader) → IsPart plan part → Finds plan reader
