-- The steps of a front end, each behind those before it.
use Rattle.std.proofs.Common.{arith, ◌≡◌, ◌<◌, ◌+◌, inl, inr, ℕ, suc, List, [], ◌∷◌, map, length, Result, Ok, Err, MatchResult, refl, sym, ap, ◌∙◌, subst}
use Rattle.std.specs.Result.{IsErr, IsErrAnd}
use Rattle.std.proofs.lemmas.List.{length-map}
use Rattle.schema_plans.specs.declared.plan_fault.SchemaFault.{SchemaFault}
use Rattle.schema_plans.specs.declared.plan_fault.SchemaFault.TheVariants as Schemas
use Rattle.schema_plans.specs.declared.plan.SchemaPlan.{SchemaPlan}
use Rattle.apex_schema.specs.declared.schema.Schema.{Schema}
use Rattle.schema_plans.specs.Schemas.{user_of}
use Rattle.apex_syntax.specs.declared.unit.Unit.{Unit as Tree}
use Rattle.apex_types.specs.declared.fault.TypeFault.{TypeFault}
use Rattle.typed_program.specs.declared.program.Program.{Program}
use Rattle.apex_types.specs.Checks.{Check, Gives, Wrong as WrongIn, next, in_unit, no_code, units_from, block_of, home_of, typed_units, program_of, checked}
use Rattle.record_words.specs.Names.{object_names}
use Rattle.type_names.specs.Walks.{Walk}
use Rattle.type_names.specs.Walks as W
use Rattle.apex_types.specs.Units.{unit_step}
use Rattle.apex_types.specs.Homes.{Home}
use Rattle.apex_types.specs.declared.code.Code.{Code}
use Rattle.bundle_read.specs.declared.entries.TenantPlan.{TenantPlan}
use Rattle.bundle_read.specs.declared.entries.UnitPlan.{UnitPlan}
use Rattle.seed_rows.specs.declared.fault.SeedFault.{SeedFault}
use Rattle.seed_rows.specs.declared.fault.SeedFault.TheVariants as Seeds
use Rattle.seed_rows.specs.Seeds.{NoSeed, all_written}
use Rattle.tenant_front.specs.declared.fault.FrontFault.{FrontFault}
use Rattle.tenant_front.specs.declared.fault.FrontFault.TheVariants.{Wrong, NoMemory}
use Rattle.tenant_front.specs.Faults.{of_schema, of_sessions, of_units, of_seed}
use Rattle.tenant_front.specs.Parts.{IsProgram, IsTold, NoProgram, NoRest, NoPart}
use Rattle.tenant_schema.specs.Deployed.{Deploys, IsDeployed}
use Rattle.tenant_sessions.specs.declared.users.SessionFault.{SessionFault}
use Rattle.tenant_sessions.specs.declared.users.SessionFault.TheVariants as Sessions
use Rattle.tenant_sessions.specs.Users.{AreUsers, IsFirstFault}
use Rattle.tenant_units.specs.declared.fault.UnitFault.{UnitFault}
use Rattle.tenant_units.specs.declared.fault.UnitFault.TheVariants as Units
use Rattle.tenant_units.specs.Trees.{AreUnits, NoUnits}

module _ (plan : TenantPlan) where
  pub schema_fault : (fault : SchemaFault) → Deploys plan.schema (Err fault) → NoPart plan (of_schema fault)
  schema_fault (Schemas.Wrong fault) h = inl h.0
  schema_fault Schemas.NoMemory h = tt

module _ (plan : TenantPlan) (schema : Schema) (deployed : IsDeployed plan.schema schema) where
  pub session_fault : (fault : SessionFault) → IsFirstFault plan.schema.users plan.sessions fault → NoPart plan (of_sessions fault)
  session_fault (Sessions.Wrong fault) h = inr (schema, deployed, inl h)
  session_fault Sessions.NoMemory h = tt

module _ (plan : TenantPlan) (schema : Schema) (deployed : IsDeployed plan.schema schema) (users : List ℕ) (are_users : AreUsers plan.schema.users plan.sessions users) where
  pub unit_fault : (fault : UnitFault) → NoUnits plan.units fault → NoPart plan (of_units fault)
  unit_fault (Units.Wrong fault) h = inr (schema, deployed, inr ((users, are_users), inl h))
  unit_fault Units.NoMemory h = tt

module _ (plan : TenantPlan) (schema : Schema) (deployed : IsDeployed plan.schema schema) (users : List ℕ) (are_users : AreUsers plan.schema.users plan.sessions users) (units : List Tree) (are_units : AreUnits plan.units units) where
  pub rest_fault : (fault : FrontFault) → NoRest plan schema units fault → NoPart plan fault
  rest_fault (Wrong fault) h = inr (schema, deployed, inr ((users, are_users), inr (units, are_units, h)))
  rest_fault NoMemory h = tt

-- the code of units has its fault whatever the blocks are, and is a program whatever they are
any_blocks : (made : Check Code) (h : Home) (blocks : List Tree) (program : Program) → next made (λ code. Gives (program_of code (map (block_of h) blocks))) ≡ Gives program
    → (p : Program) × (next made (λ code. Gives (program_of code (map (block_of h) []))) ≡ Gives p)
any_blocks (Gives code) h blocks program is = (program_of code [], refl)
any_blocks (WrongIn fault) h blocks program is = absurd (cc)

pub no_blocks : (schema : Schema) (units blocks : List Tree) (program : Program) → IsProgram schema units blocks program → (p : Program) × IsProgram schema units [] p
no_blocks schema units blocks program is = any_blocks (typed_units schema.objects units) (home_of schema.objects units) blocks program is

same_fault : (made : Check Code) (h : Home) (blocks : List Tree) (fault : TypeFault) → next made (λ code. Gives (program_of code (map (block_of h) blocks))) ≡ WrongIn fault → made ≡ WrongIn fault
same_fault (Gives code) h blocks fault is = absurd (cc)
same_fault (WrongIn other) h blocks fault is = let e : other ≡ fault = cc in ap WrongIn e

pub unit_is_wrong : (schema : Schema) (units blocks : List Tree) (fault : TypeFault) → checked schema.objects units blocks ≡ WrongIn fault → typed_units schema.objects units ≡ WrongIn fault
unit_is_wrong schema units blocks fault is = same_fault (typed_units schema.objects units) (home_of schema.objects units) blocks fault is

-- ---- a fault is one of a unit that is there

in_walk : (n m : ℕ) (w : Walk Code) (rest : Code → Check Code) (fault : TypeFault) → n < m → ((code : Code) → rest code ≡ WrongIn fault → fault.unit < m) → next (in_unit n w) rest ≡ WrongIn fault → fault.unit < m
in_walk n m (W.Gives code) rest fault lt more is = more code is
in_walk n m (W.Wrong wrong) rest fault lt more is =
    let e : record { unit = n; fault = wrong } ≡ fault = cc in
    subst (λ (f : TypeFault). f.unit < m) e lt

in_units : (objects : List (List ℕ)) (all : List Tree) (h : Home) (n : ℕ) (ts : List Tree) (code : Code) (fault : TypeFault) → units_from objects all h n ts code ≡ WrongIn fault → fault.unit < n + length ts
in_units objects all h n [] code fault is = absurd (cc)
in_units objects all h n (t ∷ ts) code fault is =
    in_walk n (n + length (t ∷ ts)) (unit_step objects all h n t code) (units_from objects all h (n + 1) ts) fault (omega arith)
    (λ made more. let less = in_units objects all h (n + 1) ts made fault more in omega arith) is

as_many : (plans : List UnitPlan) (units : List Tree) → AreUnits plans units → length plans ≡ length units
as_many [] units h = ap length (sym h)
as_many (p ∷ ps) [] h = absurd h
as_many (p ∷ ps) (t ∷ ts) h = ap suc (as_many ps ts h.1)

pub is_there : (schema : Schema) (plans : List UnitPlan) (units blocks : List Tree) (fault : TypeFault) → AreUnits plans units → checked schema.objects units blocks ≡ WrongIn fault → fault.unit < length plans
is_there schema plans units blocks fault h is =
    let less : fault.unit < 0 + length units = in_units (object_names schema.objects) units (home_of schema.objects units) 0 units no_code fault (unit_is_wrong schema units blocks fault is) in
    let same = as_many plans units h in
    omega arith

module _ (plan : TenantPlan) (schema : Schema) (units blocks : List Tree) where
  pub code_fault : (fault : FrontFault) → NoProgram schema plan.units units fault → NoRest plan schema units fault
  code_fault (Wrong fault) h = inl h
  code_fault NoMemory h = tt

  pub seed_fault : (program : Program) → IsProgram schema units blocks program → (fault : SeedFault) → NoSeed schema (all_written schema plan.seed) fault → NoRest plan schema units (of_seed fault)
  seed_fault program is (Seeds.Wrong fault) h = inr (no_blocks schema units blocks program is, h.0)
  seed_fault program is Seeds.NoMemory h = tt

pub told_fault : (schema : Schema) (plans : List UnitPlan) (units blocks : List Tree) (wrong : TypeFault) → checked schema.objects units blocks ≡ WrongIn wrong → (fault : FrontFault) → IsTold plans wrong fault → NoProgram schema plans units fault
told_fault schema plans units blocks wrong is (Wrong fault) h = record { wrong = wrong; is_wrong = unit_is_wrong schema units blocks wrong is; told = h }
told_fault schema plans units blocks wrong is NoMemory h = tt

-- as many users as are planned
pub as_many_users : (plan : SchemaPlan) (schema : Schema) → IsDeployed plan schema → length schema.users ≡ length plan.users
as_many_users plan schema d = ap (λ (s : Schema). length s.users) d.said ∙ length-map plan.users (user_of plan)

-- ---- faults that are handed on

pub handed_on : {A : Type 0} (r : Result A FrontFault) (good : A → Type 0) (bad : FrontFault → Type 0) (fault : FrontFault) → IsErr r × IsErrAnd r (λ e. e ≡ fault) → bad fault → MatchResult r good bad
handed_on (Ok a) good bad fault h is = let no : IsErr {E = FrontFault} (Ok a) = h.0 in absurd (cc)
handed_on (Err e) good bad fault h is = subst bad (sym h.1) is
