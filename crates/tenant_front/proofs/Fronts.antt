-- A plan has one part or one first fault, and not both.
use Rattle.std.proofs.Common.{◌≡◌, inl, inr, ℕ, List, [], map, refl, sym, ◌∙◌, subst, ◌++◌, ◌∷◌}
use Rattle.std.proofs.lemmas.Option.{same_Some, none-some}
use Rattle.apex_rows.specs.declared.row.Row.{Row}
use Rattle.apex_schema.specs.declared.schema.Schema.{Schema}
use Rattle.apex_syntax.specs.declared.unit.Unit.{Unit as Tree}
use Rattle.apex_types.specs.declared.code.Code.{Code}
use Rattle.apex_types.specs.declared.fault.TypeFault.{TypeFault}
use Rattle.apex_types.specs.Checks.{Check, Gives, Wrong as WrongIn, next, block_of, home_of, typed_units, program_of, checked}
use Rattle.apex_types.specs.Homes.{Home}
use Rattle.bundle_read.specs.declared.entries.TenantPlan.{TenantPlan}
use Rattle.bundle_read.specs.declared.entries.UnitPlan.{UnitPlan}
use Rattle.fault_words.specs.declared.fault.Fault.{Fault}
use Rattle.number_methods.specs.Laws.{DecimalOfText}
use Rattle.schema_plans.specs.Schemas.{schema_of}
use Rattle.schema_plans.specs.Validity.{with_rules}
use Rattle.seed_rows.specs.Seeds.{all_written, IsFirstFault as IsSeedFault}
use Rattle.tenant_parts.specs.declared.session.Session.{Session}
use Rattle.tenant_requests.specs.Requests.{AreClosedSessions}
use Rattle.tenant_schema.specs.Deployed.{IsDeployed}
use Rattle.tenant_sessions.specs.Laws as Sessions
use Rattle.tenant_units.specs.Faults.{Tells}
use Rattle.tenant_units.specs.Trees.{AreUnits}
use Rattle.tenant_units.proofs.Places.{tells_one}
use Rattle.typed_program.specs.declared.program.Program.{Program}
use Rattle.tenant_front.specs.Laws.{PartIsOnly, FaultIsOnly, NotBoth, Reader, Structure, Formulas, Users, Texts, Code as CodeReader, Seed, readers, Refuses, IsOfFirst, FaultIsOfFirst, FindsOrRefuses, AllFind}
use Rattle.tenant_front.specs.Parts.{IsProgram, IsToldOf, IsCodeFault, fault_of, IsRest, IsBehindTexts, IsBehindSchema, IsFrontFault}
use Rattle.tenant_front.proofs.Requests.{open_sessions_once, closed_sessions_once}
use Rattle.tenant_front.proofs.Schemas.{deployed_once, rule_fault_once, rule_or_fault}
use Rattle.tenant_front.proofs.Seeds.{seed_fault_once, seed_or_fault}
use Rattle.tenant_front.proofs.Texts.{units_once, unit_fault_once, units_or_fault}

-- ---- code

told_once : (plans : List UnitPlan) (wrong : TypeFault) (fault other : Fault) → IsToldOf plans wrong fault → IsToldOf plans wrong other → other ≡ fault
told_once plans wrong fault other h k =
    let same : k.unit ≡ h.unit = same_Some k.unit h.unit (sym k.is_unit ∙ h.is_unit) in
    tells_one h.unit.name h.unit.text wrong.fault.at wrong.fault.word fault other h.tells (subst (λ (u : UnitPlan). Tells u.name u.text wrong.fault.at wrong.fault.word other) same k.tells)

same_wrong : {A : Type 0} (made : Check A) (v w : TypeFault) → made ≡ WrongIn v → made ≡ WrongIn w → w ≡ v
same_wrong made v w e f = let g : WrongIn w ≡ WrongIn v = sym f ∙ e in cc

same_gives : {A : Type 0} (made : Check A) (x y : A) → made ≡ Gives x → made ≡ Gives y → y ≡ x
same_gives made x y e f = let g : Gives y ≡ Gives x = sym f ∙ e in cc

code_fault_once : (schema : Schema) (plans : List UnitPlan) (units : List Tree) (fault other : Fault) → IsCodeFault schema plans units fault → IsCodeFault schema plans units other → other ≡ fault
code_fault_once schema plans units fault other h k =
    told_once plans h.wrong fault other h.told (subst (λ w. IsToldOf plans w other) (same_wrong (typed_units schema.objects units) h.wrong k.wrong h.is_wrong k.is_wrong) k.told)

-- code with a fault is no program, whatever the blocks are
no_program : (made : Check Code) (h : Home) (blocks : List Tree) (program : Program) (wrong : TypeFault) → made ≡ WrongIn wrong → next made (λ code. Gives (program_of code (map (block_of h) blocks))) ≡ Gives program → ⊥
no_program (Gives code) h blocks program wrong e is = absurd (cc)
no_program (WrongIn fault) h blocks program wrong e is = absurd (cc)

code_or_fault : (schema : Schema) (plans : List UnitPlan) (units blocks : List Tree) (program : Program) (fault : Fault) → IsProgram schema units blocks program → IsCodeFault schema plans units fault → ⊥
code_or_fault schema plans units blocks program fault is h = no_program (typed_units schema.objects units) (home_of schema.objects units) blocks program h.wrong h.is_wrong is

-- code that is a program with blocks is one without
without_blocks : (made : Check Code) (h : Home) (blocks : List Tree) (program : Program) → next made (λ code. Gives (program_of code (map (block_of h) blocks))) ≡ Gives program
    → (p : Program) × (next made (λ code. Gives (program_of code (map (block_of h) []))) ≡ Gives p)
without_blocks (Gives code) h blocks program is = (program_of code [], refl)
without_blocks (WrongIn fault) h blocks program is = absurd (cc)

-- ---- what a tenant has beside its schema

module _ (plan : TenantPlan) (schema : Schema) (users : List ℕ) (units : List Tree) where
  rest_once : (p q : Program) (rows others : List Row) (ss ts : List Session) → IsRest plan schema users units p rows ss → IsRest plan schema users units q others ts → (q ≡ p) × (others ≡ rows) × (ts ≡ ss)
  rest_once p q rows others ss ts h k =
      let open' = open_sessions_once schema users plan.sessions [] h.opened k.opened h.blocks k.blocks h.are_open k.are_open in
      let made : IsProgram schema units h.blocks q = subst (λ bs. IsProgram schema units bs q) open'.1 k.is_program in
      let program : q ≡ p = same_gives (checked schema.objects units h.blocks) p q h.is_program made in
      let closed : AreClosedSessions (map fault_of p.blocks) k.opened ts = subst (λ (r : Program). AreClosedSessions (map fault_of r.blocks) k.opened ts) program k.are_closed in (
        program,
        h.is_seed.1 others k.is_seed.0,
        closed_sessions_once (map fault_of p.blocks) h.opened ss ts h.are_closed (subst (λ os. AreClosedSessions (map fault_of p.blocks) os ts) open'.0 closed),
      )

-- ---- what each reader finds or refuses

pub all_find : AllFind
all_find plan part Structure h = h.deployed.faultless
all_find plan part Formulas h = (h.deployed.rules, h.deployed.read)
all_find plan part Users h = (h.users, h.are_users)
all_find plan part Texts h = (h.units, h.are_units)
all_find plan part CodeReader h =
    let p = without_blocks (typed_units part.schema.objects h.units) (home_of part.schema.objects h.units) h.rest.blocks part.program h.rest.is_program in
    (part.schema, h.units, p.0, h.deployed, h.are_units, p.1)
all_find plan part Seed h = (part.schema, part.seed, h.deployed, h.rest.is_seed.0)

module _ (plan : TenantPlan) (schema : Schema) (d : IsDeployed plan.schema schema) where
  -- what is said of a schema and units that are read holds of these
  code_here : (units : List Tree) → AreUnits plan.units units → (P : Schema → List Tree → Type 0) (s : Schema) (trees : List Tree) → IsDeployed plan.schema s → AreUnits plan.units trees → P s trees → P schema units
  code_here units are P s trees at also h =
      subst (P schema) (units_once plan.units units trees are also) (subst (λ t. P t trees) (deployed_once plan.schema schema s d at) h)

  seed_here : (P : Schema → Type 0) (s : Schema) → IsDeployed plan.schema s → P s → P schema
  seed_here P s at h = subst P (deployed_once plan.schema schema s d at) h

-- ---- the first reader that refuses

module _ (plan : TenantPlan) (fault : Fault) where
  to_first : IsFrontFault plan fault → IsOfFirst plan readers fault
  to_first (inl (inl h)) = inl h
  to_first (inl (inr (none, h))) = inr (none, inl h)
  to_first (inr (schema, d, inl h)) = inr (d.faultless, inr ((d.rules, d.read), inl h))
  to_first (inr (schema, d, inr (us, inl h))) = inr (d.faultless, inr ((d.rules, d.read), inr (us, inl h)))
  to_first (inr (schema, d, inr (us, inr (units, are, inl h)))) = inr (d.faultless, inr ((d.rules, d.read), inr (us, inr ((units, are), inl (schema, units, d, are, h)))))
  to_first (inr (schema, d, inr (us, inr (units, are, inr ((p, is), h))))) =
      inr (d.faultless, inr ((d.rules, d.read), inr (us, inr ((units, are), inr ((schema, units, p, d, are, is), inl (schema, d, h))))))

  module _ (schema : Schema) (d : IsDeployed plan.schema schema) where
    behind_texts : (units : List Tree) → AreUnits plan.units units → IsOfFirst plan (CodeReader ∷ Seed ∷ []) fault → IsBehindTexts plan schema units fault
    behind_texts units are (inl (s, trees, at, also, h)) = inl (code_here plan schema d units are (λ t l. IsCodeFault t plan.units l fault) s trees at also h)
    behind_texts units are (inr ((s, trees, p, at, also, is), inl (t, so, h))) = inr (
      (p, code_here plan schema d units are (λ o l. IsProgram o l [] p) s trees at also is),
      seed_here plan schema d (λ o. IsSeedFault o (all_written o plan.seed) fault) t so h,
    )
    behind_texts units are (inr (found, inr (also, h))) = absurd h

    behind_schema : IsOfFirst plan (Users ∷ Texts ∷ CodeReader ∷ Seed ∷ []) fault → IsBehindSchema plan schema fault
    behind_schema (inl h) = inl h
    behind_schema (inr (us, inl h)) = inr (us, inl h)
    behind_schema (inr (us, inr ((units, are), h))) = inr (us, inr (units, are, behind_texts units are h))

  from_first : IsOfFirst plan readers fault → IsFrontFault plan fault
  from_first (inl h) = inl (inl h)
  from_first (inr (none, inl h)) = inl (inr (none, h))
  from_first (inr (none, inr ((rules, read), h))) =
      let schema = with_rules (schema_of plan.schema) (rules ++ [] ∷ []) in
      let d : IsDeployed plan.schema schema = record { rules = rules; faultless = none; read = read; said = refl } in
      inr (schema, d, behind_schema schema d h)

pub fault_is_of_first : FaultIsOfFirst
fault_is_of_first plan fault = (to_first plan fault, from_first plan fault)

-- ---- parts and faults

pub part_once : Sessions.UsersAreOnly → PartIsOnly
part_once users_once plan part other h k =
    let es : other.schema ≡ part.schema = deployed_once plan.schema part.schema other.schema h.deployed k.deployed in
    let us : k.users ≡ h.users = users_once plan.schema.users plan.sessions h.users k.users h.are_users k.are_users in
    let ts : k.units ≡ h.units = units_once plan.units h.units k.units h.are_units k.are_units in
    let of_schema : IsRest plan part.schema k.users k.units other.program other.seed other.sessions = subst (λ s. IsRest plan s k.users k.units other.program other.seed other.sessions) es k.rest in
    let of_users : IsRest plan part.schema h.users k.units other.program other.seed other.sessions = subst (λ l. IsRest plan part.schema l k.units other.program other.seed other.sessions) us of_schema in
    let of_units : IsRest plan part.schema h.users h.units other.program other.seed other.sessions = subst (λ l. IsRest plan part.schema h.users l other.program other.seed other.sessions) ts of_users in
    let rest = rest_once plan part.schema h.users h.units part.program other.program part.seed other.seed part.sessions other.sessions h.rest of_units in
    let ep : other.program ≡ part.program = rest.0 in
    let er : other.seed ≡ part.seed = rest.1 in
    let et : other.sessions ≡ part.sessions = rest.2 in
    λ i. record { schema = es i; program = ep i; seed = er i; sessions = et i }

module _ (decimal : DecimalOfText) (users_or_fault : Sessions.NotBoth) where
  pub finds_or_refuses : FindsOrRefuses
  finds_or_refuses plan Structure fault h k = none-some fault (sym h ∙ k)
  finds_or_refuses plan Formulas fault (rules, h) k = rule_or_fault plan.schema 0 plan.schema.objects rules fault h k
  finds_or_refuses plan Users fault (us, h) k = users_or_fault plan.schema.users plan.sessions us fault h k
  finds_or_refuses plan Texts fault (units, h) k = units_or_fault plan.units units fault h k
  finds_or_refuses plan CodeReader fault (schema, units, program, is, are, h) (s, trees, at, also, k) =
      code_or_fault schema plan.units units [] program fault h (code_here plan schema is units are (λ t l. IsCodeFault t plan.units l fault) s trees at also k)
  finds_or_refuses plan Seed fault (schema, rows, is, h) (s, at, k) =
      seed_or_fault decimal schema (all_written schema plan.seed) rows fault h (seed_here plan schema is (λ t. IsSeedFault t (all_written t plan.seed) fault) s at k)

  pub not_both : NotBoth
  not_both plan part fault h k = none readers (to_first plan fault k) where
    none : (rs : List Reader) → IsOfFirst plan rs fault → ⊥
    none [] f = f
    none (r ∷ rs) (inl f) = finds_or_refuses plan r fault (all_find plan part r h) f
    none (r ∷ rs) (inr (found, f)) = none rs f

  module _ (user_fault_once : Sessions.FaultIsOnly) where
    refuses_once : (plan : TenantPlan) (reader : Reader) (fault other : Fault) → Refuses plan reader fault → Refuses plan reader other → other ≡ fault
    refuses_once plan Structure fault other h k = same_Some other fault (sym k ∙ h)
    refuses_once plan Formulas fault other h k = rule_fault_once plan.schema 0 plan.schema.objects fault other h k
    refuses_once plan Users fault other h k = user_fault_once plan.schema.users plan.sessions fault other h k
    refuses_once plan Texts fault other h k = unit_fault_once plan.units fault other h k
    refuses_once plan CodeReader fault other (schema, units, is, are, h) (s, trees, at, also, k) =
        code_fault_once schema plan.units units fault other h (code_here plan schema is units are (λ t l. IsCodeFault t plan.units l other) s trees at also k)
    refuses_once plan Seed fault other (schema, is, h) (s, at, k) =
        seed_fault_once decimal schema (all_written schema plan.seed) fault other h (seed_here plan schema is (λ t. IsSeedFault t (all_written t plan.seed) other) s at k)

    first_once : (plan : TenantPlan) (rs : List Reader) (fault other : Fault) → IsOfFirst plan rs fault → IsOfFirst plan rs other → other ≡ fault
    first_once plan [] fault other h k = absurd h
    first_once plan (r ∷ rs) fault other (inl h) (inl k) = refuses_once plan r fault other h k
    first_once plan (r ∷ rs) fault other (inl h) (inr (found, k)) = absurd (finds_or_refuses plan r fault found h)
    first_once plan (r ∷ rs) fault other (inr (found, h)) (inl k) = absurd (finds_or_refuses plan r other found k)
    first_once plan (r ∷ rs) fault other (inr (found, h)) (inr (also, k)) = first_once plan rs fault other h k

    pub front_fault_once : FaultIsOnly
    front_fault_once plan fault other h k = first_once plan readers fault other (to_first plan fault h) (to_first plan other k)
