-- The checker as a whole (docs/language.md, "Programs").
use Rattle.std.specs.Prelude.{◌≡◌, ℕ, ◌+◌, List, [], ◌∷◌, map, Result, Ok, Err, ⊤}
use Rattle.fault_words.specs.declared.fault.FaultWord.TheVariants.{Expected}
use Rattle.apex_schema.specs.declared.schema.Object.{Object}
use Rattle.apex_syntax.specs.declared.unit.Unit.{Unit as Tree}
use Rattle.apex_syntax.specs.declared.unit.Unit.TheVariants as U
use Rattle.apex_types.specs.Homes.{Home}
use Rattle.class_tables.specs.Heads.{known_of, heads_of}
use Rattle.class_tables.specs.declared.member.ClassMembers.{ClassMembers}
use Rattle.class_tables.specs.Members.{members_among}
use Rattle.method_calls.specs.MethodNamings.{ClassNames, names_of_methods}
use Rattle.record_words.specs.Names.{object_names}
use Rattle.type_names.specs.declared.fault.TreeFault.{TreeFault}
use Rattle.type_names.specs.Walks.{Walk, wrong}
use Rattle.type_names.specs.Walks as W
use Rattle.typed_program.specs.declared.stmt.TypedStmt.{TypedStmt}
use Rattle.apex_types.specs.Units.{unit_step, block_step}
use Rattle.apex_types.specs.declared.code.Code.{Code}
use Rattle.apex_types.specs.declared.fault.CheckFault.{CheckFault}
use Rattle.apex_types.specs.declared.fault.CheckFault.TheVariants as C
use Rattle.apex_types.specs.declared.fault.TypeFault.{TypeFault}
use Rattle.typed_program.specs.declared.program.Program.{Program}

-- ---- what the check of units comes to: something, or the first fault with the number of its unit

pub data Check (A : Type 0) : Type 0 where
  Gives : A → Check A
  Wrong : TypeFault → Check A

abbrev pub next : {A B : Type 0} → Check A → (A → Check B) → Check B
next (Gives a) go = go a
next (Wrong fault) go = Wrong fault

-- what calls answer; want of memory is free
abbrev pub Fails : {A : Type 0} → Check A → CheckFault → Type 0
Fails check (C.Wrong fault) = check ≡ Wrong fault
Fails check C.NoMemory = ⊤

abbrev pub Comes : {A : Type 0} → Check A → Result A CheckFault → Type 0
Comes check (Ok a) = check ≡ Gives a
Comes check (Err fault) = Fails check fault

-- what calls answer that add to something
abbrev pub Grows : {A B : Type 0} → Check B → Result A CheckFault → B → Type 0
Grows check (Ok a) c = check ≡ Gives c
Grows check (Err fault) c = Fails check fault

-- ---- what all code of these objects and units sees

abbrev pub naming : ClassMembers → ClassNames
naming m = names_of_methods m.methods

abbrev pub home_of : List Object → List Tree → Home
home_of objects units = record {
  names = known_of (object_names objects) units;
  heads = heads_of (object_names objects) units;
  members = members_among (known_of (object_names objects) units) units;
  objects = objects;
  methods = map naming (members_among (known_of (object_names objects) units) units);
}

-- ---- units in their order

abbrev pub in_unit : {A : Type 0} → ℕ → Walk A → Check A
in_unit n (W.Gives a) = Gives a
in_unit n (W.Wrong fault) = Wrong (record { unit = n; fault = fault })

abbrev pub no_code : Code
no_code = record { classes = []; triggers = [] }

module _ (objects : List (List ℕ)) (all : List Tree) (h : Home) where
  abbrev pub unit_of : ℕ → Tree → Code → Check Code
  unit_of n t code = in_unit n (unit_step objects all h n t code)

  -- from the unit with this number on
  abbrev pub units_from : ℕ → List Tree → Code → Check Code
  units_from n [] code = Gives code
  units_from n (t ∷ ts) code = next (unit_of n t code) (units_from (n + 1) ts)

-- ---- blocks, each by itself

abbrev pub block_walk : Home → Tree → Walk (List TypedStmt)
block_walk h (U.Block stmts) = block_step h stmts
block_walk h _ = wrong Expected 0

abbrev pub settled : {A : Type 0} → Walk A → Result A TreeFault
settled (W.Gives a) = Ok a
settled (W.Wrong fault) = Err fault

abbrev pub block_of : Home → Tree → Result (List TypedStmt) TreeFault
block_of h t = settled (block_walk h t)

-- ---- programs

-- the code of all units, or their first fault
abbrev pub typed_units : List Object → List Tree → Check Code
typed_units objects units = units_from (object_names objects) units (home_of objects units) 0 units no_code

abbrev pub program_of : Code → List (Result (List TypedStmt) TreeFault) → Program
program_of code blocks = record { classes = code.classes; triggers = code.triggers; blocks = blocks }

abbrev pub checked : List Object → List Tree → List Tree → Check Program
checked objects units blocks = next (typed_units objects units) (λ code. Gives (program_of code (map (block_of (home_of objects units)) blocks)))
