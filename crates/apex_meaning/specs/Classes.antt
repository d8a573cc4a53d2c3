-- Classes by their numbers: their ancestors, fields and methods (docs/language.md, "Classes as they run").
use Rattle.std.specs.Prelude.{ℕ, zero, suc, ◌+◌, ◌&&◌, ◌||◌, bytes_eq, eqb, not, Bool, true, false, cond, List, [], ◌∷◌, ◌++◌, length, map, slice_get, Option, None, Some}
use Rattle.std.specs.List.{list_any}
use Rattle.apex_schema.specs.declared.schema.Mode.{Mode}
use Rattle.typed_program.specs.declared.expr.Constructor.TheVariants as K
use Rattle.typed_program.specs.declared.expr.Constructor.{Constructor}
use Rattle.typed_program.specs.declared.program.Program.{Program}
use Rattle.typed_program.specs.declared.stmt.TypedStmt.{TypedStmt}
use Rattle.typed_program.specs.declared.unit.ImpliedCall.{ImpliedCall}
use Rattle.typed_program.specs.declared.unit.ParentClass.{ParentClass}
use Rattle.typed_program.specs.declared.unit.ParentClass.TheVariants as P
use Rattle.typed_program.specs.declared.unit.TypedClass.{TypedClass}
use Rattle.typed_program.specs.declared.unit.TypedConstructor.{TypedConstructor}
use Rattle.typed_program.specs.declared.unit.TypedField.{TypedField}
use Rattle.typed_program.specs.declared.unit.TypedMethod.{TypedMethod}
use Rattle.typed_program.specs.declared.unit.TypedTrigger.{TypedTrigger}

abbrev pub class_at : Program → ℕ → Option TypedClass
class_at program c = slice_get program.classes c

-- ---- ancestors

-- a class and its ancestors, of which there are 32 at most
abbrev pub most : ℕ
most = 33

abbrev pub number_of : ParentClass → Option ℕ
number_of P.Nothing = None
number_of P.Exception = None
number_of (P.Class c) = Some c

abbrev pub parent_of : Option TypedClass → Option ℕ
parent_of None = None
parent_of (Some c) = number_of c.parent

-- where there is no such class there is no ancestor
abbrev pub linked : ℕ → Option TypedClass → List ℕ → List ℕ
linked c None cs = []
linked c (Some k) cs = c ∷ cs

abbrev pub chain_within : ℕ → Program → Option ℕ → List ℕ
chain_within zero program c = []
chain_within (suc n) program None = []
chain_within (suc n) program (Some c) = linked c (class_at program c) (chain_within n program (parent_of (class_at program c)))

-- a class and its ancestors, the nearest one first
abbrev pub chain : Program → ℕ → List ℕ
chain program c = chain_within most program (Some c)

-- its ancestors alone
abbrev pub behind : List ℕ → List ℕ
behind [] = []
behind (c ∷ cs) = cs

abbrev pub interfaces_of : Option TypedClass → List ℕ
interfaces_of None = []
interfaces_of (Some c) = c.interfaces

abbrev pub is_or_names : Program → ℕ → ℕ → Bool
is_or_names program to c = eqb c to || list_any (eqb to) (interfaces_of (class_at program c))

-- an instance of the first class is one of the second one, which is it, an ancestor, or an interface of one of these
abbrev pub is_a : Program → ℕ → ℕ → Bool
is_a program c to = list_any (is_or_names program to) (chain program c)

-- ---- names and modes

abbrev pub name_or : Option TypedClass → List ℕ
name_or None = []
name_or (Some c) = c.name

abbrev pub name_of : Program → ℕ → List ℕ
name_of program c = name_or (class_at program c)

abbrev pub mode_or : Option Mode → Mode → Mode
mode_or None callers = callers
mode_or (Some own) callers = own

abbrev pub sharing_of : Option TypedClass → Option Mode
sharing_of None = None
sharing_of (Some c) = c.sharing

-- the mode of code of a class: its own one, or its caller's where it has none
abbrev pub mode_of : Program → ℕ → Mode → Mode
mode_of program c callers = mode_or (sharing_of (class_at program c)) callers

-- ---- fields

abbrev pub fields_of : Option TypedClass → List TypedField
fields_of None = []
fields_of (Some c) = c.fields

abbrev pub fields_at : Program → ℕ → List TypedField
fields_at program c = fields_of (class_at program c)

-- the places of all fields of some classes, statics too
abbrev pub width : Program → List ℕ → ℕ
width program [] = 0
width program (c ∷ cs) = length (fields_at program c) + width program cs

-- the place in an instance of field n of a class: behind the places of its ancestors
abbrev pub field_place : Program → ℕ → ℕ → ℕ
field_place program c n = width program (behind (chain program c)) + n

-- the fields that an instance has
abbrev pub in_instances : List TypedField → ℕ
in_instances [] = 0
in_instances (f ∷ fs) = cond f.is_static 0 1 + in_instances fs

abbrev pub instance_fields : Program → List ℕ → ℕ
instance_fields program [] = 0
instance_fields program (c ∷ cs) = in_instances (fields_at program c) + instance_fields program cs

-- ---- methods

abbrev pub methods_of : Option TypedClass → List TypedMethod
methods_of None = []
methods_of (Some c) = c.methods

abbrev pub method_at : Program → ℕ → ℕ → Option TypedMethod
method_at program c m = slice_get (methods_of (class_at program c)) m

-- a method of instances with the same name and the same number of parameters
abbrev pub meets : TypedMethod → TypedMethod → Bool
meets wanted m = not m.is_static && bytes_eq m.name wanted.name && eqb m.params wanted.params

abbrev pub if_there : Bool → ℕ → Option ℕ → Option ℕ
if_there true n later = Some n
if_there false n later = later

-- its place among methods from place n on
abbrev pub found_from : ℕ → TypedMethod → List TypedMethod → Option ℕ
found_from n wanted [] = None
found_from n wanted (m ∷ ms) = if_there (meets wanted m) n (found_from (suc n) wanted ms)

abbrev pub in_class : ℕ → Option ℕ → Option (ℕ × ℕ) → Option (ℕ × ℕ)
in_class c (Some n) later = Some (c, n)
in_class c None later = later

-- the first class that has it, and its place there
abbrev pub nearest : Program → TypedMethod → List ℕ → Option (ℕ × ℕ)
nearest program wanted [] = None
nearest program wanted (c ∷ cs) = in_class c (found_from 0 wanted (methods_of (class_at program c))) (nearest program wanted cs)

abbrev pub nearest_to : Program → Option TypedMethod → List ℕ → Option (ℕ × ℕ)
nearest_to program None cs = None
nearest_to program (Some wanted) cs = nearest program wanted cs

-- the method that a call of method m of class c runs on an instance of class k: the nearest one from k on with its name and
-- its number of parameters
abbrev pub target : Program → ℕ → ℕ → ℕ → Option (ℕ × ℕ)
target program k c m = cond (is_a program k c) (nearest_to program (method_at program c m) (chain program k)) None

abbrev pub code_or : Option TypedMethod → Option (List TypedStmt)
code_or None = None
code_or (Some m) = m.body

-- the statements of a method
abbrev pub code_of : Program → ℕ → ℕ → Option (List TypedStmt)
code_of program c m = code_or (method_at program c m)

-- the statements of a trigger
abbrev pub trigger_or : Option TypedTrigger → Option (List TypedStmt)
trigger_or None = None
trigger_or (Some t) = Some t.body

abbrev pub trigger_at : Program → ℕ → Option (List TypedStmt)
trigger_at program n = trigger_or (slice_get program.triggers n)

-- ---- constructors

abbrev pub constructors_of : Option TypedClass → List TypedConstructor
constructors_of None = []
constructors_of (Some c) = c.constructors

abbrev pub constructor_at : Program → ℕ → ℕ → Option TypedConstructor
constructor_at program c k = slice_get (constructors_of (class_at program c)) k

abbrev pub implied_of : Option TypedClass → Option ImpliedCall
implied_of None = None
implied_of (Some c) = c.implied

-- what runs where a constructor isn't written: the declared one that it comes to, where there is one, and then the initial
-- values of the fields of these classes
pub record Starts : Type 0 where
  pub declared : Option (ℕ × ℕ)
  pub fields : List ℕ

abbrev pub no_starts : Starts
no_starts = record { declared = None; fields = [] }

-- a class that declares no constructor begins with its parent's, and its own fields follow
abbrev pub starts_by : Constructor → ℕ → Starts → Starts
starts_by (K.Declared k) c parents = record { declared = Some (c, k); fields = [] }
starts_by _ c parents = record { declared = parents.declared; fields = parents.fields ++ c ∷ [] }

abbrev pub starts_within : ℕ → Program → Option ImpliedCall → Starts
starts_within zero program call = no_starts
starts_within (suc n) program None = no_starts
starts_within (suc n) program (Some i) = starts_by i.constructor i.class (starts_within n program (implied_of (class_at program i.class)))

-- what a call of a constructor that isn't written comes to, the farthest ancestor first
abbrev pub starts : Program → Option ImpliedCall → Starts
starts program call = starts_within most program call

-- and behind it the fields of a class
abbrev pub and_fields : Starts → ℕ → Starts
and_fields s c = record { declared = s.declared; fields = s.fields ++ c ∷ [] }

-- what constructing an instance of a class that declares no constructor runs
abbrev pub own_starts : Program → ℕ → Starts
own_starts program c = and_fields (starts program (implied_of (class_at program c))) c
