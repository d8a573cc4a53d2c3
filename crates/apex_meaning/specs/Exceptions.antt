-- What is thrown, and what catches it (docs/language.md, "Exceptions").
use Rattle.std.specs.Prelude.{ℕ, bytes_eq, Bool, true, false, List, [], ◌∷◌, ◌++◌, codes, length, slice_get, Option, None, Some}
use Rattle.activations.specs.declared.abrupt.Abrupt.TheVariants.{Throws}
use Rattle.activations.specs.declared.abrupt.Raised.{Raised}
use Rattle.activations.specs.declared.abrupt.Raised.TheVariants.{Platform, Made}
use Rattle.apex_num.specs.declared.cell.Cell.{Cell}
use Rattle.apex_num.specs.declared.cell.Cell.TheVariants as C
use Rattle.builtin_table.specs.Answers.{class_name}
use Rattle.builtin_table.specs.declared.exception.ExceptionClass.{ExceptionClass}
use Rattle.platform_errors.specs.Messages.{class, message}
use Rattle.platform_errors.specs.declared.thrown.Thrown.TheVariants.{NullObject}
use Rattle.save_meaning.specs.Results.{Gives, Stops, Leaves, bind}
use Rattle.static_types.specs.declared.kind.ValueType.{ValueType}
use Rattle.static_types.specs.declared.kind.ValueType.TheOpen.{ValueType-F}
use Rattle.static_types.specs.declared.kind.ValueType.TheViews.{out-ValueType}
use Rattle.request_states.specs.States.{State, Res, make, set_local, throws}
use Rattle.txn_heap.specs.declared.thing.Thing.{Thing}
use Rattle.txn_heap.specs.declared.thing.Thing.TheVariants as T
use Rattle.txn_heap.specs.declared.thing.Value.{Value}
use Rattle.txn_heap.specs.declared.thing.Value.TheVariants.{Plain, Object}
use Rattle.typed_program.specs.declared.program.Program.{Program}
use Rattle.apex_meaning.specs.Classes.{is_a, name_of}
use Rattle.apex_meaning.specs.Meanings.{Do}

-- ---- what it is

-- a built-in class, or a declared one
pub data Kind : Type 0 where
  BuiltIn : ExceptionClass → Kind
  Declared : ℕ → Kind
  Nothing : Kind

abbrev pub kind_of_thing : Option Thing → Kind
kind_of_thing (Some (T.Instance i)) = Declared i.class
kind_of_thing (Some (T.Exception e)) = BuiltIn e.class
kind_of_thing _ = Nothing

abbrev pub kind_of : Raised → List Thing → Kind
kind_of (Platform t) heap = BuiltIn (class t)
kind_of (Made r) heap = kind_of_thing (slice_get heap r.place)

-- a null message is told as a null is
abbrev pub message_text : Cell → List ℕ
message_text (C.Text t) = t
message_text _ = codes "null"

abbrev pub message_of_thing : Option Thing → Cell
message_of_thing (Some (T.Instance i)) = i.message
message_of_thing (Some (T.Exception e)) = e.message
message_of_thing _ = C.Null

-- the name of its class, and its message
abbrev pub name_of_kind : Program → Kind → List ℕ
name_of_kind program (BuiltIn c) = class_name c
name_of_kind program (Declared c) = name_of program c
name_of_kind program Nothing = []

abbrev pub class_told : Program → Raised → List Thing → List ℕ
class_told program r heap = name_of_kind program (kind_of r heap)

abbrev pub message_told : Raised → List Thing → List ℕ
message_told (Platform t) heap = message t
message_told (Made r) heap = message_text (message_of_thing (slice_get heap r.place))

-- ---- what catches it

-- each class has its name
abbrev pub is_built_in : ExceptionClass → Kind → Bool
is_built_in c (BuiltIn d) = bytes_eq (class_name c) (class_name d)
is_built_in c _ = false

abbrev pub is_declared : Program → ℕ → Kind → Bool
is_declared program c (Declared k) = is_a program k c
is_declared program c _ = false

abbrev pub takes_form : Program → ValueType-F ValueType → Kind → Bool
takes_form program ValueType-F.AnyException k = true
takes_form program (ValueType-F.Exception c) k = is_built_in c k
takes_form program (ValueType-F.Class c) k = is_declared program c k
takes_form program _ k = false

-- a clause takes its class and the children of it
abbrev pub takes : Program → ValueType → Kind → Bool
takes program t k = takes_form program (out-ValueType t) k

-- a clause: its type, the slot of what it catches, and what it does
pub record Clause : Type 0 where
  pub kind : ValueType
  pub slot : ℕ
  pub body : Do

abbrev pub if_takes : Bool → Clause → Option Clause → Option Clause
if_takes true c later = Some c
if_takes false c later = later

-- the first clause that takes it
abbrev pub clause_for : Program → Kind → List Clause → Option Clause
clause_for program k [] = None
clause_for program k (c ∷ cs) = if_takes (takes program c.kind k) c (clause_for program k cs)

-- what is thrown as a value: the platform's becomes a thing when it is caught
abbrev pub as_value : Raised → State → Res Value
as_value (Made r) st = Gives (Object r) st
as_value (Platform t) st = make (T.Exception (record { class = class t; message = C.Text (message t) })) st

abbrev pub caught_by : Option Clause → Raised → Do
caught_by None r st = Stops (Leaves (Throws r)) st
caught_by (Some c) r st = bind (as_value r st) (λ v s. c.body (set_local c.slot v s))

abbrev pub catching : Program → List Clause → Res (Unit {0}) → Res (Unit {0})
catching program cs (Gives u st) = Gives u st
catching program cs (Stops (Leaves (Throws r)) st) = caught_by (clause_for program (kind_of r st.world.heap) cs) r st
catching program cs (Stops why st) = Stops why st

-- `throw`: a null throws for itself
abbrev pub throw : Value → Do
throw (Plain c) st = throws NullObject st
throw (Object r) st = Stops (Leaves (Throws (Made r))) st
