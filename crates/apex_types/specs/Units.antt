-- The walk over units (docs/language.md, "Units").
use Rattle.std.specs.Prelude.{ℕ, ◌+◌, Bool, true, false, cond, List, [], ◌∷◌, ◌++◌, length, map, slice_get, Option, None, Some}
use Rattle.std.specs.List.{list_any}
use Rattle.apex_syntax.specs.declared.stmt.Stmt.{Stmt}
use Rattle.apex_syntax.specs.declared.stmt.Stmt.TheViews.{out-Body}
use Rattle.apex_syntax.specs.declared.unit.ClassTree.{ClassTree}
use Rattle.apex_syntax.specs.declared.unit.EventTree.{EventTree}
use Rattle.apex_syntax.specs.declared.unit.InterfaceTree.{InterfaceTree}
use Rattle.apex_syntax.specs.declared.unit.MemberTree.{MemberTree}
use Rattle.apex_syntax.specs.declared.unit.MemberTree.TheVariants as M
use Rattle.apex_syntax.specs.declared.unit.SignatureTree.{SignatureTree}
use Rattle.apex_syntax.specs.declared.unit.TriggerTree.{TriggerTree}
use Rattle.apex_syntax.specs.declared.unit.Unit.{Unit as Tree}
use Rattle.apex_syntax.specs.declared.unit.Unit.TheVariants as U
use Rattle.apex_syntax.specs.declared.word.Word.{Word}
use Rattle.apex_types.specs.Bodies.{plain_body}
use Rattle.apex_types.specs.Constructors.{implied_call}
use Rattle.apex_types.specs.Homes.{Home, setting, trigger, scene_in}
use Rattle.class_tables.specs.declared.head.ClassHead.{ClassHead}
use Rattle.class_walk.specs.Headers.{class_header, unit_name_walk}
use Rattle.class_tables.specs.declared.member.ResultHead.TheVariants.{Void}
use Rattle.class_walk.specs.Declarations.{signature_walk}
use Rattle.class_walk.specs.Duplicates.{duplicates, signature_duplicates}
use Rattle.class_walk.specs.Missing.{missing_walk}
use Rattle.class_walk.specs.Triggers.{trigger_header}
use Rattle.type_names.specs.TypeTrees.{Known}
use Rattle.type_names.specs.Walks.{Walk, Gives, onward}
use Rattle.typed_program.specs.declared.unit.ImpliedCall.{ImpliedCall}
use Rattle.typed_program.specs.declared.unit.TypedClass.{TypedClass}
use Rattle.typed_program.specs.declared.unit.TypedEvent.{TypedEvent}
use Rattle.typed_program.specs.declared.unit.TypedMethod.{TypedMethod}
use Rattle.typed_program.specs.declared.unit.TypedTrigger.{TypedTrigger}
use Rattle.typed_program.specs.declared.stmt.TypedStmt.{TypedStmt}
use Rattle.apex_types.specs.Members.{flag_at, members_from}
use Rattle.apex_types.specs.OpenClasses.{opened, method_of, with_method}
use Rattle.apex_types.specs.Written.{text_of}
use Rattle.apex_types.specs.declared.code.Code.{Code}

-- ---- classes

abbrev pub is_constructor : MemberTree → Bool
is_constructor (M.Constructor sp ms w params body) = true
is_constructor _ = false

abbrev pub abstract_in : Option ClassHead → Bool
abstract_in (Some head) = head.is_abstract
abstract_in None = false

-- the name of the parent, where there is one
abbrev pub parent_place : Option Word → Word → ℕ
parent_place (Some parent) name = parent.span.from
parent_place None name = name.span.from

-- a class without constructors calls its parent's without saying so
abbrev pub undeclared_call : Home → ℕ → ClassTree → Walk (Option ImpliedCall)
undeclared_call h class t =
    cond (list_any is_constructor t.members)
    (Gives None)
    (implied_call (setting h (Some class) false true) class (parent_place t.parent t.name))

-- the header, what it lacks, the parent's constructor
abbrev pub opening : List (List ℕ) → List Tree → Home → ℕ → ℕ → ClassTree → Walk (Option ImpliedCall)
opening objects units h n class t =
    onward (class_header objects units n t) (λ _.
    onward (missing_walk h.members h.heads class (abstract_in (slice_get h.heads class)) t.name.span.from) (λ _.
    undeclared_call h class t))

-- and then the members
abbrev pub class_step : List (List ℕ) → List Tree → Home → ℕ → ℕ → ClassTree → Walk TypedClass
class_step objects units h n class t =
    onward (opening objects units h n class t) (λ implied.
    members_from h class t.name.name (duplicates t.members) 0 t.members (opened h.heads class t.written implied))

-- ---- interfaces: a method of one has no body

abbrev pub signature_of : SignatureTree → TypedMethod
signature_of s = method_of s.name s.params false None

abbrev pub signature_step : Known → SignatureTree → Bool → TypedClass → Walk TypedClass
signature_step known s twice so_far = onward (signature_walk known s.result s.name s.params twice true) (λ _. Gives (with_method so_far (signature_of s)))

abbrev pub signatures_from : Known → List Bool → ℕ → List SignatureTree → TypedClass → Walk TypedClass
signatures_from known flags n [] so_far = Gives so_far
signatures_from known flags n (s ∷ ss) so_far = onward (signature_step known s (flag_at flags n) so_far) (signatures_from known flags (n + 1) ss)

abbrev pub interface_step : List (List ℕ) → List Tree → Home → ℕ → ℕ → InterfaceTree → Walk TypedClass
interface_step objects units h n class t =
    onward (unit_name_walk objects units n t.name) (λ _.
    signatures_from h.names (signature_duplicates t.methods) 0 t.methods (opened h.heads class t.written None))

-- ---- triggers and blocks

abbrev pub trigger_body : Home → ℕ → List Stmt → Walk (List TypedStmt)
trigger_body h object stmts = plain_body (scene_in h (trigger h object) Void) stmts

abbrev pub event_of : EventTree → TypedEvent
event_of e = record { after = e.after; op = e.op }

abbrev pub trigger_of : TriggerTree → ℕ → List TypedStmt → TypedTrigger
trigger_of t object stmts =
    record { name = text_of t.written; folded = t.name.name; object = object; events = map event_of t.events; body = stmts }

abbrev pub trigger_step : List (List ℕ) → List Tree → Home → ℕ → TriggerTree → Walk TypedTrigger
trigger_step objects units h n t =
    onward (trigger_header objects units n t) (λ object.
    onward (trigger_body h object (out-Body t.body).stmts) (λ stmts.
    Gives (trigger_of t object stmts)))

abbrev pub block_step : Home → List Stmt → Walk (List TypedStmt)
block_step h stmts = plain_body (scene_in h (setting h None true false) Void) stmts

-- ---- a unit by its number, behind the code of those before it

abbrev pub with_class : Code → TypedClass → Code
with_class code made = record { classes = code.classes ++ made ∷ []; triggers = code.triggers }

abbrev pub with_trigger : Code → TypedTrigger → Code
with_trigger code made = record { classes = code.classes; triggers = code.triggers ++ made ∷ [] }

-- a class or an interface has the next number of them
abbrev pub class_unit : List (List ℕ) → List Tree → Home → ℕ → ClassTree → Code → Walk Code
class_unit objects units h n t code = onward (class_step objects units h n (length code.classes) t) (λ made. Gives (with_class code made))

abbrev pub interface_unit : List (List ℕ) → List Tree → Home → ℕ → InterfaceTree → Code → Walk Code
interface_unit objects units h n t code = onward (interface_step objects units h n (length code.classes) t) (λ made. Gives (with_class code made))

-- a block has no place among units
abbrev pub unit_step : List (List ℕ) → List Tree → Home → ℕ → Tree → Code → Walk Code
unit_step objects units h n (U.Class t) code = class_unit objects units h n t code
unit_step objects units h n (U.Interface t) code = interface_unit objects units h n t code
unit_step objects units h n (U.Trigger t) code = onward (trigger_step objects units h n t) (λ made. Gives (with_trigger code made))
unit_step objects units h n (U.Block stmts) code = onward (block_step h stmts) (λ _. Gives code)
