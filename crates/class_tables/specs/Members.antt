-- Members as others see them (docs/language.md, "Members").
use Rattle.std.specs.Prelude.{Bool, true, false, List, [], ◌∷◌, map, flat_map, Option, None, Some}
use Rattle.apex_syntax.specs.declared.expr.TypeTree.{TypeTree}
use Rattle.apex_syntax.specs.declared.unit.ClassTree.{ClassTree}
use Rattle.apex_syntax.specs.declared.unit.InterfaceTree.{InterfaceTree}
use Rattle.apex_syntax.specs.declared.unit.MemberModifier.{MemberModifier}
use Rattle.apex_syntax.specs.declared.unit.MemberTree.{MemberTree}
use Rattle.apex_syntax.specs.declared.unit.MemberTree.TheVariants as M
use Rattle.apex_syntax.specs.declared.unit.MemberWord.TheVariants.{Static, Final, Override}
use Rattle.apex_syntax.specs.declared.unit.ParamTree.{ParamTree}
use Rattle.apex_syntax.specs.declared.unit.ResultTree.{ResultTree}
use Rattle.apex_syntax.specs.declared.unit.ResultTree.TheVariants as R
use Rattle.apex_syntax.specs.declared.unit.SignatureTree.{SignatureTree}
use Rattle.apex_syntax.specs.declared.unit.Unit.{Unit as Tree}
use Rattle.apex_syntax.specs.declared.unit.Unit.TheVariants as U
use Rattle.apex_syntax.specs.declared.word.Word.{Word}
use Rattle.static_types.specs.declared.kind.ValueType.{ValueType}
use Rattle.type_names.specs.TypeTrees.{Known, type_of}
use Rattle.type_names.specs.Walks.{Walk, Gives, Wrong}
use Rattle.class_tables.specs.declared.member.ClassMembers.{ClassMembers}
use Rattle.class_tables.specs.declared.member.ConstructorHead.{ConstructorHead}
use Rattle.class_tables.specs.declared.member.FieldHead.{FieldHead}
use Rattle.class_tables.specs.declared.member.MethodHead.{MethodHead}
use Rattle.class_tables.specs.declared.member.ResultHead.{ResultHead}
use Rattle.class_tables.specs.declared.member.ResultHead.TheVariants as H
use Rattle.class_tables.specs.Modifiers.{has_word, is_private, is_private_method, is_virtual}

-- ---- types; one that has a fault is none

abbrev pub given : Walk ValueType → Option ValueType
given (Gives kind) = Some kind
given (Wrong fault) = None

abbrev pub kind_of : Known → TypeTree → Option ValueType
kind_of known tree = given (type_of known tree)

abbrev pub result_kind : Option ValueType → ResultHead
result_kind (Some kind) = H.Value kind
result_kind None = H.Faulty

abbrev pub result_of : Known → ResultTree → ResultHead
result_of known (R.Void span) = H.Void
result_of known (R.Type tree) = result_kind (kind_of known tree)

abbrev pub param_of : Known → ParamTree → Option ValueType
param_of known p = kind_of known p.kind

-- ---- single members

abbrev pub field_head : Known → List MemberModifier → TypeTree → Word → FieldHead
field_head known ms kind word =
    record { name = word.name; kind = kind_of known kind; is_static = has_word Static ms; is_final = has_word Final ms; is_private = is_private ms }

abbrev pub method_head : Known → List MemberModifier → ResultTree → Word → List ParamTree → Bool → MethodHead
method_head known ms result word params has_body = record {
  name = word.name;
  result = result_of known result;
  params = map (param_of known) params;
  is_static = has_word Static ms;
  is_private = is_private_method ms has_body;
  is_virtual = is_virtual ms has_body;
  is_override = has_word Override ms;
  has_body = has_body;
}

-- a method of an interface has no body and no modifiers
abbrev pub signature_head : Known → SignatureTree → MethodHead
signature_head known s = method_head known [] s.result s.name s.params false

-- ---- the members of a class, each kind in the order of the text

abbrev pub has : {A : Type 0} → Option A → Bool
has (Some a) = true
has None = false

abbrev pub field_in : Known → MemberTree → List FieldHead
field_in known (M.Field span ms kind word value) = field_head known ms kind word ∷ []
field_in known (M.Property span ms kind word) = field_head known ms kind word ∷ []
field_in known _ = []

abbrev pub method_in : Known → MemberTree → List MethodHead
method_in known (M.Method span ms result word params body) = method_head known ms result word params (has body) ∷ []
method_in known _ = []

abbrev pub constructor_in : Known → MemberTree → List ConstructorHead
constructor_in known (M.Constructor span ms word params body) = record { params = map (param_of known) params; is_private = is_private ms } ∷ []
constructor_in known _ = []

abbrev pub fields_of : Known → List MemberTree → List FieldHead
fields_of known = flat_map (field_in known)

abbrev pub methods_of : Known → List MemberTree → List MethodHead
methods_of known = flat_map (method_in known)

abbrev pub constructors_of : Known → List MemberTree → List ConstructorHead
constructors_of known = flat_map (constructor_in known)

abbrev pub class_members : Known → ClassTree → ClassMembers
class_members known t = record { fields = fields_of known t.members; methods = methods_of known t.members; constructors = constructors_of known t.members }

abbrev pub interface_members : Known → InterfaceTree → ClassMembers
interface_members known t = record { fields = []; methods = map (signature_head known) t.methods; constructors = [] }

-- ---- all classes and interfaces, in the order of their numbers

abbrev pub members_in : Known → Tree → List ClassMembers
members_in known (U.Class t) = class_members known t ∷ []
members_in known (U.Interface t) = interface_members known t ∷ []
members_in known _ = []

abbrev pub members_among : Known → List Tree → List ClassMembers
members_among known = flat_map (members_in known)
