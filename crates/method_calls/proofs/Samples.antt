-- What calls mean in small tenants.
use Rattle.std.proofs.Common.{◌≡◌, ℕ, Bool, true, false, not, List, [], ◌∷◌, codes, map, replicate, Option, None, Some, refl}
use Rattle.apex_syntax.specs.declared.word.Word.{Word}
use Rattle.class_tables.specs.declared.head.ClassHead.{ClassHead}
use Rattle.class_tables.specs.declared.head.Parent.{Parent}
use Rattle.class_tables.specs.declared.head.Parent.TheVariants as P
use Rattle.class_tables.specs.declared.member.ClassMembers.{ClassMembers}
use Rattle.class_tables.specs.declared.member.MethodHead.{MethodHead}
use Rattle.class_tables.specs.declared.member.ResultHead.TheVariants as H
use Rattle.fault_words.specs.declared.fault.FaultWord.TheVariants.{UnknownName, NotVisible}
use Rattle.method_calls.specs.Callees.{called_alone, behind_super, type_method, space_method}
use Rattle.method_calls.specs.declared.callee.Callee.TheVariants as C
use Rattle.method_calls.specs.MethodNamings.{Namings, names_of_methods}
use Rattle.name_meanings.specs.Settings.{Around}
use Rattle.static_types.specs.declared.kind.ValueType.TheOpen.{ValueType-F}
use Rattle.type_names.specs.Walks.{Gives, wrong}
use Rattle.typed_values.specs.declared.typed.Space.TheVariants as S

-- ---- heads, methods, places of code

abbrev class : Bool → Parent → List ℕ → ClassHead
class is_abstract parent interfaces =
    record { unit = 0; interface = false; extendable = true; is_abstract = is_abstract; sharing = None; parent = parent; interfaces = interfaces }

abbrev interface : ClassHead
interface = record { unit = 0; interface = true; extendable = false; is_abstract = true; sharing = None; parent = P.None; interfaces = [] }

abbrev methods : List MethodHead → ClassMembers
methods ms = record { fields = []; methods = ms; constructors = [] }

abbrev method : Bool → Bool → Bool → List ℕ → ℕ → MethodHead
method is_static is_private has_body name count = record {
  name = name;
  result = H.Void;
  params = replicate count None;
  is_static = is_static;
  is_private = is_private;
  is_virtual = not has_body;
  is_override = false;
  has_body = has_body;
}

-- code of a class, or of none, static or with a `this`
abbrev code : List ClassHead → List ClassMembers → Option ℕ → Bool → Around
code heads members own is_static = record {
  names = record { objects = []; classes = [] };
  heads = heads;
  members = members;
  objects = [];
  class = own;
  is_static = is_static;
  in_constructor = false;
  trigger = None;
}

abbrev namings : List ClassMembers → Namings
namings members = map (λ (m : ClassMembers). names_of_methods m.methods) members

abbrev m : Word
m = record { span = record { from = 7; to = 8 }; name = codes "m" }

-- ---- class X { void m() { } static void f() { X.m(1); m(1); X.m(); } }

abbrev an_instance : List ClassMembers
an_instance = methods (method false true true (codes "m") 0 ∷ []) ∷ []

abbrev static_code : List ClassMembers → Around
static_code members = code (class false P.None [] ∷ []) members (Some 0) true

abbrev own_code : List ClassMembers → Around
own_code members = code (class false P.None [] ∷ []) members (Some 0) false

by_the_class : space_method (static_code an_instance) (namings an_instance) (S.Class 0) 5 m 1 ≡ wrong UnknownName 7
by_the_class = refl

by_the_class_rightly : space_method (static_code an_instance) (namings an_instance) (S.Class 0) 5 m 0 ≡ wrong UnknownName 7
by_the_class_rightly = refl

alone_in_static_code : called_alone (static_code an_instance) (namings an_instance) m 1 ≡ wrong UnknownName 7
alone_in_static_code = refl

alone : called_alone (own_code an_instance) (namings an_instance) m 0 ≡ Gives (C.Method (record { class = 0; place = 0 }) false)
alone = refl

alone_with_one_more : called_alone (own_code an_instance) (namings an_instance) m 1 ≡ Gives C.WrongCount
alone_with_one_more = refl

-- ---- class X { static void m() { } void f(X a) { a.m(); a.m(1); m(1); m(); } }

abbrev a_static : List ClassMembers
a_static = methods (method true true true (codes "m") 0 ∷ []) ∷ []

through_an_instance : type_method (own_code a_static) (namings a_static) (ValueType-F.Class 0) m 0 ≡ wrong UnknownName 7
through_an_instance = refl

through_an_instance_with_one : type_method (own_code a_static) (namings a_static) (ValueType-F.Class 0) m 1 ≡ wrong UnknownName 7
through_an_instance_with_one = refl

static_alone : called_alone (own_code a_static) (namings a_static) m 0 ≡ Gives (C.Static (record { class = 0; place = 0 }))
static_alone = refl

static_alone_with_one : called_alone (own_code a_static) (namings a_static) m 1 ≡ Gives C.WrongCount
static_alone_with_one = refl

-- ---- class X { static void m() { } void m(Integer i) { } static void f() { m(1); } }

abbrev of_both_kinds : List ClassMembers
of_both_kinds = methods (method true true true (codes "m") 0 ∷ method false true true (codes "m") 1 ∷ []) ∷ []

in_static_code : called_alone (static_code of_both_kinds) (namings of_both_kinds) m 1 ≡ Gives C.WrongCount
in_static_code = refl

with_this : called_alone (own_code of_both_kinds) (namings of_both_kinds) m 1 ≡ Gives (C.Method (record { class = 0; place = 1 }) false)
with_this = refl

-- ---- abstract class X { static void m(); static void f() { m(); m(1); } }

abbrev without_a_body : List ClassMembers
without_a_body = methods (method true false false (codes "m") 0 ∷ []) ∷ []

never_runs : called_alone (static_code without_a_body) (namings without_a_body) m 0 ≡ wrong UnknownName 7
never_runs = refl

never_runs_with_one : called_alone (static_code without_a_body) (namings without_a_body) m 1 ≡ wrong UnknownName 7
never_runs_with_one = refl

-- ---- interface I { void m(); } abstract class A implements I { } abstract class B extends A { .. }

abbrev open_heads : List ClassHead
open_heads = interface ∷ class true P.None (0 ∷ []) ∷ class true (P.Class 1) [] ∷ []

abbrev open_members : List ClassMembers
open_members = methods (method false false false (codes "m") 0 ∷ []) ∷ methods [] ∷ methods [] ∷ []

abbrev in_the_child : Around
in_the_child = code open_heads open_members (Some 2) false

left_open : called_alone in_the_child (namings open_members) m 0 ≡ Gives (C.Method (record { class = 0; place = 0 }) true)
left_open = refl

left_open_on_a_value : type_method in_the_child (namings open_members) (ValueType-F.Class 1) m 0 ≡ Gives (C.Method (record { class = 0; place = 0 }) true)
left_open_on_a_value = refl

left_open_with_one : type_method in_the_child (namings open_members) (ValueType-F.Class 1) m 1 ≡ Gives C.WrongCount
left_open_with_one = refl

left_open_behind_super : behind_super in_the_child (namings open_members) (P.Class 1) m 0 ≡ wrong UnknownName 7
left_open_behind_super = refl

left_open_behind_super_with_one : behind_super in_the_child (namings open_members) (P.Class 1) m 1 ≡ wrong UnknownName 7
left_open_behind_super_with_one = refl

-- ---- class X { private void m() { } } and code of another class; a child that calls it behind `super`

abbrev a_parent : List ClassMembers
a_parent = methods (method false true true (codes "m") 0 ∷ []) ∷ methods [] ∷ []

abbrev of_the_child : Around
of_the_child = code (class false P.None [] ∷ class false (P.Class 0) [] ∷ []) a_parent (Some 1) false

of_another_class : type_method of_the_child (namings a_parent) (ValueType-F.Class 0) m 0 ≡ wrong NotVisible 7
of_another_class = refl

behind_super_hidden : behind_super of_the_child (namings a_parent) (P.Class 0) m 0 ≡ wrong NotVisible 7
behind_super_hidden = refl

abbrev an_open_parent : List ClassMembers
an_open_parent = methods (method false false true (codes "m") 0 ∷ []) ∷ methods [] ∷ []

behind_super_itself : behind_super (code (class false P.None [] ∷ class false (P.Class 0) [] ∷ []) an_open_parent (Some 1) false) (namings an_open_parent) (P.Class 0) m 0
    ≡ Gives (C.Method (record { class = 0; place = 0 }) false)
behind_super_itself = refl
