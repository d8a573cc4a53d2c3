-- What names mean in small tenants.
use Rattle.std.proofs.Common.{◌≡◌, ℕ, Bool, true, false, List, [], ◌∷◌, codes, Option, None, Some, refl}
use Rattle.apex_syntax.specs.declared.word.Word.{Word}
use Rattle.class_tables.specs.declared.head.ClassHead.{ClassHead}
use Rattle.class_tables.specs.declared.head.Parent.{Parent}
use Rattle.class_tables.specs.declared.head.Parent.TheVariants as P
use Rattle.class_tables.specs.declared.member.ClassMembers.{ClassMembers}
use Rattle.class_tables.specs.declared.member.FieldHead.{FieldHead}
use Rattle.fault_words.specs.declared.fault.FaultWord.TheVariants.{UnknownName, NotVisible}
use Rattle.name_meanings.specs.Accesses.{instance_access, static_access}
use Rattle.name_meanings.specs.declared.access.Access.TheVariants as A
use Rattle.name_meanings.specs.declared.name.Meaning.TheVariants as M
use Rattle.name_meanings.specs.Fields.{field_use}
use Rattle.name_meanings.specs.NamesAlone.{meaning_of}
use Rattle.name_meanings.specs.Settings.{Around}
use Rattle.static_types.specs.Names.{type_names}
use Rattle.type_names.specs.Walks.{Gives, wrong}
use Rattle.typed_values.specs.declared.typed.Space.TheVariants as S

-- ---- heads, fields, places of code

abbrev class : Parent → ClassHead
class parent = record { unit = 0; interface = false; extendable = true; is_abstract = false; sharing = None; parent = parent; interfaces = [] }

abbrev fields : List FieldHead → ClassMembers
fields fs = record { fields = fs; methods = []; constructors = [] }

-- a field that is static or not, and private or not
abbrev field : Bool → Bool → List ℕ → FieldHead
field is_static is_private name = record { name = name; kind = None; is_static = is_static; is_final = false; is_private = is_private }

-- code of the class with this number, static or with a `this`
abbrev code : List (List ℕ) → List (List ℕ) → List ClassHead → List ClassMembers → ℕ → Bool → Around
code objects classes heads members own is_static = record {
  names = record { objects = objects; classes = classes };
  heads = heads;
  members = members;
  objects = [];
  class = Some own;
  is_static = is_static;
  in_constructor = false;
  trigger = None;
}

abbrev word : List ℕ → Word
word name = record { span = record { from = 7; to = 8 }; name = name }

-- ---- class C { Integer d; } class D { }

abbrev beside : Bool → Around
beside = code [] (codes "c" ∷ codes "d" ∷ []) (class P.None ∷ class P.None ∷ []) (fields (field false true (codes "d") ∷ []) ∷ fields [] ∷ []) 0

hides_nothing : meaning_of (beside true) [] (word (codes "d")) ≡ Gives (M.Space (S.Class 1))
unfolding type_names
hides_nothing = refl

hides_a_class : meaning_of (beside false) [] (word (codes "d")) ≡ Gives (M.Own (record { class = 0; place = 0 }) true)
hides_a_class = refl

-- ---- virtual class P { public static String x; } class C extends P { Integer x; }

abbrev over_a_static : Bool → Around
over_a_static = code [] [] (class P.None ∷ class (P.Class 0) ∷ []) (fields (field true false (codes "x") ∷ []) ∷ fields (field false true (codes "x") ∷ []) ∷ []) 1

own_before_static : meaning_of (over_a_static false) [] (word (codes "x")) ≡ Gives (M.Own (record { class = 1; place = 0 }) true)
own_before_static = refl

static_of_the_parent : meaning_of (over_a_static true) [] (word (codes "x")) ≡ Gives (M.Static (record { class = 0; place = 0 }) true)
static_of_the_parent = refl

behind_the_class : static_access (field_use (over_a_static true) 1 true (codes "x")) 7 ≡ Gives (A.Static (record { class = 0; place = 0 }) true)
behind_the_class = refl

behind_a_value : instance_access (field_use (over_a_static true) 1 false (codes "x")) 7 ≡ Gives (A.Field (record { class = 1; place = 0 }) true)
behind_a_value = refl

-- ---- virtual class P { public String x; } class C extends P { static Integer x; }

abbrev over_an_instance : Bool → Around
over_an_instance = code [] [] (class P.None ∷ class (P.Class 0) ∷ []) (fields (field false false (codes "x") ∷ []) ∷ fields (field true true (codes "x") ∷ []) ∷ []) 1

of_the_parent : meaning_of (over_an_instance false) [] (word (codes "x")) ≡ Gives (M.Own (record { class = 0; place = 0 }) true)
of_the_parent = refl

own_static : meaning_of (over_an_instance true) [] (word (codes "x")) ≡ Gives (M.Static (record { class = 1; place = 0 }) true)
own_static = refl

static_of_the_parent_only : static_access (field_use (over_an_instance true) 0 true (codes "x")) 7 ≡ wrong UnknownName 7
static_of_the_parent_only = refl

-- ---- virtual class P { String x; } class C extends P { }: private ones

abbrev hidden : Bool → Around
hidden = code [] [] (class P.None ∷ class (P.Class 0) ∷ []) (fields (field false true (codes "x") ∷ []) ∷ fields [] ∷ []) 1

not_visible : meaning_of (hidden false) [] (word (codes "x")) ≡ wrong NotVisible 7
not_visible = refl

unknown_in_static_code : meaning_of (hidden true) [] (word (codes "x")) ≡ wrong UnknownName 7
unfolding type_names
unknown_in_static_code = refl

-- ---- an object and a class of one name

abbrev account : Bool → Around
account = code (codes "account" ∷ []) (codes "y" ∷ codes "account" ∷ []) (class P.None ∷ class P.None ∷ []) (fields [] ∷ fields [] ∷ []) 0

a_class_first : meaning_of (account true) [] (word (codes "account")) ≡ Gives (M.Space (S.Class 1))
unfolding type_names
a_class_first = refl
