-- What stands in front of the members of classes and interfaces (docs/language.md, "Classes").
use Rattle.std.specs.Prelude.{ℕ, ◌+◌, Bool, true, false, List, [], ◌∷◌, ◌++◌, flat_map, filter_map, slice_get, Option, None, Some}
use Rattle.std.specs.List.{list_any}
use Rattle.apex_schema.specs.declared.schema.Mode.{Mode}
use Rattle.apex_schema.specs.declared.schema.Mode.TheVariants as M
use Rattle.apex_syntax.specs.declared.unit.ClassModifier.{ClassModifier}
use Rattle.apex_syntax.specs.declared.unit.ClassTree.{ClassTree}
use Rattle.apex_syntax.specs.declared.unit.ClassWord.{ClassWord}
use Rattle.apex_syntax.specs.declared.unit.ClassWord.TheVariants as W
use Rattle.apex_syntax.specs.declared.unit.Unit.{Unit as Tree}
use Rattle.apex_syntax.specs.declared.unit.Unit.TheVariants as U
use Rattle.apex_syntax.specs.declared.word.Word.{Word}
use Rattle.static_types.specs.declared.kind.ValueType.{ValueType}
use Rattle.static_types.specs.declared.kind.ValueType.TheOpen.{ValueType-F}
use Rattle.static_types.specs.declared.kind.ValueType.TheViews.{out-ValueType}
use Rattle.type_names.specs.TypeTrees.{Known, named_type}
use Rattle.type_names.specs.Walks.{Walk, Gives, Wrong}
use Rattle.class_tables.specs.declared.head.ClassHead.{ClassHead}
use Rattle.class_tables.specs.declared.head.Parent.{Parent}
use Rattle.class_tables.specs.declared.head.Parent.TheVariants as P

-- ---- the names of units

abbrev pub unit_name : Tree → List ℕ
unit_name (U.Class t) = t.name.name
unit_name (U.Interface t) = t.name.name
unit_name (U.Trigger t) = t.name.name
unit_name (U.Block stmts) = []

-- classes and interfaces are numbered in the order of their units
abbrev pub class_name : Tree → List (List ℕ)
class_name (U.Class t) = t.name.name ∷ []
class_name (U.Interface t) = t.name.name ∷ []
class_name _ = []

abbrev pub class_names : List Tree → List (List ℕ)
class_names = flat_map class_name

-- whether each of them is an interface
abbrev pub is_interface : Tree → List Bool
is_interface (U.Class t) = false ∷ []
is_interface (U.Interface t) = true ∷ []
is_interface _ = []

abbrev pub interfaces_among : List Tree → List Bool
interfaces_among = flat_map is_interface

-- ---- modifiers

abbrev pub is_abstract_word : ClassWord → Bool
is_abstract_word W.Abstract = true
is_abstract_word _ = false

abbrev pub is_open_word : ClassWord → Bool
is_open_word W.Virtual = true
is_open_word W.Abstract = true
is_open_word _ = false

abbrev pub any_word : (ClassWord → Bool) → List ClassModifier → Bool
any_word test = list_any (λ (m : ClassModifier). test m.word)

-- the last word on sharing counts; without one, and with `inherited`, the mode is the caller's
abbrev pub sharing_after : Option Mode → ClassWord → Option Mode
sharing_after mode W.WithSharing = Some M.Sharing
sharing_after mode W.WithoutSharing = Some M.Without
sharing_after mode W.InheritedSharing = None
sharing_after mode _ = mode

abbrev pub sharing_from : Option Mode → List ClassModifier → Option Mode
sharing_from mode [] = mode
sharing_from mode (m ∷ ms) = sharing_from (sharing_after mode m.word) ms

-- ---- what names in a header say; a name with a fault says nothing

-- a class, `Exception`, or nothing
abbrev pub class_or_none : Option Bool → ℕ → Parent
class_or_none (Some false) c = P.Class c
class_or_none _ c = P.None

abbrev pub parent_type : List Bool → ValueType-F ValueType → Parent
parent_type interfaces (ValueType-F.Class c) = class_or_none (slice_get interfaces c) c
parent_type interfaces ValueType-F.AnyException = P.Exception
parent_type interfaces _ = P.None

abbrev pub parent_in : List Bool → Walk ValueType → Parent
parent_in interfaces (Gives kind) = parent_type interfaces (out-ValueType kind)
parent_in interfaces (Wrong fault) = P.None

abbrev pub parent_named : Known → List Bool → Option Word → Parent
parent_named known interfaces None = P.None
parent_named known interfaces (Some w) = parent_in interfaces (named_type known w.name None w.span.from)

abbrev pub interface_or_none : Option Bool → ℕ → Option ℕ
interface_or_none (Some true) c = Some c
interface_or_none _ c = None

abbrev pub interface_type : List Bool → ValueType-F ValueType → Option ℕ
interface_type interfaces (ValueType-F.Class c) = interface_or_none (slice_get interfaces c) c
interface_type interfaces _ = None

abbrev pub interface_in : List Bool → Walk ValueType → Option ℕ
interface_in interfaces (Gives kind) = interface_type interfaces (out-ValueType kind)
interface_in interfaces (Wrong fault) = None

abbrev pub interface_named : Known → List Bool → Word → Option ℕ
interface_named known interfaces w = interface_in interfaces (named_type known w.name None w.span.from)

-- ---- heads

abbrev pub class_head : Known → List Bool → ℕ → ClassTree → ClassHead
class_head known interfaces n t = record {
  unit = n;
  interface = false;
  extendable = any_word is_open_word t.modifiers;
  is_abstract = any_word is_abstract_word t.modifiers;
  sharing = sharing_from None t.modifiers;
  parent = parent_named known interfaces t.parent;
  interfaces = filter_map (interface_named known interfaces) t.interfaces;
}

abbrev pub interface_head : ℕ → ClassHead
interface_head n = record { unit = n; interface = true; extendable = false; is_abstract = true; sharing = None; parent = P.None; interfaces = [] }

abbrev pub head_of : Known → List Bool → ℕ → Tree → List ClassHead
head_of known interfaces n (U.Class t) = class_head known interfaces n t ∷ []
head_of known interfaces n (U.Interface t) = interface_head n ∷ []
head_of known interfaces n _ = []

-- the units from the one with number `n` on
abbrev pub heads_from : Known → List Bool → ℕ → List Tree → List ClassHead
heads_from known interfaces n [] = []
heads_from known interfaces n (u ∷ us) = head_of known interfaces n u ++ heads_from known interfaces (n + 1) us

abbrev pub known_of : List (List ℕ) → List Tree → Known
known_of objects units = record { objects = objects; classes = class_names units }

-- the heads of all classes and interfaces, in the order of their numbers
abbrev pub heads_of : List (List ℕ) → List Tree → List ClassHead
heads_of objects units = heads_from (known_of objects units) (interfaces_among units) 0 units
