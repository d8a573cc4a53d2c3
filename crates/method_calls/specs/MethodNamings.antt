-- How methods are called, and the names of those that may be called so, however many parameters they have
-- (docs/language.md, "Calls").
use Rattle.std.specs.Prelude.{ℕ, ◌&&◌, ◌||◌, not, Bool, cond, List, [], ◌∷◌, flat_map, map, slice_get, is_some, Option, None, Some}
use Rattle.std.specs.List.{list_any}
use Rattle.class_tables.specs.declared.head.ClassHead.{ClassHead}
use Rattle.class_tables.specs.Lines.{line_of}
use Rattle.class_tables.specs.declared.member.MethodHead.{MethodHead}
use Rattle.class_tables.specs.declared.table.MemberTable.{MemberTable}
use Rattle.method_calls.specs.declared.named.ClassNames.{ClassNames as Places}
use Rattle.method_calls.specs.declared.named.MethodNames.{MethodNames}
use Rattle.method_calls.specs.declared.named.Way.{Way}
use Rattle.method_calls.specs.declared.named.Way.TheVariants.{Static, Instance, Super}
use Rattle.schema_names.specs.Names.{place_of}

-- a static method is called on its class; one of an instance on the instance, where the nearest one of the instance's
-- own class runs, but for private ones; or through `super`, where it runs itself. What would run itself has a body
abbrev pub may_run : Way → MethodHead → Bool
may_run Static m = m.is_static && m.has_body
may_run Instance m = not m.is_static && (m.has_body || not m.is_private)
may_run Super m = not m.is_static && m.has_body

-- the names of the methods of a class that may run when they are called so
abbrev pub name_for : Way → MethodHead → List (List ℕ)
name_for way m = cond (may_run way m) (m.name ∷ []) []

abbrev pub names_for : Way → List MethodHead → List (List ℕ)
names_for way = flat_map (name_for way)

pub record ClassNames : Type 0 where
  pub statics : List (List ℕ)
  pub instances : List (List ℕ)
  pub supers : List (List ℕ)

abbrev pub Namings : Type 0
Namings = List ClassNames

abbrev pub names_of_methods : List MethodHead → ClassNames
names_of_methods ms = record { statics = names_for Static ms; instances = names_for Instance ms; supers = names_for Super ms }

abbrev pub names_of_table : MemberTable → ClassNames
names_of_table t = names_of_methods t.members.methods

abbrev pub names_in : Places → ClassNames
names_in p = record { statics = p.statics.names.items; instances = p.instances.names.items; supers = p.supers.names.items }

abbrev pub namings : MethodNames → Namings
namings n = map names_in n.classes

abbrev pub called_so : Way → ClassNames → List (List ℕ)
called_so Static names = names.statics
called_so Instance names = names.instances
called_so Super names = names.supers

abbrev pub place_in : Way → Option ClassNames → List ℕ → Option ℕ
place_in way (Some names) name = place_of (called_so way names) name
place_in way None name = None

abbrev pub has_named : Namings → Way → List ℕ → ℕ → Bool
has_named all way name class = is_some (place_in way (slice_get all class) name)

-- ---- the classes where a method is looked for: a class and its ancestors, and then the interfaces that the abstract
-- ---- ones of these name, whose methods they have where they leave them open

abbrev pub open_or : Option ClassHead → List ℕ
open_or (Some h) = cond h.is_abstract h.interfaces []
open_or None = []

abbrev pub open_at : List ClassHead → ℕ → List ℕ
open_at heads class = open_or (slice_get heads class)

abbrev pub has_open : Namings → Way → List ℕ → List ClassHead → ℕ → Bool
has_open all way name heads class = list_any (has_named all way name) (open_at heads class)

abbrev pub is_named : Namings → Way → List ClassHead → ℕ → List ℕ → Bool
is_named all way heads class name =
    list_any (has_named all way name) (line_of heads class) || list_any (has_open all way name heads) (line_of heads class)
