-- Where a member is found (docs/language.md, "Members").
use Rattle.std.specs.Prelude.{ℕ, Bool, true, false, cond, List, [], ◌∷◌, length, map, slice_get, Option, None, Some}
use Rattle.schema_names.specs.Names.{place_of}
use Rattle.class_tables.specs.declared.head.ClassHead.{ClassHead}
use Rattle.class_tables.specs.Lines.{line_of}
use Rattle.class_tables.specs.declared.key.MethodKey.{MethodKey}
use Rattle.class_tables.specs.declared.member.ClassMembers.{ClassMembers}
use Rattle.class_tables.specs.declared.member.ConstructorHead.{ConstructorHead}
use Rattle.class_tables.specs.declared.member.FieldHead.{FieldHead}
use Rattle.class_tables.specs.declared.member.MethodHead.{MethodHead}
use Rattle.class_tables.specs.declared.tables.Member.{Member}
use Rattle.class_tables.specs.Keys.{key, place_of_key}

-- ---- in one class: the first of that kind, that name and that number of parameters; statics are one kind, members of
-- ---- instances another

-- the name by which a field of one kind is found; one of the other kind has none there
abbrev pub name_of_kind : Bool → FieldHead → List ℕ
name_of_kind true f = cond f.is_static f.name []
name_of_kind false f = cond f.is_static [] f.name

abbrev pub method_key : MethodHead → MethodKey
method_key m = key m.is_static m.name (length m.params)

-- a constructor has no name
abbrev pub constructor_key : ConstructorHead → MethodKey
constructor_key c = key false [] (length c.params)

abbrev pub own_field : Bool → List ℕ → ClassMembers → Option ℕ
own_field is_static name m = place_of (map (name_of_kind is_static) m.fields) name

abbrev pub own_method : MethodKey → ClassMembers → Option ℕ
own_method k m = place_of_key (map method_key m.methods) k

abbrev pub own_constructor : ℕ → ClassMembers → Option ℕ
own_constructor count m = place_of_key (map constructor_key m.constructors) (key false [] count)

-- ---- along a class and its ancestors, nearest first

abbrev pub in_table : (ClassMembers → Option ℕ) → Option ClassMembers → Option ℕ
in_table own (Some m) = own m
in_table own None = None

abbrev pub or_in : ℕ → Option ℕ → Option Member → Option Member
or_in c (Some n) later = Some (record { class = c; place = n })
or_in c None later = later

abbrev pub first_in : (ClassMembers → Option ℕ) → List ClassMembers → List ℕ → Option Member
first_in own all [] = None
first_in own all (c ∷ cs) = or_in c (in_table own (slice_get all c)) (first_in own all cs)

abbrev pub found_field : List ClassMembers → List ClassHead → ℕ → Bool → List ℕ → Option Member
found_field all heads c is_static name = first_in (own_field is_static name) all (line_of heads c)

abbrev pub found_method : List ClassMembers → List ClassHead → ℕ → MethodKey → Option Member
found_method all heads c k = first_in (own_method k) all (line_of heads c)

-- ---- the member in a place

abbrev pub field_in : Option ClassMembers → ℕ → Option FieldHead
field_in (Some m) n = slice_get m.fields n
field_in None n = None

abbrev pub field_at : List ClassMembers → Member → Option FieldHead
field_at all member = field_in (slice_get all member.class) member.place

abbrev pub method_in : Option ClassMembers → ℕ → Option MethodHead
method_in (Some m) n = slice_get m.methods n
method_in None n = None

abbrev pub method_at : List ClassMembers → Member → Option MethodHead
method_at all member = method_in (slice_get all member.class) member.place
