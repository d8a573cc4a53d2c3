-- Fields of classes as code may use them (docs/language.md, "Names in code").
use Rattle.std.specs.Prelude.{ℕ, ◌&&◌, ◌||◌, not, eqb, Bool, false, cond, List, Option, None, Some}
use Rattle.class_tables.specs.declared.member.ClassMembers.{ClassMembers}
use Rattle.class_tables.specs.declared.member.FieldHead.{FieldHead}
use Rattle.class_tables.specs.declared.tables.Member.{Member}
use Rattle.class_tables.specs.Lookups.{field_at, found_field}
use Rattle.name_meanings.specs.declared.field.FieldUse.{FieldUse}
use Rattle.name_meanings.specs.declared.field.FieldUse.TheVariants.{Unknown, Hidden, Found}
use Rattle.name_meanings.specs.Settings.{Around}
use Rattle.static_types.specs.declared.kind.ValueType.{ValueType}
use Rattle.typed_program.specs.declared.expr.TypedExpr.TheVariants as T
use Rattle.typed_values.specs.declared.typed.Kind.{Kind}
use Rattle.typed_values.specs.declared.typed.Kind.TheVariants.{Faulty, Is}
use Rattle.typed_values.specs.declared.typed.Role.{Role}
use Rattle.typed_values.specs.declared.typed.Role.TheVariants.{Plain, Variable}
use Rattle.typed_values.specs.declared.typed.Typed.{Typed}
use Rattle.typed_values.specs.Fits.{typed}

abbrev pub is_own : Option ℕ → ℕ → Bool
is_own (Some c) declares = eqb c declares
is_own None declares = false

-- a final field of an instance is set in its class's constructors alone, a final static nowhere
abbrev pub may_set : Around → FieldHead → ℕ → Bool
may_set a f class = not f.is_final || (not f.is_static && (a.in_constructor && is_own a.class class))

-- a private field is seen in its own class alone
abbrev pub use_of : Around → Member → FieldHead → FieldUse
use_of a member f = cond (f.is_private && not (is_own a.class member.class)) Hidden (Found member (may_set a f member.class))

abbrev pub use_or : Around → Member → Option FieldHead → FieldUse
use_or a member (Some f) = use_of a member f
use_or a member None = Unknown

abbrev pub use_found : Around → Option Member → FieldUse
use_found a (Some member) = use_or a member (field_at a.members member)
use_found a None = Unknown

-- statics and fields of instances are looked for apart
abbrev pub field_use : Around → ℕ → Bool → List ℕ → FieldUse
field_use a class is_static name = use_found a (found_field a.members a.heads class is_static name)

-- a type that has a fault is told elsewhere
abbrev pub known_kind : Option ValueType → Kind
known_kind (Some kind) = Is kind
known_kind None = Faulty

abbrev pub kind_or : Option FieldHead → Kind
kind_or (Some f) = known_kind f.kind
kind_or None = Faulty

abbrev pub field_kind : List ClassMembers → Member → Kind
field_kind all member = kind_or (field_at all member)

abbrev pub role_of : Bool → Role
role_of sets = cond sets Variable Plain

abbrev pub static_value : List ClassMembers → ℕ → Member → Bool → Typed
static_value all at member sets = typed at (field_kind all member) (role_of sets) (T.Static member.class member.place)
