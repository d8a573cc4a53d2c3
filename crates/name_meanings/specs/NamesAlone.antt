-- Names that stand alone (docs/language.md, "Names in code").
use Rattle.std.specs.Prelude.{ℕ, Bool, true, false, cond, List, Option, None, Some}
use Rattle.fault_words.specs.declared.fault.FaultWord.TheVariants.{UnknownName, NotVisible}
use Rattle.apex_syntax.specs.declared.word.Word.{Word}
use Rattle.class_tables.specs.declared.member.ClassMembers.{ClassMembers}
use Rattle.class_tables.specs.declared.tables.Member.{Member}
use Rattle.local_scopes.specs.Scopes.{slot_of, kind_in}
use Rattle.name_meanings.specs.declared.field.FieldUse.{FieldUse}
use Rattle.name_meanings.specs.declared.field.FieldUse.TheVariants.{Unknown, Hidden, Found}
use Rattle.name_meanings.specs.declared.name.Meaning.{Meaning}
use Rattle.name_meanings.specs.declared.name.Meaning.TheVariants as M
use Rattle.name_meanings.specs.Fields.{field_use, field_kind, known_kind, role_of, static_value}
use Rattle.name_meanings.specs.Parts.{with_part}
use Rattle.name_meanings.specs.Settings.{Around}
use Rattle.name_meanings.specs.Spaces.{space_named}
use Rattle.static_types.specs.declared.kind.ValueType.{ValueType}
use Rattle.static_types.specs.declared.kind.ValueType.TheVariants as V
use Rattle.type_names.specs.Walks.{Walk, Gives, wrong, onward}
use Rattle.typed_program.specs.declared.expr.Constant.TheVariants.{Null}
use Rattle.typed_program.specs.declared.expr.TypedExpr.TheVariants as T
use Rattle.typed_program.specs.declared.expr.TypedPart.TheVariants as Part
use Rattle.typed_values.specs.declared.typed.Kind.{Kind}
use Rattle.typed_values.specs.declared.typed.Kind.TheVariants as K
use Rattle.typed_values.specs.declared.typed.Role.TheVariants as R
use Rattle.typed_values.specs.declared.typed.Typed.{Typed}
use Rattle.typed_values.specs.Fits.{typed, plain}

abbrev pub space_meaning : Around → Word → Walk Meaning
space_meaning a w = onward (space_named a.names w) (λ space. Gives (M.Space space))

-- a static, and then what stands before a dot
abbrev pub static_meaning : Around → FieldUse → Word → Walk Meaning
static_meaning a Unknown w = space_meaning a w
static_meaning a Hidden w = wrong NotVisible w.span.from
static_meaning a (Found member sets) w = Gives (M.Static member sets)

-- a field of `this`, and then a static
abbrev pub field_meaning : Around → ℕ → FieldUse → Word → Walk Meaning
field_meaning a class Unknown w = static_meaning a (field_use a class true w.name) w
field_meaning a class Hidden w = wrong NotVisible w.span.from
field_meaning a class (Found member sets) w = Gives (M.Own member sets)

-- where there is no `this`, fields of instances are passed over
abbrev pub own_use : Around → ℕ → List ℕ → FieldUse
own_use a class name = cond a.is_static Unknown (field_use a class false name)

abbrev pub meaning_in : Around → Option ℕ → Word → Walk Meaning
meaning_in a (Some class) w = field_meaning a class (own_use a class w.name) w
meaning_in a None w = space_meaning a w

abbrev pub class_meaning : Around → Word → Walk Meaning
class_meaning a w = meaning_in a a.class w

abbrev pub local_or : Option ℕ → Around → Word → Walk Meaning
local_or (Some slot) a w = Gives (M.Local slot)
local_or None a w = class_meaning a w

-- a local, a field of `this`, a static, and then what stands before a dot
abbrev pub meaning_of : Around → List (List ℕ × ValueType) → Word → Walk Meaning
meaning_of a scope w = local_or (slot_of scope w.name) a w

abbrev pub local_kind : List (List ℕ × ValueType) → ℕ → Kind
local_kind scope slot = known_kind (kind_in scope slot)

abbrev pub own_field : List ClassMembers → ℕ → Member → Bool → Typed
own_field all at member sets = typed at (field_kind all member) (role_of sets) (with_part T.This (Part.Field member.class member.place))

abbrev pub meant : List ClassMembers → List (List ℕ × ValueType) → ℕ → Meaning → Typed
meant all scope at (M.Local slot) = typed at (local_kind scope slot) R.Variable (T.Local slot)
meant all scope at (M.Static member sets) = static_value all at member sets
meant all scope at (M.Own member sets) = own_field all at member sets
meant all scope at (M.Space space) = typed at K.Nothing (R.Space space) (T.Constant Null)

abbrev pub name_in : Around → List (List ℕ × ValueType) → Word → Walk Typed
name_in a scope w = onward (meaning_of a scope w) (λ meaning. Gives (meant a.members scope w.span.from meaning))

-- ---- `this` and `super`

abbrev pub this_class : Around → Option ℕ
this_class a = cond a.is_static None a.class

abbrev pub this_or : Option ℕ → ℕ → Walk Typed
this_or (Some class) at = Gives (plain at (K.Is (V.Class class)) T.This)
this_or None at = wrong UnknownName at

abbrev pub this_in : Around → ℕ → Walk Typed
this_in a at = this_or (this_class a) at

abbrev pub super_or : Option ℕ → ℕ → Walk Typed
super_or (Some class) at = Gives (typed at K.Nothing R.Super T.This)
super_or None at = wrong UnknownName at

abbrev pub super_in : Around → ℕ → Walk Typed
super_in a at = super_or (this_class a) at
