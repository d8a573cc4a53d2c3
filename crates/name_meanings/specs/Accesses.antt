-- What stands behind a dot (docs/language.md, "Names in code").
use Rattle.std.specs.Prelude.{ℕ, Bool, true, false, List, Option, None, Some}
use Rattle.fault_words.specs.declared.fault.FaultWord.TheVariants.{UnknownName, NotVisible, BadTrigger}
use Rattle.apex_schema.specs.declared.schema.Field.{Field}
use Rattle.apex_schema.specs.declared.schema.FieldKind.{FieldKind}
use Rattle.apex_schema.specs.declared.schema.Object.{Object}
use Rattle.apex_syntax.specs.declared.word.Word.{Word}
use Rattle.class_tables.specs.declared.member.ClassMembers.{ClassMembers}
use Rattle.class_tables.specs.declared.tables.Member.{Member}
use Rattle.name_meanings.specs.declared.access.Access.{Access}
use Rattle.name_meanings.specs.declared.access.Access.TheVariants as A
use Rattle.name_meanings.specs.declared.field.FieldUse.{FieldUse}
use Rattle.name_meanings.specs.declared.field.FieldUse.TheVariants.{Unknown, Hidden, Found}
use Rattle.name_meanings.specs.Fields.{field_use, field_kind, role_of, static_value}
use Rattle.name_meanings.specs.Parts.{with_part}
use Rattle.name_meanings.specs.Records.{cell_type, may_set_cell, parent_object, field_in}
use Rattle.name_meanings.specs.Settings.{Around}
use Rattle.name_meanings.specs.Spaces.{system_member}
use Rattle.name_meanings.specs.Variables.{variable_named, variable_type}
use Rattle.record_words.specs.declared.entries.RecordKey.{RecordKey}
use Rattle.record_words.specs.declared.entries.RecordWord.{RecordWord}
use Rattle.record_words.specs.declared.entries.RecordWord.TheVariants as W
use Rattle.record_words.specs.Words.{record_key, word_of}
use Rattle.static_types.specs.declared.kind.ValueType.{ValueType}
use Rattle.static_types.specs.declared.kind.ValueType.TheOpen.{ValueType-F}
use Rattle.static_types.specs.declared.kind.ValueType.TheVariants as V
use Rattle.static_types.specs.declared.kind.ValueType.TheViews.{out-ValueType}
use Rattle.type_names.specs.Walks.{Walk, Gives, wrong, onward}
use Rattle.typed_program.specs.declared.expr.TriggerVariable.{TriggerVariable}
use Rattle.typed_program.specs.declared.expr.TypedExpr.TheVariants as T
use Rattle.typed_program.specs.declared.expr.TypedPart.{TypedPart}
use Rattle.typed_program.specs.declared.expr.TypedPart.TheVariants as Part
use Rattle.typed_values.specs.declared.typed.Kind.{Kind}
use Rattle.typed_values.specs.declared.typed.Kind.TheVariants as K
use Rattle.typed_values.specs.declared.typed.Role.{Role}
use Rattle.typed_values.specs.declared.typed.Role.TheVariants as R
use Rattle.typed_values.specs.declared.typed.Space.{Space}
use Rattle.typed_values.specs.declared.typed.Space.TheVariants as S
use Rattle.typed_values.specs.declared.typed.Typed.{Typed}
use Rattle.typed_values.specs.Fits.{typed, plain}

-- ---- behind a name that is no value

-- only statics stand behind a class
abbrev pub static_access : FieldUse → ℕ → Walk Access
static_access (Found member sets) at = Gives (A.Static member sets)
static_access Hidden at = wrong NotVisible at
static_access Unknown at = wrong UnknownName at

abbrev pub variable_or : Option TriggerVariable → ℕ → ℕ → Walk Access
variable_or (Some v) object at = Gives (A.Variable v object)
variable_or None object at = wrong UnknownName at

abbrev pub variable_access : ℕ → Word → Walk Access
variable_access object w = variable_or (variable_named w.name) object w.span.from

abbrev pub trigger_access : Option ℕ → ℕ → Word → Walk Access
trigger_access (Some object) at w = variable_access object w
trigger_access None at w = wrong BadTrigger at

abbrev pub system_space : Walk Space → Walk Access
system_space w = onward w (λ space. Gives (A.Space space))

abbrev pub space_access : Around → Space → ℕ → Word → Walk Access
space_access a S.System at w = system_space (system_member at w)
space_access a (S.Class c) at w = static_access (field_use a c true w.name) w.span.from
space_access a S.Trigger at w = trigger_access a.trigger at w
space_access a _ at w = wrong UnknownName w.span.from

-- ---- behind a value

-- only fields of instances stand behind an instance
abbrev pub instance_access : FieldUse → ℕ → Walk Access
instance_access (Found member sets) at = Gives (A.Field member sets)
instance_access Hidden at = wrong NotVisible at
instance_access Unknown at = wrong UnknownName at

abbrev pub cell_access : ℕ → ℕ → Option Field → Option Access
cell_access object n (Some f) = Some (A.Cell object n (cell_type f.kind) (may_set_cell f.kind))
cell_access object n None = None

abbrev pub parent_or : ℕ → ℕ → Option ℕ → Option Access
parent_or object n (Some to) = Some (A.Parent object n to)
parent_or object n None = None

abbrev pub parent_through : ℕ → ℕ → FieldKind → Option Access
parent_through object n kind = parent_or object n (parent_object kind)

abbrev pub parent_access : ℕ → ℕ → Option Field → Option Access
parent_access object n (Some f) = parent_through object n f.kind
parent_access object n None = None

abbrev pub word_access : List Object → ℕ → RecordWord → Option Access
word_access objects object (W.Field n) = cell_access object n (field_in objects object n)
word_access objects object (W.Parent n) = parent_access object n (field_in objects object n)
word_access objects object (W.Children child n) = Some (A.Children child n)

abbrev pub word_or : List Object → ℕ → Option RecordWord → Option Access
word_or objects object (Some word) = word_access objects object word
word_or objects object None = None

abbrev pub known_word : List Object → RecordKey → Option Access
known_word objects key = word_or objects key.object (word_of objects key)

abbrev pub access_or : Option Access → ℕ → Walk Access
access_or (Some access) at = Gives access
access_or None at = wrong UnknownName at

abbrev pub record_access : List Object → ℕ → Word → Walk Access
record_access objects object w = access_or (known_word objects (record_key object w.name)) w.span.from

abbrev pub type_access : Around → ValueType-F ValueType → Word → Walk Access
type_access a (ValueType-F.Class c) w = instance_access (field_use a c false w.name) w.span.from
type_access a (ValueType-F.Record object) w = record_access a.objects object w
type_access a _ w = wrong UnknownName w.span.from

abbrev pub value_access : Around → Kind → Word → Walk Access
value_access a (K.Is kind) w = type_access a (out-ValueType kind) w
value_access a K.Faulty w = Gives A.Faulty
value_access a _ w = wrong UnknownName w.span.from

abbrev pub role_access : Around → Role → Typed → Word → Walk Access
role_access a (R.Space space) receiver w = space_access a space receiver.at w
role_access a _ receiver w = value_access a receiver.kind w

abbrev pub access_of : Around → Typed → Word → Walk Access
access_of a receiver w = role_access a receiver.role receiver w

-- ---- what is reached

-- a path goes on behind a parent that is null
abbrev pub is_relation : Role → Bool
is_relation R.Relation = true
is_relation _ = false

abbrev pub going_on : Typed → Kind → Role → TypedPart → Typed
going_on receiver kind role part = typed receiver.at kind role (with_part receiver.tree part)

abbrev pub field_value : List ClassMembers → Typed → Member → Bool → Typed
field_value all receiver member sets = going_on receiver (field_kind all member) (role_of sets) (Part.Field member.class member.place)

abbrev pub children_value : Typed → ℕ → ℕ → Typed
children_value receiver child field = going_on receiver (K.Is (V.List (V.Record child))) R.Plain (Part.Children child field (is_relation receiver.role))

abbrev pub variable_value : ℕ → TriggerVariable → ℕ → Typed
variable_value at v object = plain at (K.Is (variable_type v object)) (T.TriggerVariable v)

-- what stands behind a value whose type has a fault may be a variable; which one doesn't matter, since nothing runs
abbrev pub reached : List ClassMembers → Typed → Access → Typed
reached all receiver (A.Space space) = typed receiver.at K.Nothing (R.Space space) receiver.tree
reached all receiver (A.Static member sets) = static_value all receiver.at member sets
reached all receiver (A.Variable v object) = variable_value receiver.at v object
reached all receiver (A.Field member sets) = field_value all receiver member sets
reached all receiver (A.Cell object n p sets) = going_on receiver (K.Is (V.Primitive p)) (role_of sets) (Part.Cell object n (is_relation receiver.role))
reached all receiver (A.Parent object n to) = going_on receiver (K.Is (V.Record to)) R.Relation (Part.Parent object n (is_relation receiver.role))
reached all receiver (A.Children child field) = children_value receiver child field
reached all receiver A.Faulty = going_on receiver K.Faulty R.Variable (Part.Field 0 0)

abbrev pub member_of : Around → Typed → Word → Walk Typed
member_of a receiver w = onward (access_of a receiver w) (λ access. Gives (reached a.members receiver access))
