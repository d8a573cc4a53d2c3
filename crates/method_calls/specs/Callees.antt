-- What a call means, whatever its arguments are (docs/language.md, "Calls").
use Rattle.std.specs.Prelude.{ℕ, eqb, Bool, true, false, cond, List, codes, bytes_eq, Option, None, Some}
use Rattle.fault_words.specs.declared.fault.FaultWord.TheVariants.{UnknownName, NotVisible, BadTrigger}
use Rattle.apex_syntax.specs.declared.word.Word.{Word}
use Rattle.class_tables.specs.declared.head.Parent.{Parent}
use Rattle.class_tables.specs.declared.head.Parent.TheVariants as P
use Rattle.class_tables.specs.Lines.{parent_at}
use Rattle.method_calls.specs.BuiltinUses.{builtin_use, space_word, type_word}
use Rattle.method_calls.specs.declared.builtin.BuiltinUse.{BuiltinUse}
use Rattle.method_calls.specs.declared.builtin.BuiltinUse.TheVariants as B
use Rattle.method_calls.specs.declared.callee.Callee.{Callee}
use Rattle.method_calls.specs.declared.callee.Callee.TheVariants as C
use Rattle.method_calls.specs.declared.found.MethodUse.{MethodUse}
use Rattle.method_calls.specs.declared.found.MethodUse.TheVariants as U
use Rattle.method_calls.specs.declared.builtin.Target.TheVariants.{OnType, OnValue}
use Rattle.method_calls.specs.declared.named.Way.TheVariants.{Static, Instance, Super}
use Rattle.method_calls.specs.MethodNamings.{Namings}
use Rattle.method_calls.specs.MethodUses.{method_use}
use Rattle.name_meanings.specs.Settings.{Around}
use Rattle.static_types.specs.declared.kind.ValueType.{ValueType}
use Rattle.static_types.specs.declared.kind.ValueType.TheOpen.{ValueType-F}
use Rattle.static_types.specs.declared.kind.ValueType.TheViews.{out-ValueType}
use Rattle.type_names.specs.Walks.{Walk, Gives, wrong}
use Rattle.typed_values.specs.declared.typed.Kind.{Kind}
use Rattle.typed_values.specs.declared.typed.Kind.TheVariants as K
use Rattle.typed_values.specs.declared.typed.Role.{Role}
use Rattle.typed_values.specs.declared.typed.Role.TheVariants as R
use Rattle.typed_values.specs.declared.typed.Space.{Space}
use Rattle.typed_values.specs.declared.typed.Space.TheVariants as S
use Rattle.typed_values.specs.declared.typed.Typed.{Typed}

-- ---- what is found, in its place

abbrev pub built_in : BuiltinUse → ℕ → Walk Callee
built_in (B.Found b) at = Gives (C.Builtin b)
built_in B.WrongCount at = Gives C.WrongCount
built_in B.Unknown at = wrong UnknownName at

abbrev pub of_type : BuiltinUse → ℕ → Walk Callee
of_type (B.Found b) at = Gives (C.OfType b)
of_type B.WrongCount at = Gives C.WrongCount
of_type B.Unknown at = wrong UnknownName at

abbrev pub on_instance : MethodUse → ℕ → Walk Callee
on_instance (U.Found member nearest) at = Gives (C.Method member nearest)
on_instance (U.Builtin b) at = Gives (C.Builtin b)
on_instance U.WrongCount at = Gives C.WrongCount
on_instance U.Hidden at = wrong NotVisible at
on_instance U.Unknown at = wrong UnknownName at

abbrev pub on_class : MethodUse → ℕ → Walk Callee
on_class (U.Found member nearest) at = Gives (C.Static member)
on_class (U.Builtin b) at = Gives (C.Builtin b)
on_class U.WrongCount at = Gives C.WrongCount
on_class U.Hidden at = wrong NotVisible at
on_class U.Unknown at = wrong UnknownName at

-- ---- a name alone is a method of `this`, and then a static one

abbrev pub or_wrong : MethodUse → ℕ → Walk Callee
or_wrong U.Unknown at = Gives C.WrongCount
or_wrong found at = on_class found at

abbrev pub or_static : MethodUse → MethodUse → ℕ → Walk Callee
or_static U.Unknown other at = on_class other at
or_static U.WrongCount other at = or_wrong other at
or_static found other at = on_instance found at

-- ---- on a value

abbrev pub is_plain : ValueType-F ValueType → Bool
is_plain (ValueType-F.Primitive p) = true
is_plain _ = false

abbrev pub is_plain_list : ValueType-F ValueType → Bool
is_plain_list (ValueType-F.List item) = is_plain (out-ValueType item)
is_plain_list _ = false

-- only a list of primitives is searched and sorted
abbrev pub other_method : ValueType-F ValueType → Word → ℕ → Walk Callee
other_method kind w count = built_in (builtin_use (type_word kind) w.name count (OnValue (is_plain_list kind))) w.span.from

abbrev pub type_method : Around → Namings → ValueType-F ValueType → Word → ℕ → Walk Callee
type_method a names (ValueType-F.Class class) w count = on_instance (method_use a names Instance class w.name count) w.span.from
type_method a names kind w count = other_method kind w count

-- nothing is called on what is no value, nor on `null`
abbrev pub value_method : Around → Namings → Kind → Word → ℕ → Walk Callee
value_method a names (K.Is kind) w count = type_method a names (out-ValueType kind) w count
value_method a names K.Faulty w count = Gives C.Faulty
value_method a names _ w count = wrong UnknownName w.span.from

-- ---- behind a name that is no value

abbrev pub debug_with : ℕ → Walk Callee
debug_with count = cond (eqb count 1) (Gives C.Debug) (Gives C.WrongCount)

abbrev pub system_method : Word → ℕ → Walk Callee
system_method w count = cond (bytes_eq w.name (codes "debug")) (debug_with count) (wrong UnknownName w.span.from)

abbrev pub trigger_method : Option ℕ → ℕ → Word → Walk Callee
trigger_method (Some object) at w = wrong UnknownName w.span.from
trigger_method None at w = wrong BadTrigger at

abbrev pub library_method : Space → Word → ℕ → Walk Callee
library_method space w count = of_type (builtin_use (space_word space) w.name count OnType) w.span.from

abbrev pub space_method : Around → Namings → Space → ℕ → Word → ℕ → Walk Callee
space_method a names (S.Class class) at w count = on_class (method_use a names Static class w.name count) w.span.from
space_method a names S.System at w count = system_method w count
space_method a names S.Trigger at w count = trigger_method a.trigger at w
space_method a names space at w count = library_method space w count

-- ---- behind `super`

abbrev pub behind_super : Around → Namings → Parent → Word → ℕ → Walk Callee
behind_super a names (P.Class class) w count = on_instance (method_use a names Super class w.name count) w.span.from
behind_super a names P.Exception w count = built_in (builtin_use (codes "exception") w.name count (OnValue false)) w.span.from
behind_super a names P.None w count = wrong UnknownName w.span.from

abbrev pub parent_of : Around → Option ℕ → Parent
parent_of a (Some class) = parent_at a.heads class
parent_of a None = P.None

abbrev pub own_parent : Around → Parent
own_parent a = parent_of a a.class

-- ---- the whole

abbrev pub called_by : Around → Namings → Role → Typed → Word → ℕ → Walk Callee
called_by a names (R.Space space) receiver w count = space_method a names space receiver.at w count
called_by a names R.Super receiver w count = behind_super a names (own_parent a) w count
called_by a names _ receiver w count = value_method a names receiver.kind w count

abbrev pub called_on : Around → Namings → Typed → Word → ℕ → Walk Callee
called_on a names receiver w count = called_by a names receiver.role receiver w count

-- where there is no `this`, methods of instances are passed over
abbrev pub own_use : Around → Namings → ℕ → List ℕ → ℕ → MethodUse
own_use a names class name count = cond a.is_static U.Unknown (method_use a names Instance class name count)

abbrev pub own_method : Around → Namings → ℕ → Word → ℕ → Walk Callee
own_method a names class w count = or_static (own_use a names class w.name count) (method_use a names Static class w.name count) w.span.from

abbrev pub alone_in : Around → Namings → Option ℕ → Word → ℕ → Walk Callee
alone_in a names (Some class) w count = own_method a names class w count
alone_in a names None w count = wrong UnknownName w.span.from

abbrev pub called_alone : Around → Namings → Word → ℕ → Walk Callee
called_alone a names w count = alone_in a names a.class w count
