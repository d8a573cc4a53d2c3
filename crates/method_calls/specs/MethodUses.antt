-- Methods of classes as code may use them (docs/language.md, "Calls").
use Rattle.std.specs.Prelude.{ℕ, ◌&&◌, not, Bool, true, false, cond, List, [], ◌∷◌, codes, Option, None, Some}
use Rattle.class_tables.specs.declared.head.ClassHead.{ClassHead}
use Rattle.class_tables.specs.declared.key.MethodKey.{MethodKey}
use Rattle.class_tables.specs.declared.member.ClassMembers.{ClassMembers}
use Rattle.class_tables.specs.declared.member.MethodHead.{MethodHead}
use Rattle.class_tables.specs.declared.tables.Member.{Member}
use Rattle.class_tables.specs.Keys.{key}
use Rattle.class_tables.specs.Lines.{is_exception, line_of}
use Rattle.class_tables.specs.Lookups.{first_in, found_method, method_at, own_method}
use Rattle.method_calls.specs.BuiltinUses.{builtin_use}
use Rattle.method_calls.specs.declared.builtin.BuiltinUse.{BuiltinUse}
use Rattle.method_calls.specs.declared.builtin.BuiltinUse.TheVariants as B
use Rattle.method_calls.specs.declared.builtin.Target.TheVariants.{OnValue}
use Rattle.method_calls.specs.declared.found.MethodUse.{MethodUse}
use Rattle.method_calls.specs.declared.found.MethodUse.TheVariants.{Unknown, WrongCount, Hidden, Found, Builtin as OfExceptions}
use Rattle.method_calls.specs.declared.named.Way.{Way}
use Rattle.method_calls.specs.declared.named.Way.TheVariants.{Static, Instance}
use Rattle.method_calls.specs.MethodNamings.{Namings, is_named, may_run, open_at}
use Rattle.name_meanings.specs.Fields.{is_own}
use Rattle.name_meanings.specs.Settings.{Around}

-- ---- the method of a kind, a name and a number of parameters

abbrev pub or_member : Option Member → Option Member → Option Member
or_member (Some m) later = Some m
or_member None later = later

abbrev pub first_open : MethodKey → List ClassMembers → List ClassHead → List ℕ → Option Member
first_open k all heads [] = None
first_open k all heads (c ∷ cs) = or_member (first_in (own_method k) all (open_at heads c)) (first_open k all heads cs)

-- that of a class or its nearest ancestor that has one, and then one of an interface that is left open
abbrev pub found_called : List ClassMembers → List ClassHead → ℕ → MethodKey → Option Member
found_called all heads class k = or_member (found_method all heads class k) (first_open k all heads (line_of heads class))

abbrev pub is_static_way : Way → Bool
is_static_way Static = true
is_static_way _ = false

-- ---- how it may be used

-- the nearest one of the instance's own class runs, but for private ones
abbrev pub is_nearest : Way → MethodHead → Bool
is_nearest Instance m = not m.is_private
is_nearest _ m = false

-- a private method is seen in its own class alone
abbrev pub use_of : Around → Way → Member → MethodHead → MethodUse
use_of a way member m =
    cond (may_run way m) (cond (m.is_private && not (is_own a.class member.class)) Hidden (Found member (is_nearest way m))) Unknown

abbrev pub use_at : Around → Way → Member → Option MethodHead → MethodUse
use_at a way member (Some m) = use_of a way member m
use_at a way member None = Unknown

-- instances of an exception class have the methods of all exceptions where it has no such method of its own
abbrev pub exceptions_use : Around → ℕ → List ℕ → ℕ → BuiltinUse
exceptions_use a class name count = cond (is_exception a.heads class) (builtin_use (codes "exception") name count (OnValue false)) B.Unknown

abbrev pub exception_use : Around → Way → ℕ → List ℕ → ℕ → BuiltinUse
exception_use a Static class name count = B.Unknown
exception_use a way class name count = exceptions_use a class name count

-- where no method has so many parameters, there may be one of the name that may be called so
abbrev pub absent : BuiltinUse → Bool → MethodUse
absent (B.Found b) named = OfExceptions b
absent B.WrongCount named = WrongCount
absent B.Unknown named = cond named WrongCount Unknown

abbrev pub use_found : Around → Namings → Way → ℕ → List ℕ → ℕ → Option Member → MethodUse
use_found a names way class name count (Some member) = use_at a way member (method_at a.members member)
use_found a names way class name count None = absent (exception_use a way class name count) (is_named names way a.heads class name)

abbrev pub method_use : Around → Namings → Way → ℕ → List ℕ → ℕ → MethodUse
method_use a names way class name count = use_found a names way class name count (found_called a.members a.heads class (key (is_static_way way) name count))
