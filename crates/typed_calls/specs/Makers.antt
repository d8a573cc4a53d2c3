-- What `new` makes of a type and so many arguments (docs/language.md, "New values").
use Rattle.std.specs.Prelude.{ℕ, ◌&&◌, not, nat_lt, eqb, Bool, false, cond, List, length, slice_get, Option, None, Some}
use Rattle.fault_words.specs.declared.fault.FaultWord.TheVariants.{WrongType, NotVisible}
use Rattle.builtin_table.specs.declared.exception.ExceptionClass.{ExceptionClass}
use Rattle.builtin_table.specs.declared.exception.ExceptionClass.TheVariants as E
use Rattle.class_tables.specs.declared.head.ClassHead.{ClassHead}
use Rattle.class_tables.specs.Lines.{is_exception}
use Rattle.class_tables.specs.declared.member.ClassMembers.{ClassMembers}
use Rattle.class_tables.specs.declared.member.ConstructorHead.{ConstructorHead}
use Rattle.class_tables.specs.Lookups.{own_constructor}
use Rattle.typed_calls.specs.declared.maker.Maker.{Maker}
use Rattle.typed_calls.specs.declared.maker.Maker.TheVariants as M
use Rattle.name_meanings.specs.Fields.{is_own}
use Rattle.name_meanings.specs.Settings.{Around}
use Rattle.static_types.specs.declared.kind.ValueType.{ValueType}
use Rattle.static_types.specs.declared.kind.ValueType.TheOpen.{ValueType-F}
use Rattle.type_names.specs.Walks.{Walk, Gives, wrong}
use Rattle.typed_program.specs.declared.expr.Constructor.TheVariants.{Implied, Exception, Declared}

abbrev pub constructor_in : Option ClassMembers → ℕ → Option ConstructorHead
constructor_in (Some m) n = slice_get m.constructors n
constructor_in None n = None

abbrev pub constructor_at : List ClassMembers → ℕ → ℕ → Option ConstructorHead
constructor_at all class place = constructor_in (slice_get all class) place

-- interfaces and abstract classes have no instances of their own
abbrev pub has_instances : Option ClassHead → Bool
has_instances (Some h) = not h.interface && not h.is_abstract
has_instances None = false

-- a private constructor is seen in its own class alone
abbrev pub declared_as : Around → ℕ → ℕ → ℕ → Option ConstructorHead → Walk Maker
declared_as a class place at (Some c) = cond (c.is_private && not (is_own a.class class)) (wrong NotVisible at) (Gives (M.Instance class (Declared place)))
declared_as a class place at None = Gives M.Nothing

abbrev pub declared_maker : Around → ℕ → ℕ → ℕ → Walk Maker
declared_maker a class place at = declared_as a class place at (constructor_at a.members class place)

abbrev pub declares_none : Option ClassMembers → Bool
declares_none (Some m) = eqb (length m.constructors) 0
declares_none None = false

-- an exception class has one without arguments and one that takes a message; a class that declares none has one
-- without arguments
abbrev pub undeclared : Around → ℕ → ℕ → Maker
undeclared a class count =
    cond (is_exception a.heads class && nat_lt count 2) (M.Instance class Exception)
    (cond (eqb count 0 && declares_none (slice_get a.members class)) (M.Instance class Implied) M.Nothing)

abbrev pub own_place : Option ClassMembers → ℕ → Option ℕ
own_place (Some m) count = own_constructor count m
own_place None count = None

abbrev pub class_constructor : Around → ℕ → ℕ → ℕ → Option ℕ → Walk Maker
class_constructor a class at count (Some place) = declared_maker a class place at
class_constructor a class at count None = Gives (undeclared a class count)

abbrev pub constructor_of : Around → ℕ → ℕ → ℕ → Walk Maker
constructor_of a class at count = class_constructor a class at count (own_place (slice_get a.members class) count)

abbrev pub class_maker : Around → ℕ → ℕ → ℕ → Walk Maker
class_maker a class at count = cond (has_instances (slice_get a.heads class)) (constructor_of a class at count) (wrong WrongType at)

-- these are thrown by the platform alone
abbrev pub exception_maker : ExceptionClass → Maker
exception_maker E.Limit = M.Nothing
exception_maker E.Assert = M.Nothing
exception_maker class = M.Exception class

abbrev pub maker_of : Around → ValueType-F ValueType → ℕ → ℕ → Walk Maker
maker_of a (ValueType-F.Class class) at count = class_maker a class at count
maker_of a (ValueType-F.Exception class) at count = Gives (exception_maker class)
maker_of a (ValueType-F.Record object) at count = Gives (M.Record object)
maker_of a (ValueType-F.List item) at count = Gives M.List
maker_of a (ValueType-F.Set p) at count = Gives (M.Set p)
maker_of a (ValueType-F.Map p value) at count = Gives (M.Map p)
maker_of a _ at count = Gives M.Nothing
