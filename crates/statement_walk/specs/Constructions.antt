-- Constructors that are called by others (docs/language.md, "Statements in code").
use Rattle.std.specs.Prelude.{ℕ, List, Option, None, Some}
use Rattle.fault_words.specs.declared.fault.FaultWord.TheVariants.{WrongArguments}
use Rattle.class_tables.specs.declared.head.Parent.{Parent}
use Rattle.class_tables.specs.declared.head.Parent.TheVariants as P
use Rattle.class_tables.specs.Lines.{parent_at}
use Rattle.typed_calls.specs.declared.maker.Maker.{Maker}
use Rattle.typed_calls.specs.declared.maker.Maker.TheVariants as M
use Rattle.typed_calls.specs.Made.{instance_arguments, message}
use Rattle.typed_calls.specs.Makers.{constructor_of}
use Rattle.name_meanings.specs.Settings.{Around}
use Rattle.statement_walk.specs.declared.construct.Constructing.{Constructing}
use Rattle.statement_walk.specs.declared.construct.Constructing.TheVariants as C
use Rattle.type_names.specs.Walks.{Walk, Gives, wrong, onward}
use Rattle.typed_program.specs.declared.expr.Constructor.{Constructor}
use Rattle.typed_program.specs.declared.unit.ParentCall.{ParentCall}
use Rattle.typed_program.specs.declared.unit.ParentCall.TheVariants as Call
use Rattle.typed_values.specs.declared.typed.Typed.{Typed}

abbrev pub by_maker : (ℕ → Constructor → Constructing) → Maker → Constructing
by_maker means (M.Instance class constructor) = means class constructor
by_maker means _ = C.Nothing

-- ---- `this` means a constructor of its own class

abbrev pub own_of : Around → Option ℕ → ℕ → ℕ → Walk Constructing
own_of a (Some class) at count = onward (constructor_of a class at count) (λ maker. Gives (by_maker C.Own maker))
own_of a None at count = Gives C.Nothing

abbrev pub own_constructor : Around → ℕ → ℕ → Walk Constructing
own_constructor a at count = own_of a a.class at count

-- ---- `super` means one of the parent

abbrev pub by_parent : Around → Parent → ℕ → ℕ → Walk Constructing
by_parent a (P.Class parent) at count = onward (constructor_of a parent at count) (λ maker. Gives (by_maker C.Parent maker))
by_parent a P.Exception at count = Gives C.Exception
by_parent a P.None at count = Gives C.Nothing

abbrev pub parent_of : Around → Option ℕ → ℕ → ℕ → Walk Constructing
parent_of a (Some class) at count = by_parent a (parent_at a.heads class) at count
parent_of a None at count = Gives C.Nothing

abbrev pub parent_constructor : Around → ℕ → ℕ → Walk Constructing
parent_constructor a at count = parent_of a a.class at count

-- ---- with its arguments

abbrev pub constructed : Around → Constructing → ℕ → List Typed → Walk ParentCall
constructed a (C.Own class constructor) at args = onward (instance_arguments a class constructor at args) (λ trees. Gives (Call.This constructor trees))
constructed a (C.Parent class constructor) at args = onward (instance_arguments a class constructor at args) (λ trees. Gives (Call.Super class constructor trees))
constructed a C.Exception at args = onward (message a.heads at args) (λ trees. Gives (Call.Exception trees))
constructed a C.Nothing at args = wrong WrongArguments at
