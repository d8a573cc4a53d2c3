-- Conditional expressions (docs/language.md, "Operators").
use Rattle.std.specs.Prelude.{ℕ, List, Option, None, Some}
use Rattle.fault_words.specs.declared.fault.FaultWord.TheVariants.{WrongType}
use Rattle.class_tables.specs.declared.head.ClassHead.{ClassHead}
use Rattle.type_names.specs.Walks.{Walk, Gives, wrong, onward}
use Rattle.typed_program.specs.declared.expr.Conversion.{Conversion}
use Rattle.typed_program.specs.declared.expr.Conversion.TheVariants.{Same}
use Rattle.typed_program.specs.declared.expr.TypedExpr.{TypedExpr}
use Rattle.typed_program.specs.declared.expr.TypedExpr.TheVariants.{Conditional}
use Rattle.typed_values.specs.declared.typed.Kind.{Kind}
use Rattle.typed_values.specs.declared.typed.Kind.TheVariants.{Nothing, Null, Faulty, Is}
use Rattle.typed_values.specs.declared.typed.Typed.{Typed}
use Rattle.typed_values.specs.Fits.{plain, condition, conversion, converted}
use Rattle.typed_operations.specs.declared.choice.Meeting.{Meeting}
use Rattle.typed_operations.specs.declared.choice.Meeting.TheVariants.{AsFirst, AsSecond, Unknown}

abbrev pub as_second : Option Conversion → ℕ → Walk Meeting
as_second (Some how) at = Gives (AsSecond how)
as_second None at = wrong WrongType at

-- the second fits the first, or the first the second
abbrev pub first_or : Option Conversion → Option Conversion → ℕ → Walk Meeting
first_or (Some how) other at = Gives (AsFirst how)
first_or None other at = as_second other at

abbrev pub meeting_of : List ClassHead → Kind → Kind → ℕ → ℕ → Walk Meeting
meeting_of heads Nothing second at behind = wrong WrongType at
meeting_of heads first Nothing at behind = wrong WrongType behind
meeting_of heads Faulty second at behind = Gives Unknown
meeting_of heads first Faulty at behind = Gives Unknown
meeting_of heads Null second at behind = Gives (AsSecond Same)
meeting_of heads first Null at behind = Gives (AsFirst Same)
meeting_of heads (Is a) (Is b) at behind = first_or (conversion heads (Is b) a) (conversion heads (Is a) b) behind

abbrev pub meeting_at : List ClassHead → Typed → Typed → Walk Meeting
meeting_at heads first second = meeting_of heads first.kind second.kind first.at second.at

abbrev pub either : ℕ → Kind → TypedExpr → TypedExpr → TypedExpr → Typed
either at kind test first second = plain at kind (Conditional test first second)

abbrev pub met : Meeting → ℕ → TypedExpr → Typed → Typed → Typed
met (AsFirst how) at test first second = either at first.kind test first.tree (converted how second.tree)
met (AsSecond how) at test first second = either at second.kind test (converted how first.tree) second.tree
met Unknown at test first second = either at Faulty test first.tree second.tree

abbrev pub chosen : List ClassHead → Typed → Typed → Typed → Walk Typed
chosen heads test first second =
    onward (condition heads test) (λ tree.
    onward (meeting_at heads first second) (λ m.
    Gives (met m test.at tree first second)))
