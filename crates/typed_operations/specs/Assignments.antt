-- Assignments (docs/language.md, "Operators").
use Rattle.std.specs.Prelude.{ℕ, List, Option, None, Some}
use Rattle.fault_words.specs.declared.fault.FaultWord.TheVariants.{WrongType}
use Rattle.apex_syntax.specs.declared.expr.BinaryOp.{BinaryOp}
use Rattle.class_tables.specs.declared.head.ClassHead.{ClassHead}
use Rattle.typed_operations.specs.declared.judgement.Fit.{Fit}
use Rattle.typed_operations.specs.declared.place.Target.{Target}
use Rattle.type_names.specs.Walks.{Walk, Gives, wrong, onward}
use Rattle.typed_program.specs.declared.expr.Assignment.{Assignment}
use Rattle.typed_program.specs.declared.expr.Conversion.{Conversion}
use Rattle.typed_program.specs.declared.expr.Conversion.TheVariants.{Same}
use Rattle.typed_program.specs.declared.expr.TypedExpr.{TypedExpr}
use Rattle.typed_program.specs.declared.expr.TypedExpr.TheVariants.{Assign, AssignWith}
use Rattle.typed_values.specs.declared.typed.Kind.{Kind}
use Rattle.typed_values.specs.declared.typed.Kind.TheVariants.{Nothing, Is}
use Rattle.typed_values.specs.declared.typed.Typed.{Typed}
use Rattle.typed_values.specs.Fits.{plain, conversion, stored}
use Rattle.typed_operations.specs.Chains.{given, fit_at}

abbrev pub any_kind : Kind → Typed → Walk TypedExpr
any_kind Nothing value = wrong WrongType value.at
any_kind kind value = Gives value.tree

abbrev pub any_value : Typed → Walk TypedExpr
any_value value = any_kind value.kind value

-- what is stored fits the variable; one whose type is at fault elsewhere takes each value
abbrev pub stored_as : List ClassHead → Kind → Typed → Walk TypedExpr
stored_as heads (Is to) value = stored heads value to
stored_as heads kind value = any_value value

abbrev pub assigned : List ClassHead → Target → Typed → Walk Typed
assigned heads target value =
    onward (stored_as heads target.kind value) (λ tree. Gives (plain target.at target.kind (Assign target.place tree)))

abbrev pub back : List ClassHead → Kind → Kind → Option Conversion
back heads kind (Is to) = conversion heads kind to
back heads kind target = Some Same

abbrev pub back_or : Option Conversion → Fit → ℕ → Walk Assignment
back_or (Some how) fit at = Gives (record { left = fit.left; op = fit.op; right = fit.right; back = how })
back_or None fit at = wrong WrongType at

abbrev pub back_at : List ClassHead → Fit → Kind → ℕ → Walk Assignment
back_at heads fit target at = back_or (back heads (given fit.gives) target) fit at

-- the target is the left operand, and what the operator gives becomes its value
abbrev pub fitting : List ClassHead → Target → BinaryOp → Typed → Walk Assignment
fitting heads target op value = onward (fit_at heads target.kind target.at op value) (λ fit. back_at heads fit target.kind value.at)

abbrev pub assigned_with : List ClassHead → Target → BinaryOp → Typed → Walk Typed
assigned_with heads target op value =
    onward (fitting heads target op value) (λ how. Gives (plain target.at target.kind (AssignWith target.place how value.tree)))
