-- What is made of the parts of an expression (docs/language.md, "The walk over expressions").
use Rattle.std.specs.Prelude.{ℕ, Bool, true, false, cond, List, Option, None, Some}
use Rattle.fault_words.specs.declared.fault.FaultWord.TheVariants.{WrongType, WrongArguments}
use Rattle.apex_syntax.specs.declared.expr.AssignOp.{AssignOp}
use Rattle.apex_syntax.specs.declared.expr.AssignOp.TheVariants as A
use Rattle.apex_syntax.specs.declared.expr.BinaryOp.{BinaryOp}
use Rattle.apex_syntax.specs.declared.expr.BinaryOp.TheVariants as B
use Rattle.apex_syntax.specs.declared.expr.Literal.{Literal}
use Rattle.apex_syntax.specs.declared.expr.Literal.TheVariants as L
use Rattle.apex_syntax.specs.declared.expr.PrefixOp.{PrefixOp}
use Rattle.apex_syntax.specs.declared.expr.PrefixOp.TheVariants as O
use Rattle.apex_syntax.specs.declared.expr.StepOp.{StepOp}
use Rattle.apex_syntax.specs.declared.expr.StepOp.TheVariants as S
use Rattle.apex_syntax.specs.declared.query.NumberTree.{NumberTree}
use Rattle.apex_syntax.specs.declared.query.NumberTree.TheVariants as N
use Rattle.typed_calls.specs.BuiltinCalls.{builtin_call, type_call, debug_call}
use Rattle.class_tables.specs.declared.head.ClassHead.{ClassHead}
use Rattle.typed_calls.specs.DeclaredCalls.{static_call, method_call}
use Rattle.method_calls.specs.declared.callee.Callee.{Callee}
use Rattle.method_calls.specs.declared.callee.Callee.TheVariants as C
use Rattle.name_meanings.specs.Settings.{Around}
use Rattle.static_types.specs.declared.kind.Primitive.{Primitive}
use Rattle.static_types.specs.declared.kind.Primitive.TheVariants as P
use Rattle.static_types.specs.declared.kind.ValueType.TheVariants as V
use Rattle.type_names.specs.Walks.{Walk, Gives, wrong, onward}
use Rattle.typed_operations.specs.Assignments.{assigned, assigned_with}
use Rattle.typed_operations.specs.declared.place.Target.{Target}
use Rattle.typed_operations.specs.Prefixes.{negated, opposite, stepped}
use Rattle.typed_program.specs.declared.expr.Constant.{Constant}
use Rattle.typed_program.specs.declared.expr.Constant.TheVariants as K
use Rattle.typed_program.specs.declared.expr.StepKind.{StepKind}
use Rattle.typed_program.specs.declared.expr.TypedExpr.TheVariants as T
use Rattle.typed_values.specs.declared.typed.Kind.{Kind}
use Rattle.typed_values.specs.declared.typed.Kind.TheVariants.{Nothing, Null, Faulty, Is}
use Rattle.typed_values.specs.declared.typed.Role.{Role}
use Rattle.typed_values.specs.declared.typed.Role.TheVariants as R
use Rattle.typed_values.specs.declared.typed.Typed.{Typed}
use Rattle.typed_values.specs.Fits.{typed, plain}

-- ---- literals

abbrev pub primitive : ℕ → Primitive → Constant → Typed
primitive at kind constant = plain at (Is (V.Primitive kind)) (T.Constant constant)

abbrev pub number : ℕ → NumberTree → Typed
number at (N.Integer n) = primitive at P.Integer (K.Whole n)
number at (N.Long n) = primitive at P.Long (K.Whole n)
number at (N.Decimal c) = primitive at P.Decimal (K.Decimal c)

abbrev pub text : ℕ → List ℕ → Typed
text at bytes = primitive at P.String (K.Text bytes)

abbrev pub literal : ℕ → Literal → Typed
literal at (L.Number n) = number at n
literal at (L.Text bytes) = text at bytes
literal at (L.Bool b) = primitive at P.Boolean (K.Bool b)
literal at L.Null = plain at Null (T.Constant K.Null)

-- ---- operators

-- the name of a class and its like is no value, nor is `super`
abbrev pub is_value : Role → Bool
is_value (R.Space space) = false
is_value R.Super = false
is_value _ = true

-- where a value is needed, such a name is told at once
abbrev pub value_of : Typed → Walk Typed
value_of value = cond (is_value value.role) (Gives value) (wrong WrongType value.at)

abbrev pub valued : Walk Typed → Walk Typed
valued walk = onward walk value_of

-- what stands in parentheses is read for its value alone
abbrev pub in_parentheses : ℕ → Typed → Typed
in_parentheses at value = typed at value.kind R.Plain value.tree

abbrev pub step : Bool → Bool → StepKind
step up before = record { up = up; before = before }

abbrev pub prefixed : List ClassHead → ℕ → PrefixOp → Typed → Walk Typed
prefixed heads at O.Not value = negated heads at value
prefixed heads at O.Minus value = opposite at value
prefixed heads at O.Increment value = stepped at (step true true) value
prefixed heads at O.Decrement value = stepped at (step false true) value

abbrev pub is_up : StepOp → Bool
is_up S.Increment = true
is_up S.Decrement = false

abbrev pub stepped_behind : StepOp → Typed → Walk Typed
stepped_behind op value = stepped value.at (step (is_up op) false) value

abbrev pub operator : AssignOp → Option BinaryOp
operator A.Assign = None
operator A.Add = Some B.Plus
operator A.Subtract = Some B.Minus
operator A.Multiply = Some B.Times
operator A.Divide = Some B.Over

abbrev pub assigned_as : Option BinaryOp → List ClassHead → Target → Typed → Walk Typed
assigned_as (Some op) heads target value = assigned_with heads target op value
assigned_as None heads target value = assigned heads target value

abbrev pub assigned_by : List ClassHead → Target → AssignOp → Typed → Walk Typed
assigned_by heads target op value = assigned_as (operator op) heads target value

-- ---- calls

abbrev pub own_kind : Option ℕ → Kind
own_kind (Some class) = Is (V.Class class)
own_kind None = Nothing

-- a method whose name stands alone is one of `this`
abbrev pub own_receiver : Option ℕ → ℕ → Typed
own_receiver class at = plain at (own_kind class) T.This

abbrev pub faulty : Typed → Typed
faulty receiver = typed receiver.at Faulty R.Plain receiver.tree

abbrev pub called : Around → Typed → Callee → ℕ → List Typed → Walk Typed
called a receiver (C.Static member) at args = static_call a receiver.at member at args
called a receiver (C.Method member nearest) at args = method_call a receiver member nearest at args
called a receiver C.WrongCount at args = wrong WrongArguments at
called a receiver (C.Builtin b) at args = builtin_call a.heads receiver b at args
called a receiver (C.OfType b) at args = type_call a.heads receiver.at b at args
called a receiver C.Debug at args = debug_call receiver.at at args
called a receiver C.Faulty at args = Gives (faulty receiver)
