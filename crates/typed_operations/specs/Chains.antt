-- Chains of binary operators (docs/language.md, "Operators").
use Rattle.std.specs.Prelude.{ℕ, List, [], ◌∷◌, ◌++◌, Option, None, Some}
use Rattle.fault_words.specs.declared.fault.FaultWord.TheVariants.{WrongType}
use Rattle.apex_syntax.specs.declared.expr.BinaryOp.{BinaryOp}
use Rattle.class_tables.specs.declared.head.ClassHead.{ClassHead}
use Rattle.typed_operations.specs.declared.judgement.Fit.{Fit}
use Rattle.typed_operations.specs.declared.judgement.Judged.{Judged}
use Rattle.typed_operations.specs.declared.judgement.Judged.TheVariants.{Left, Right, Fits}
use Rattle.typed_operations.specs.Judgements.{judge}
use Rattle.static_types.specs.declared.kind.Primitive.{Primitive}
use Rattle.static_types.specs.declared.kind.ValueType.TheVariants as V
use Rattle.type_names.specs.Walks.{Walk, Gives, wrong, onward}
use Rattle.typed_program.specs.declared.expr.TypedExpr.{TypedExpr}
use Rattle.typed_program.specs.declared.expr.TypedExpr.TheVariants.{Chain}
use Rattle.typed_program.specs.declared.expr.TypedOperand.{TypedOperand}
use Rattle.typed_values.specs.declared.typed.Kind.{Kind}
use Rattle.typed_values.specs.declared.typed.Kind.TheVariants.{Faulty, Is}
use Rattle.typed_values.specs.declared.typed.Role.TheVariants.{Plain}
use Rattle.typed_values.specs.declared.typed.Typed.{Typed}
use Rattle.typed_operations.specs.declared.chain.OpenChain.{OpenChain}

abbrev pub given : Option Primitive → Kind
given (Some p) = Is (V.Primitive p)
given None = Faulty

abbrev pub begun : Typed → OpenChain
begun value = record { at = value.at; kind = value.kind; first = value.tree; rest = [] }

abbrev pub operand : Fit → TypedExpr → TypedOperand
operand fit value = record { left = fit.left; op = fit.op; right = fit.right; value = value }

abbrev pub with_fit : OpenChain → Fit → TypedExpr → OpenChain
with_fit chain fit right = record {
  at = chain.at;
  kind = given fit.gives;
  first = chain.first;
  rest = chain.rest ++ operand fit right ∷ [];
}

-- the left operand is judged first
abbrev pub fit_or : Judged → ℕ → ℕ → Walk Fit
fit_or Left left right = wrong WrongType left
fit_or Right left right = wrong WrongType right
fit_or (Fits fit) left right = Gives fit

abbrev pub fit_at : List ClassHead → Kind → ℕ → BinaryOp → Typed → Walk Fit
fit_at heads left at op right = fit_or (judge heads left op right.kind) at right.at

-- the left operand is the chain so far
abbrev pub with_operand : List ClassHead → OpenChain → BinaryOp → Typed → Walk OpenChain
with_operand heads chain op right =
    onward (fit_at heads chain.kind chain.at op right) (λ fit. Gives (with_fit chain fit right.tree))

abbrev pub closed : OpenChain → Typed
closed chain = record { at = chain.at; kind = chain.kind; role = Plain; tree = Chain chain.first chain.rest }
