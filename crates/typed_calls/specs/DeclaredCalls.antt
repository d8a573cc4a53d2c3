-- Calls of declared methods (docs/language.md, "Calls").
use Rattle.std.specs.Prelude.{ℕ, Bool, List, Option, None, Some}
use Rattle.fault_words.specs.declared.fault.FaultWord.TheVariants.{WrongArguments}
use Rattle.class_tables.specs.declared.member.ClassMembers.{ClassMembers}
use Rattle.class_tables.specs.declared.member.MethodHead.{MethodHead}
use Rattle.class_tables.specs.declared.member.ResultHead.{ResultHead}
use Rattle.class_tables.specs.declared.member.ResultHead.TheVariants.{Void, Value, Faulty}
use Rattle.class_tables.specs.declared.tables.Member.{Member}
use Rattle.class_tables.specs.Lookups.{method_at}
use Rattle.typed_calls.specs.Arguments.{fitted_arguments}
use Rattle.name_meanings.specs.Parts.{with_part}
use Rattle.name_meanings.specs.Settings.{Around}
use Rattle.type_names.specs.Walks.{Walk, Gives, wrong, onward}
use Rattle.typed_program.specs.declared.expr.TypedExpr.{TypedExpr}
use Rattle.typed_program.specs.declared.expr.TypedExpr.TheVariants.{CallStatic}
use Rattle.typed_program.specs.declared.expr.TypedPart.{TypedPart}
use Rattle.typed_program.specs.declared.expr.TypedPart.TheVariants.{Call}
use Rattle.typed_values.specs.declared.typed.Kind.{Kind}
use Rattle.typed_values.specs.declared.typed.Kind.TheVariants as K
use Rattle.typed_values.specs.declared.typed.Role.TheVariants.{Plain}
use Rattle.typed_values.specs.declared.typed.Typed.{Typed}
use Rattle.typed_values.specs.Fits.{typed, plain}

-- a void method answers no value
abbrev pub answered : ResultHead → Kind
answered Void = K.Nothing
answered (Value kind) = K.Is kind
answered Faulty = K.Faulty

abbrev pub answer_or : Option MethodHead → Kind
answer_or (Some m) = answered m.result
answer_or None = K.Faulty

abbrev pub answer_of : List ClassMembers → Member → Kind
answer_of all member = answer_or (method_at all member)

abbrev pub arguments_for : Around → Option MethodHead → ℕ → List Typed → Walk (List TypedExpr)
arguments_for a (Some m) at args = fitted_arguments a.heads m.params at args
arguments_for a None at args = wrong WrongArguments at

abbrev pub arguments : Around → Member → ℕ → List Typed → Walk (List TypedExpr)
arguments a member at args = arguments_for a (method_at a.members member) at args

-- the arguments, and what the method answers
abbrev pub declared : Around → Member → ℕ → List Typed → Walk (List TypedExpr × Kind)
declared a member name_at args = onward (arguments a member name_at args) (λ trees. Gives (trees, answer_of a.members member))

abbrev pub static_call : Around → ℕ → Member → ℕ → List Typed → Walk Typed
static_call a at member name_at args =
    onward (declared a member name_at args) (λ r. Gives (plain at r.1 (CallStatic member.class member.place r.0)))

abbrev pub grown : Typed → Kind → TypedPart → Typed
grown receiver kind part = typed receiver.at kind Plain (with_part receiver.tree part)

abbrev pub method_call : Around → Typed → Member → Bool → ℕ → List Typed → Walk Typed
method_call a receiver member nearest name_at args =
    onward (declared a member name_at args) (λ r. Gives (grown receiver r.1 (Call member.class member.place nearest r.0)))
