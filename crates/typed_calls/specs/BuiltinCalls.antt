-- Calls of built-in methods (docs/language.md, "Calls").
use Rattle.std.specs.Prelude.{ℕ, cond, List, [], ◌∷◌}
use Rattle.fault_words.specs.declared.fault.FaultWord.TheVariants.{WrongArguments}
use Rattle.typed_calls.specs.DeclaredCalls.{grown}
use Rattle.typed_calls.specs.Admissions.{admits_all}
use Rattle.typed_calls.specs.Answered.{answered}
use Rattle.typed_calls.specs.Wants.{wanted_by}
use Rattle.typed_calls.specs.Widths.{widest, on_numbers}
use Rattle.builtin_signatures.specs.Dues.{dues_of}
use Rattle.builtin_table.specs.declared.method.Builtin.{Builtin}
use Rattle.class_tables.specs.declared.head.ClassHead.{ClassHead}
use Rattle.typed_calls.specs.Arguments.{fitted_arguments}
use Rattle.name_meanings.specs.Parts.{with_part}
use Rattle.type_names.specs.Walks.{Walk, Gives, wrong, onward}
use Rattle.typed_program.specs.declared.expr.TypedExpr.{TypedExpr}
use Rattle.typed_program.specs.declared.expr.TypedExpr.TheVariants as T
use Rattle.typed_program.specs.declared.expr.TypedPart.TheVariants as Part
use Rattle.typed_values.specs.declared.typed.Kind.{Kind}
use Rattle.typed_values.specs.declared.typed.Kind.TheVariants as K
use Rattle.typed_values.specs.declared.typed.Role.TheVariants.{Plain}
use Rattle.typed_values.specs.declared.typed.Typed.{Typed}
use Rattle.typed_values.specs.Fits.{typed, plain}

abbrev pub arguments : List ClassHead → Kind → Builtin → ℕ → List Typed → Walk (List TypedExpr)
arguments heads receiver builtin at args =
    cond (admits_all receiver (dues_of builtin) args) (fitted_arguments heads (wanted_by receiver builtin args) at args) (wrong WrongArguments at)

-- the arguments, and what the method answers
abbrev pub taken : List ClassHead → Kind → Builtin → ℕ → List Typed → Walk (List TypedExpr × Kind)
taken heads receiver builtin at args =
    onward (arguments heads receiver builtin at args) (λ trees. Gives (trees, answered receiver builtin args))

abbrev pub builtin_call : List ClassHead → Typed → Builtin → ℕ → List Typed → Walk Typed
builtin_call heads receiver builtin name_at args =
    onward (taken heads receiver.kind builtin name_at args) (λ r. Gives (grown receiver r.1 (Part.Builtin builtin r.0)))

abbrev pub type_call : List ClassHead → ℕ → Builtin → ℕ → List Typed → Walk Typed
type_call heads at builtin name_at args =
    onward (taken heads K.Nothing builtin name_at args) (λ r. Gives (plain at r.1 (T.CallBuiltin (on_numbers builtin (widest args)) r.0)))

abbrev pub shown_as : Kind → ℕ → ℕ → Typed → Walk Typed
shown_as K.Nothing at name_at arg = wrong WrongArguments name_at
shown_as kind at name_at arg = Gives (plain at K.Nothing (T.Debug arg.tree))

abbrev pub shown : ℕ → ℕ → Typed → Walk Typed
shown at name_at arg = shown_as arg.kind at name_at arg

-- one value of any type
abbrev pub debug_call : ℕ → ℕ → List Typed → Walk Typed
debug_call at name_at (a ∷ []) = shown at name_at a
debug_call at name_at _ = wrong WrongArguments name_at
