-- Arguments of declared methods and constructors (docs/language.md, "Calls").
use Rattle.std.specs.Prelude.{ℕ, ◌+◌, eqb, cond, List, [], ◌∷◌, length, slice_get, Option, None, Some}
use Rattle.fault_words.specs.declared.fault.FaultWord.TheVariants.{WrongArguments}
use Rattle.class_tables.specs.declared.head.ClassHead.{ClassHead}
use Rattle.static_types.specs.declared.kind.ValueType.{ValueType}
use Rattle.type_names.specs.Walks.{Walk, Gives, wrong, onward, all}
use Rattle.typed_program.specs.declared.expr.Conversion.{Conversion}
use Rattle.typed_program.specs.declared.expr.Conversion.TheVariants.{Same}
use Rattle.typed_program.specs.declared.expr.TypedExpr.{TypedExpr}
use Rattle.typed_values.specs.declared.typed.Kind.{Kind}
use Rattle.typed_values.specs.declared.typed.Kind.TheVariants.{Nothing}
use Rattle.typed_values.specs.declared.typed.Typed.{Typed}
use Rattle.typed_values.specs.Fits.{conversion, converted as converted_by}

abbrev pub any_fit : Kind → Option Conversion
any_fit Nothing = None
any_fit kind = Some Same

-- a parameter whose type has a fault takes each value
abbrev pub param_fit : List ClassHead → Option ValueType → Kind → Option Conversion
param_fit heads (Some to) kind = conversion heads kind to
param_fit heads None kind = any_fit kind

abbrev pub how_or : Option Conversion → ℕ → Walk Conversion
how_or (Some how) at = Gives how
how_or None at = wrong WrongArguments at

abbrev pub param_how : List ClassHead → ℕ → Option ValueType → Typed → Walk Conversion
param_how heads at param arg = how_or (param_fit heads param arg.kind) at

-- each argument with its parameter
abbrev pub param_walks : List ClassHead → ℕ → List (Option ValueType) → List Typed → List (Walk Conversion)
param_walks heads at [] args = []
param_walks heads at (p ∷ ps) [] = []
param_walks heads at (p ∷ ps) (a ∷ args) = param_how heads at p a ∷ param_walks heads at ps args

abbrev pub how_in : Option Conversion → Conversion
how_in (Some how) = how
how_in None = Same

abbrev pub how_at : List Conversion → ℕ → Conversion
how_at hows i = how_in (slice_get hows i)

abbrev pub converted : Conversion → TypedExpr → TypedExpr
converted how tree = converted_by how tree

-- the arguments from the one at place `i` on, each with its conversion
abbrev pub converted_from : List Conversion → ℕ → List Typed → List TypedExpr
converted_from hows i [] = []
converted_from hows i (a ∷ args) = converted (how_at hows i) a.tree ∷ converted_from hows (i + 1) args

abbrev pub fitted_arguments : List ClassHead → List (Option ValueType) → ℕ → List Typed → Walk (List TypedExpr)
fitted_arguments heads params at args =
    cond (eqb (length params) (length args))
    (onward (all (param_walks heads at params args)) (λ hows. Gives (converted_from hows 0 args)))
    (wrong WrongArguments at)
