-- What `new` makes of arguments (docs/language.md, "New values").
use Rattle.std.specs.Prelude.{ℕ, List, [], ◌∷◌, Option, None, Some}
use Rattle.builtin_table.specs.declared.exception.ExceptionClass.{ExceptionClass}
use Rattle.fault_words.specs.declared.fault.FaultWord.TheVariants.{WrongArguments}
use Rattle.class_tables.specs.declared.head.ClassHead.{ClassHead}
use Rattle.class_tables.specs.declared.member.ConstructorHead.{ConstructorHead}
use Rattle.typed_calls.specs.Copies.{copying_of}
use Rattle.typed_calls.specs.declared.copies.Copying.{Copying}
use Rattle.typed_calls.specs.declared.copies.Copying.TheVariants as H
use Rattle.typed_calls.specs.declared.maker.Maker.{Maker}
use Rattle.typed_calls.specs.declared.maker.Maker.TheVariants as M
use Rattle.typed_calls.specs.Makers.{constructor_at}
use Rattle.typed_calls.specs.Arguments.{fitted_arguments}
use Rattle.name_meanings.specs.Settings.{Around}
use Rattle.static_types.specs.declared.kind.Primitive.TheVariants as P
use Rattle.static_types.specs.declared.kind.ValueType.{ValueType}
use Rattle.static_types.specs.declared.kind.ValueType.TheVariants as V
use Rattle.type_names.specs.Walks.{Walk, Gives, wrong, onward}
use Rattle.typed_program.specs.declared.expr.CollectionKind.{CollectionKind}
use Rattle.typed_program.specs.declared.expr.CollectionKind.TheVariants as C
use Rattle.typed_program.specs.declared.expr.Constructor.{Constructor}
use Rattle.typed_program.specs.declared.expr.Constructor.TheVariants.{Implied, Exception, Declared}
use Rattle.typed_program.specs.declared.expr.TypedExpr.{TypedExpr}
use Rattle.typed_program.specs.declared.expr.TypedExpr.TheVariants.{New}
use Rattle.typed_program.specs.declared.expr.TypedNew.{TypedNew}
use Rattle.typed_program.specs.declared.expr.TypedNew.TheVariants as T
use Rattle.typed_values.specs.declared.typed.Kind.TheVariants.{Is}
use Rattle.typed_values.specs.declared.typed.Typed.{Typed}
use Rattle.typed_values.specs.Fits.{plain}

-- nothing, or a message
abbrev pub message : List ClassHead → ℕ → List Typed → Walk (List TypedExpr)
message heads at [] = fitted_arguments heads [] at []
message heads at (a ∷ args) = fitted_arguments heads (Some (V.Primitive P.String) ∷ []) at (a ∷ args)

abbrev pub arguments_for : Around → Option ConstructorHead → ℕ → List Typed → Walk (List TypedExpr)
arguments_for a (Some c) at args = fitted_arguments a.heads c.params at args
arguments_for a None at args = wrong WrongArguments at

abbrev pub declared_arguments : Around → ℕ → ℕ → ℕ → List Typed → Walk (List TypedExpr)
declared_arguments a class place at args = arguments_for a (constructor_at a.members class place) at args

abbrev pub instance_arguments : Around → ℕ → Constructor → ℕ → List Typed → Walk (List TypedExpr)
instance_arguments a class (Declared place) at args = declared_arguments a class place at args
instance_arguments a class Exception at args = message a.heads at args
instance_arguments a class Implied at args = fitted_arguments a.heads [] at args

abbrev pub no_fields : List ClassHead → ℕ → ℕ → List Typed → Walk TypedNew
no_fields heads object at args = onward (fitted_arguments heads [] at args) (λ trees. Gives (T.Record object []))

-- ---- collections

abbrev pub copied : CollectionKind → Copying → TypedExpr → TypedNew
copied kind H.Same tree = T.Copy kind tree
copied kind H.ById tree = T.ById tree

abbrev pub copy_or : Option Copying → CollectionKind → ℕ → Typed → Walk TypedNew
copy_or (Some how) kind at arg = Gives (copied kind how arg.tree)
copy_or None kind at arg = wrong WrongArguments at

abbrev pub copy_of : List ClassHead → ValueType → CollectionKind → ℕ → Typed → Walk TypedNew
copy_of heads to kind at arg = copy_or (copying_of heads to arg.kind) kind at arg

abbrev pub empty : CollectionKind → TypedNew
empty (C.Map key) = T.Map key []
empty kind = T.Collection kind []

-- empty, or of what is in another one
abbrev pub collection : List ClassHead → ValueType → CollectionKind → ℕ → List Typed → Walk TypedNew
collection heads to kind at [] = Gives (empty kind)
collection heads to kind at (a ∷ []) = copy_of heads to kind at a
collection heads to kind at _ = wrong WrongArguments at

-- ---- the whole

abbrev pub instance : Around → ℕ → Constructor → ℕ → List Typed → Walk TypedNew
instance a class constructor at args = onward (instance_arguments a class constructor at args) (λ trees. Gives (T.Instance class constructor trees))

abbrev pub exception : List ClassHead → ExceptionClass → ℕ → List Typed → Walk TypedNew
exception heads class at args = onward (message heads at args) (λ trees. Gives (T.Exception class trees))

abbrev pub new_tree : Around → ValueType → Maker → ℕ → List Typed → Walk TypedNew
new_tree a kind (M.Instance class constructor) at args = instance a class constructor at args
new_tree a kind (M.Exception class) at args = exception a.heads class at args
new_tree a kind (M.Record object) at args = no_fields a.heads object at args
new_tree a kind M.List at args = collection a.heads kind C.List at args
new_tree a kind (M.Set p) at args = collection a.heads kind (C.Set p) at args
new_tree a kind (M.Map p) at args = collection a.heads kind (C.Map p) at args
new_tree a kind M.Nothing at args = wrong WrongArguments at

abbrev pub made_with : Around → ℕ → ValueType → Maker → ℕ → List Typed → Walk Typed
made_with a at kind maker type_at args = onward (new_tree a kind maker type_at args) (λ tree. Gives (plain at (Is kind) (New tree)))
