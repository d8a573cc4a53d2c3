-- Elements of lists (docs/language.md, "Elements and items").
use Rattle.std.specs.Prelude.{List, Option, None, Some}
use Rattle.fault_words.specs.declared.fault.FaultWord.TheVariants.{WrongType}
use Rattle.class_tables.specs.declared.head.ClassHead.{ClassHead}
use Rattle.name_meanings.specs.Parts.{with_part}
use Rattle.static_types.specs.declared.kind.Primitive.TheVariants as P
use Rattle.static_types.specs.declared.kind.ValueType.{ValueType}
use Rattle.static_types.specs.declared.kind.ValueType.TheOpen.{ValueType-F}
use Rattle.static_types.specs.declared.kind.ValueType.TheVariants as V
use Rattle.static_types.specs.declared.kind.ValueType.TheViews.{out-ValueType}
use Rattle.type_names.specs.Walks.{Walk, Gives, wrong, onward}
use Rattle.typed_program.specs.declared.expr.TypedExpr.{TypedExpr}
use Rattle.typed_program.specs.declared.expr.TypedPart.TheVariants.{Index}
use Rattle.typed_values.specs.declared.typed.Kind.{Kind}
use Rattle.typed_values.specs.declared.typed.Kind.TheVariants.{Faulty, Is}
use Rattle.typed_values.specs.declared.typed.Role.TheVariants.{Variable}
use Rattle.typed_values.specs.declared.typed.Typed.{Typed}
use Rattle.typed_values.specs.Fits.{typed, fitted}

abbrev pub element_type : ValueType-F ValueType → Option Kind
element_type (ValueType-F.List item) = Some (Is item)
element_type _ = None

-- lists have elements, and so may have what is at fault elsewhere
abbrev pub element : Kind → Option Kind
element (Is kind) = element_type (out-ValueType kind)
element Faulty = Some Faulty
element _ = None

abbrev pub element_tree : List ClassHead → TypedExpr → Typed → Walk TypedExpr
element_tree heads list index = onward (fitted heads index (V.Primitive P.Integer)) (λ tree. Gives (with_part list (Index tree)))

abbrev pub indexed_as : List ClassHead → Option Kind → Typed → Typed → Walk Typed
indexed_as heads (Some kind) list index = onward (element_tree heads list.tree index) (λ tree. Gives (typed list.at kind Variable tree))
indexed_as heads None list index = wrong WrongType list.at

-- the list is judged before the index
abbrev pub indexed : List ClassHead → Typed → Typed → Walk Typed
indexed heads list index = indexed_as heads (element list.kind) list index
