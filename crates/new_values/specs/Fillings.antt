-- New collections with their items (docs/language.md, "Elements and items").
use Rattle.std.specs.Prelude.{ℕ, List, Option, None, Some}
use Rattle.fault_words.specs.declared.fault.FaultWord.TheVariants.{WrongType}
use Rattle.class_tables.specs.declared.head.ClassHead.{ClassHead}
use Rattle.static_types.specs.declared.kind.Primitive.{Primitive}
use Rattle.static_types.specs.declared.kind.ValueType.{ValueType}
use Rattle.static_types.specs.declared.kind.ValueType.TheOpen.{ValueType-F}
use Rattle.static_types.specs.declared.kind.ValueType.TheVariants as V
use Rattle.static_types.specs.declared.kind.ValueType.TheViews.{out-ValueType}
use Rattle.type_names.specs.Walks.{Walk, Gives, wrong, onward}
use Rattle.typed_program.specs.declared.expr.CollectionKind.{CollectionKind}
use Rattle.typed_program.specs.declared.expr.CollectionKind.TheVariants as C
use Rattle.typed_program.specs.declared.expr.TypedExpr.{TypedExpr}
use Rattle.typed_program.specs.declared.expr.TypedExpr.TheVariants.{New}
use Rattle.typed_program.specs.declared.expr.TypedItem.{TypedItem}
use Rattle.typed_program.specs.declared.expr.TypedNew.TheVariants as T
use Rattle.typed_values.specs.declared.typed.Kind.TheVariants.{Is}
use Rattle.typed_values.specs.declared.typed.Typed.{Typed}
use Rattle.typed_values.specs.Fits.{plain, fitted}

abbrev pub filling_of : ValueType-F ValueType → ℕ → Walk CollectionKind
filling_of (ValueType-F.List item) at = Gives C.List
filling_of (ValueType-F.Set p) at = Gives (C.Set p)
filling_of (ValueType-F.Map key value) at = Gives (C.Map key)
filling_of _ at = wrong WrongType at

-- items of lists and sets have no values
abbrev pub item_tree : List ClassHead → ValueType-F ValueType → Typed → Walk TypedExpr
item_tree heads (ValueType-F.List to) item = fitted heads item to
item_tree heads (ValueType-F.Set p) item = fitted heads item (V.Primitive p)
item_tree heads _ item = wrong WrongType item.at

abbrev pub bare_item : List ClassHead → ValueType → Typed → Option Typed → Walk TypedExpr
bare_item heads kind item (Some value) = wrong WrongType item.at
bare_item heads kind item None = item_tree heads (out-ValueType kind) item

-- keys of maps do
abbrev pub keyed : List ClassHead → Primitive → ValueType → Typed → Typed → Walk TypedItem
keyed heads key to item value =
    onward (fitted heads item (V.Primitive key)) (λ k. onward (fitted heads value to) (λ v. Gives (record { key = k; value = v })))

abbrev pub pair_tree : List ClassHead → ValueType-F ValueType → Typed → Typed → Walk TypedItem
pair_tree heads (ValueType-F.Map key to) item value = keyed heads key to item value
pair_tree heads _ item value = wrong WrongType item.at

abbrev pub pair_item : List ClassHead → ValueType → Typed → Option Typed → Walk TypedItem
pair_item heads kind item (Some value) = pair_tree heads (out-ValueType kind) item value
pair_item heads kind item None = wrong WrongType item.at

abbrev pub filled_with : ℕ → ValueType → CollectionKind → List TypedExpr → Typed
filled_with at kind filling items = plain at (Is kind) (New (T.Collection filling items))

abbrev pub mapped_with : ℕ → ValueType → Primitive → List TypedItem → Typed
mapped_with at kind key items = plain at (Is kind) (New (T.Map key items))
