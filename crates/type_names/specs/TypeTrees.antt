-- Which type a tree names (docs/language.md, "Types").
use Rattle.std.specs.Prelude.{ℕ, zero, suc, cond, List, [], ◌∷◌, codes, bytes_eq, option_map, Option, None, Some}
use Rattle.schema_names.specs.Names.{place_of}
use Rattle.fault_words.specs.declared.fault.FaultWord.TheVariants.{UnknownType, DoubleRefused, WrongType}
use Rattle.apex_syntax.specs.declared.expr.TypeTree.{TypeTree}
use Rattle.apex_syntax.specs.declared.expr.TypeTree.TheOpen.{TypeTree-F}
use Rattle.apex_syntax.specs.declared.expr.TypeTree.TheFolds.{fold-TypeTree}
use Rattle.apex_syntax.specs.declared.word.Word.{Word}
use Rattle.static_types.specs.declared.kind.PlatformType.TheVariants as K
use Rattle.static_types.specs.declared.kind.Primitive.{Primitive}
use Rattle.static_types.specs.declared.kind.ValueType.{ValueType}
use Rattle.static_types.specs.declared.kind.ValueType.TheOpen.{ValueType-F}
use Rattle.static_types.specs.declared.kind.ValueType.TheVariants as V
use Rattle.static_types.specs.declared.kind.ValueType.TheViews.{out-ValueType}
use Rattle.static_types.specs.declared.named.TypeName.TheVariants as T
use Rattle.static_types.specs.Names.{type_names, platform_names, said as says}
use Rattle.type_names.specs.declared.head.TypeHead.{TypeHead}
use Rattle.type_names.specs.declared.head.TypeHead.TheVariants.{Named, Platform, Record, Class}
use Rattle.type_names.specs.declared.names.PlacedType.{PlacedType}
use Rattle.type_names.specs.declared.names.TypeNames.{TypeNames}
use Rattle.type_names.specs.Walks.{Walk, Gives, wrong, onward, all}

-- ---- names

-- the names of a tenant's objects, and of its classes and interfaces
pub record Known : Type 0 where
  pub objects : List (List ℕ)
  pub classes : List (List ℕ)

abbrev pub known : TypeNames → Known
known names = record { objects = names.objects.now.names.items; classes = names.classes.now.names.items }

abbrev pub or_else : {A : Type 0} → Option A → Option A → Option A
or_else (Some a) other = Some a
or_else None other = other

-- a name that stands alone names a built-in type, an object or a class, in this order
abbrev pub alone : Known → List ℕ → Option TypeHead
alone known name =
    or_else (option_map Named (says type_names name))
    (or_else (option_map Record (place_of known.objects name)) (option_map Class (place_of known.classes name)))

-- behind a dot stands a built-in type of `System`, or a type of `Database`
abbrev pub member : List ℕ → List ℕ → Option TypeHead
member front name =
    cond (bytes_eq front (codes "system")) (option_map Named (says type_names name))
    (cond (bytes_eq front (codes "database")) (option_map Platform (says platform_names name)) None)

abbrev pub named : Known → List ℕ → Option Word → Option TypeHead
named known name None = alone known name
named known name (Some word) = member name word.name

-- a name that is no type is UnknownType, and Double is refused
abbrev pub accepted : Option TypeHead → ℕ → Walk TypeHead
accepted None at = wrong UnknownType at
accepted (Some (Named T.Double)) at = wrong DoubleRefused at
accepted (Some head) at = Gives head

-- ---- types of types; a placed type has the byte of its first token

-- a type without `<` and `>`
abbrev pub plain : TypeHead → ℕ → Walk ValueType
plain (Named (T.Primitive p)) at = Gives (V.Primitive p)
plain (Named T.Savepoint) at = Gives (V.Platform K.Savepoint)
plain (Named T.AnyException) at = Gives V.AnyException
plain (Named (T.Exception class)) at = Gives (V.Exception class)
plain (Named _) at = wrong UnknownType at
plain (Platform kind) at = Gives (V.Platform kind)
plain (Record n) at = Gives (V.Record n)
plain (Class n) at = Gives (V.Class n)

-- the type that a name alone says
abbrev pub named_type : Known → List ℕ → Option Word → ℕ → Walk ValueType
named_type known name behind at = onward (accepted (named known name behind) at) (λ head. plain head at)

-- keys of maps and items of sets are primitives
abbrev pub key_in : ValueType-F ValueType → ℕ → Walk Primitive
key_in (ValueType-F.Primitive p) at = Gives p
key_in _ at = wrong WrongType at

abbrev pub key_of : PlacedType → Walk Primitive
key_of arg = key_in (out-ValueType arg.kind) arg.at

abbrev pub of_one : TypeHead → PlacedType → ℕ → Walk ValueType
of_one (Named T.List) arg at = Gives (V.List arg.kind)
of_one (Named T.Set) arg at = onward (key_of arg) (λ p. Gives (V.Set p))
of_one _ arg at = wrong UnknownType at

abbrev pub of_two : TypeHead → PlacedType → PlacedType → ℕ → Walk ValueType
of_two (Named T.Map) key value at = onward (key_of key) (λ p. Gives (V.Map p value.kind))
of_two _ key value at = wrong UnknownType at

-- a wrong number of types is UnknownType at the name
abbrev pub applied : TypeHead → List PlacedType → ℕ → Walk ValueType
applied head [] at = plain head at
applied head (a ∷ []) at = of_one head a at
applied head (a ∷ b ∷ []) at = of_two head a b at
applied head _ at = wrong UnknownType at

-- `T[]` is `List<T>`
abbrev pub listed : ℕ → ValueType → ValueType
listed zero kind = kind
listed (suc n) kind = V.List (listed n kind)

-- ---- trees

-- first the name, then the types behind it from left to right, then the whole
abbrev pub type_step : Known → TypeTree-F (Walk PlacedType) → Walk PlacedType
type_step known t =
    onward (accepted (named known t.name.name t.member) t.span.from) (λ head.
    onward (all t.args) (λ args.
    onward (applied head args t.span.from) (λ kind.
    Gives (record { at = t.span.from; kind = listed t.arrays kind }))))

abbrev pub placed_of : Known → TypeTree → Walk PlacedType
placed_of known = fold-TypeTree (Walk PlacedType) (type_step known)

abbrev pub type_of : Known → TypeTree → Walk ValueType
type_of known tree = onward (placed_of known tree) (λ p. Gives p.kind)
