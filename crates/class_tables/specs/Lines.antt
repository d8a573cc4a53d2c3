-- Ancestors, and when a type fits another (docs/language.md, "Types").
use Rattle.std.specs.Prelude.{ℕ, zero, suc, ◌||◌, eqb, Bool, true, false, List, [], ◌∷◌, slice_get, Option, None, Some}
use Rattle.std.specs.List.{list_any}
use Rattle.static_types.specs.declared.kind.Primitive.{Primitive}
use Rattle.static_types.specs.declared.kind.Primitive.TheVariants as Primitives
use Rattle.static_types.specs.declared.kind.ValueType.{ValueType}
use Rattle.static_types.specs.declared.kind.ValueType.TheOpen.{ValueType-F}
use Rattle.static_types.specs.declared.kind.ValueType.TheViews.{out-ValueType}
use Rattle.static_types.specs.Types.{same}
use Rattle.class_tables.specs.declared.head.ClassHead.{ClassHead}
use Rattle.class_tables.specs.declared.head.Parent.{Parent}
use Rattle.class_tables.specs.declared.head.Parent.TheVariants as P

abbrev pub parent_or : Option ClassHead → Parent
parent_or (Some head) = head.parent
parent_or None = P.None

abbrev pub parent_at : List ClassHead → ℕ → Parent
parent_at heads c = parent_or (slice_get heads c)

abbrev pub interfaces_or : Option ClassHead → List ℕ
interfaces_or (Some head) = head.interfaces
interfaces_or None = []

abbrev pub interfaces_at : List ClassHead → ℕ → List ℕ
interfaces_at heads c = interfaces_or (slice_get heads c)

-- a chain of parents has at most so many ancestors, `Exception` being one
abbrev pub ends_within : List ClassHead → ℕ → Parent → Bool
ends_within heads n P.None = true
ends_within heads zero p = false
ends_within heads (suc n) P.Exception = true
ends_within heads (suc n) (P.Class c) = ends_within heads n (parent_at heads c)

-- it comes to `Exception` within so many
abbrev pub reaches_exception : List ClassHead → ℕ → Parent → Bool
reaches_exception heads zero p = false
reaches_exception heads (suc n) P.None = false
reaches_exception heads (suc n) P.Exception = true
reaches_exception heads (suc n) (P.Class c) = reaches_exception heads n (parent_at heads c)

-- the classes on a chain of parents, nearest first, at most so many
abbrev pub ancestors : List ClassHead → ℕ → Parent → List ℕ
ancestors heads zero p = []
ancestors heads (suc n) (P.Class c) = c ∷ ancestors heads n (parent_at heads c)
ancestors heads (suc n) _ = []

-- a class and its ancestors, of which there are at most 32
abbrev pub line_of : List ClassHead → ℕ → List ℕ
line_of heads c = c ∷ ancestors heads 32 (parent_at heads c)

abbrev pub is_exception : List ClassHead → ℕ → Bool
is_exception heads c = reaches_exception heads 32 (parent_at heads c)

abbrev pub has_number : List ℕ → ℕ → Bool
has_number numbers n = list_any (eqb n) numbers

-- a class is another one, or names it as an interface
abbrev pub meets : List ClassHead → ℕ → ℕ → Bool
meets heads to c = eqb c to || has_number (interfaces_at heads c) to

-- a class fits itself, its ancestors, and the interfaces of these and its own
abbrev pub class_fits : List ClassHead → ℕ → ℕ → Bool
class_fits heads c to = list_any (meets heads to) (line_of heads c)

-- along Integer, Long, Decimal, and between String and Id both ways
abbrev pub widens : Primitive → Primitive → Bool
widens Primitives.Integer Primitives.Long = true
widens Primitives.Integer Primitives.Decimal = true
widens Primitives.Long Primitives.Decimal = true
widens Primitives.String Primitives.Id = true
widens Primitives.Id Primitives.String = true
widens _ _ = false

abbrev pub form_fits : List ClassHead → ValueType-F ValueType → ValueType-F ValueType → Bool
form_fits heads (ValueType-F.Primitive p) (ValueType-F.Primitive q) = widens p q
form_fits heads (ValueType-F.Class c) (ValueType-F.Class to) = class_fits heads c to
form_fits heads (ValueType-F.Class c) ValueType-F.AnyException = is_exception heads c
form_fits heads (ValueType-F.Exception c) ValueType-F.AnyException = true
form_fits heads _ _ = false

abbrev pub fits : List ClassHead → ValueType → ValueType → Bool
fits heads from to = same from to || form_fits heads (out-ValueType from) (out-ValueType to)
