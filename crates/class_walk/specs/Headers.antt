-- The first fault of what stands in front of the members of a class (docs/language.md, "Classes").
use Rattle.std.specs.Prelude.{ℕ, ◌&&◌, ◌||◌, not, eqb, nat_lt, Bool, true, false, cond, List, [], ◌∷◌, codes, map, slice_get, Option, None, Some}
use Rattle.std.specs.Borrow.{Bor}
use Rattle.std.specs.List.{ends_with}
use Rattle.fault_words.specs.declared.fault.FaultWord.TheVariants.{Duplicate, BadParent}
use Rattle.schema_names.specs.Names.{has, place_of}
use Rattle.apex_syntax.specs.declared.unit.ClassTree.{ClassTree}
use Rattle.apex_syntax.specs.declared.unit.Unit.{Unit as Tree}
use Rattle.apex_syntax.specs.declared.word.Word.{Word}
use Rattle.static_types.specs.declared.kind.ValueType.{ValueType}
use Rattle.static_types.specs.declared.kind.ValueType.TheOpen.{ValueType-F}
use Rattle.static_types.specs.declared.kind.ValueType.TheViews.{out-ValueType}
use Rattle.static_types.specs.Names.{type_names, said}
use Rattle.type_names.specs.TypeTrees.{Known, named_type}
use Rattle.type_names.specs.Walks.{Walk, Gives, wrong, onward}
use Rattle.class_tables.specs.declared.head.ClassHead.{ClassHead}
use Rattle.class_tables.specs.declared.head.Parent.TheVariants as P
use Rattle.class_tables.specs.Heads.{unit_name, known_of, heads_of}
use Rattle.class_tables.specs.Lines.{ends_within, reaches_exception}

abbrev pub Nothing : Type 0
Nothing = Unit {0}

-- ---- the name

-- the names that the platform has beside those of types
abbrev pub platform_words : List (List ℕ)
platform_words = codes "math" ∷ codes "system" ∷ codes "database" ∷ codes "limits" ∷ codes "userinfo" ∷ codes "trigger" ∷ []

abbrev pub is_some : {A : Type 0} → Option A → Bool
is_some (Some a) = true
is_some None = false

abbrev pub is_before : Option ℕ → ℕ → Bool
is_before (Some m) n = nat_lt m n
is_before None n = false

abbrev pub words_in : List (Bor (List ℕ)) → List (List ℕ)
words_in words = map (λ w. w.now) words

-- an earlier unit, an object or the platform has the name
abbrev pub is_taken : List (List ℕ) → List (List ℕ) → ℕ → List ℕ → Bool
is_taken objects unit_names n name =
    is_before (place_of unit_names name) n || (is_some (place_of objects name) || (is_some (said type_names name) || has platform_words name))

abbrev pub fresh : List (List ℕ) → List (List ℕ) → ℕ → Word → Walk Nothing
fresh objects unit_names n w = cond (is_taken objects unit_names n w.name) (wrong Duplicate w.span.from) (Gives tt)

-- ---- the parent

-- the name of an exception class ends so
abbrev pub ends_as_exception : List ℕ → Bool
ends_as_exception name = ends_with eqb name (codes "exception")

abbrev pub is_open : Option ClassHead → Bool
is_open (Some head) = head.extendable
is_open None = false

-- a child of the class has at most 32 ancestors
unfoldable pub has_few_ancestors : List ClassHead → ℕ → Bool
has_few_ancestors heads c = ends_within heads 32 (P.Class c)

-- a child of the class is an exception
unfoldable pub has_exceptions : List ClassHead → ℕ → Bool
has_exceptions heads c = reaches_exception heads 32 (P.Class c)

-- a class is virtual or abstract where it is extended; there are at most 32 ancestors; an exception has an exception's name
abbrev pub may_extend : List ClassHead → List ℕ → ℕ → Bool
may_extend heads own c =
    is_open (slice_get heads c) && (has_few_ancestors heads c && (ends_as_exception own || not (has_exceptions heads c)))

abbrev pub parent_fits : List ClassHead → List ℕ → ValueType-F ValueType → Bool
parent_fits heads own (ValueType-F.Class c) = may_extend heads own c
parent_fits heads own ValueType-F.AnyException = ends_as_exception own
parent_fits heads own _ = false

abbrev pub parent_walk : Known → List ClassHead → List ℕ → Option Word → Walk Nothing
parent_walk known heads own None = Gives tt
parent_walk known heads own (Some w) =
    onward (named_type known w.name None w.span.from) (λ kind.
    cond (parent_fits heads own (out-ValueType kind)) (Gives tt) (wrong BadParent w.span.from))

-- ---- interfaces

abbrev pub is_interface_head : Option ClassHead → Bool
is_interface_head (Some head) = head.interface
is_interface_head None = false

abbrev pub interface_fits : List ClassHead → ValueType-F ValueType → Bool
interface_fits heads (ValueType-F.Class c) = is_interface_head (slice_get heads c)
interface_fits heads _ = false

abbrev pub interface_walk : Known → List ClassHead → Word → Walk Nothing
interface_walk known heads w =
    onward (named_type known w.name None w.span.from) (λ kind.
    cond (interface_fits heads (out-ValueType kind)) (Gives tt) (wrong BadParent w.span.from))

abbrev pub interfaces_walk : Known → List ClassHead → List Word → Walk Nothing
interfaces_walk known heads [] = Gives tt
interfaces_walk known heads (w ∷ ws) = onward (interface_walk known heads w) (λ _. interfaces_walk known heads ws)

-- ---- the whole

abbrev pub unit_name_walk : List (List ℕ) → List Tree → ℕ → Word → Walk Nothing
unit_name_walk objects units n w = fresh objects (map unit_name units) n w

-- the name, the parent, the interfaces
abbrev pub class_header : List (List ℕ) → List Tree → ℕ → ClassTree → Walk Nothing
class_header objects units n t =
    onward (unit_name_walk objects units n t.name) (λ _.
    onward (parent_walk (known_of objects units) (heads_of objects units) t.name.name t.parent) (λ _.
    interfaces_walk (known_of objects units) (heads_of objects units) t.interfaces))
