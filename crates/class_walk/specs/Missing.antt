-- What a class that isn't abstract lacks (docs/language.md, "Members").
use Rattle.std.specs.Prelude.{ℕ, ◌&&◌, ◌||◌, not, Bool, false, cond, List, [], slice_get, Option, None, Some}
use Rattle.std.specs.List.{list_any}
use Rattle.fault_words.specs.declared.fault.FaultWord.TheVariants.{MissingMethod}
use Rattle.class_tables.specs.declared.head.ClassHead.{ClassHead}
use Rattle.class_walk.specs.Headers.{Nothing}
use Rattle.class_tables.specs.Lines.{ancestors, interfaces_at, line_of, parent_at}
use Rattle.class_tables.specs.declared.member.ClassMembers.{ClassMembers}
use Rattle.class_tables.specs.declared.member.MethodHead.{MethodHead}
use Rattle.class_tables.specs.Lookups.{found_method, method_key}
use Rattle.class_walk.specs.Overrides.{method_of}
use Rattle.class_walk.specs.Signatures.{same_signature}
use Rattle.type_names.specs.Walks.{Walk, Gives, wrong}

abbrev pub methods_or : Option ClassMembers → List MethodHead
methods_or (Some m) = m.methods
methods_or None = []

abbrev pub methods_of : List ClassMembers → ℕ → List MethodHead
methods_of all c = methods_or (slice_get all c)

-- the method that stands in a class in place of another one: the nearest of its kind, name and number of parameters,
-- private ones too
abbrev pub in_place_of : List ClassMembers → List ClassHead → ℕ → MethodHead → Option MethodHead
in_place_of all heads c m = method_of all (found_method all heads c (method_key m))

-- ---- its own methods have bodies, static and private ones too

abbrev pub lacks_body : MethodHead → Bool
lacks_body m = not m.has_body

abbrev pub lacks_own : List ClassMembers → ℕ → Bool
lacks_own all c = list_any lacks_body (methods_of all c)

-- ---- the methods without a body of its ancestors, static and private ones too

abbrev pub runs : Option MethodHead → Bool
runs (Some m) = m.has_body
runs None = false

-- no one with a body stands in its place; whether the types are those is told where that one stands
abbrev pub is_lacked : List ClassMembers → List ClassHead → ℕ → MethodHead → Bool
is_lacked all heads c m = lacks_body m && not (runs (in_place_of all heads c m))

abbrev pub lacks_of : List ClassMembers → List ClassHead → ℕ → ℕ → Bool
lacks_of all heads c ancestor = list_any (is_lacked all heads c) (methods_of all ancestor)

abbrev pub lacks_inherited : List ClassMembers → List ClassHead → ℕ → Bool
lacks_inherited all heads c = list_any (lacks_of all heads c) (ancestors heads 32 (parent_at heads c))

-- ---- the methods of its interfaces and of those of its ancestors

abbrev pub answers : Option MethodHead → MethodHead → Bool
answers (Some m) signature = m.has_body && same_signature m signature
answers None signature = false

abbrev pub is_unmet : List ClassMembers → List ClassHead → ℕ → MethodHead → Bool
is_unmet all heads c signature = not (answers (in_place_of all heads c signature) signature)

abbrev pub lacks_for : List ClassMembers → List ClassHead → ℕ → ℕ → Bool
lacks_for all heads c interface = list_any (is_unmet all heads c) (methods_of all interface)

abbrev pub lacks_named : List ClassMembers → List ClassHead → ℕ → ℕ → Bool
lacks_named all heads c namer = list_any (lacks_for all heads c) (interfaces_at heads namer)

abbrev pub lacks_promised : List ClassMembers → List ClassHead → ℕ → Bool
lacks_promised all heads c = list_any (lacks_named all heads c) (line_of heads c)

-- ---- the walk

abbrev pub lacks : List ClassMembers → List ClassHead → ℕ → Bool
lacks all heads c = lacks_own all c || (lacks_inherited all heads c || lacks_promised all heads c)

abbrev pub missing_walk : List ClassMembers → List ClassHead → ℕ → Bool → ℕ → Walk Nothing
missing_walk all heads c is_abstract at = cond (not is_abstract && lacks all heads c) (wrong MissingMethod at) (Gives tt)
