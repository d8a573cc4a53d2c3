-- When a method overrides as it may (docs/language.md, "Members").
use Rattle.std.specs.Prelude.{ℕ, ◌&&◌, not, Bool, true, false, cond, List, slice_get, Option, None, Some}
use Rattle.class_tables.specs.declared.head.ClassHead.{ClassHead}
use Rattle.class_tables.specs.Lines.{ancestors, parent_at}
use Rattle.class_tables.specs.declared.key.MethodKey.{MethodKey}
use Rattle.class_tables.specs.declared.member.ClassMembers.{ClassMembers}
use Rattle.class_tables.specs.declared.member.MethodHead.{MethodHead}
use Rattle.class_tables.specs.declared.tables.Member.{Member}
use Rattle.class_tables.specs.Lookups.{first_in, method_at, method_key, own_method}
use Rattle.class_walk.specs.Signatures.{same_signature}

-- private methods aren't inherited
abbrev pub is_inherited : Option MethodHead → Bool
is_inherited (Some m) = not m.is_private
is_inherited None = false

abbrev pub kept : List MethodHead → Option ℕ → Option ℕ
kept methods (Some n) = cond (is_inherited (slice_get methods n)) (Some n) None
kept methods None = None

abbrev pub own_inherited : MethodKey → ClassMembers → Option ℕ
own_inherited k m = kept m.methods (own_method k m)

-- the method that a class gets from its ancestors, the nearest first
abbrev pub overridden : List ClassMembers → List ClassHead → ℕ → MethodKey → Option Member
overridden all heads c k = first_in (own_inherited k) all (ancestors heads 32 (parent_at heads c))

abbrev pub method_of : List ClassMembers → Option Member → Option MethodHead
method_of all (Some member) = method_at all member
method_of all None = None

-- what is overridden is virtual, and has the same types; `override` is said exactly where something is, whatever the
-- method says of access
abbrev pub may_stand : Option MethodHead → MethodHead → Bool
may_stand (Some over) m = m.is_override && (over.is_virtual && same_signature over m)
may_stand None m = not m.is_override

-- a static method overrides nothing
abbrev pub fits_over : List ClassMembers → List ClassHead → ℕ → MethodHead → Bool
fits_over all heads c m = cond m.is_static (not m.is_override) (may_stand (method_of all (overridden all heads c (method_key m))) m)

abbrev pub overrides_well : List ClassMembers → List ClassHead → ℕ → Option MethodHead → Bool
overrides_well all heads c (Some m) = fits_over all heads c m
overrides_well all heads c None = true
