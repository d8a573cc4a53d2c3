-- How built-in methods are called (docs/language.md, "Built-in methods").
use Rattle.std.specs.Prelude.{Bool, true, false}
use Rattle.builtin_table.specs.declared.method.Builtin.{Builtin}
use Rattle.builtin_table.specs.declared.method.Builtin.TheVariants as B
use Rattle.builtin_table.specs.declared.method.ListMethod.TheVariants as L
use Rattle.builtin_table.specs.declared.method.PlatformMethod.{PlatformMethod}
use Rattle.builtin_table.specs.declared.method.PlatformMethod.TheVariants as O

-- those of exceptions, results, errors and records are called on a value
abbrev pub is_static_platform : PlatformMethod → Bool
is_static_platform O.Message = false
is_static_platform O.TypeName = false
is_static_platform O.IsSuccess = false
is_static_platform O.ResultId = false
is_static_platform O.Errors = false
is_static_platform O.ErrorMessage = false
is_static_platform O.StatusCode = false
is_static_platform O.AddError = false
is_static_platform _ = true

-- a method is called on a type, and not on a value of it
abbrev pub is_static : Builtin → Bool
is_static (B.Nullable m) = true
is_static B.TextOf = true
is_static (B.Read m) = true
is_static (B.Math m) = true
is_static B.NewDate = true
is_static B.DaysInMonth = true
is_static B.IsLeapYear = true
is_static B.NewMoment = true
is_static B.Join = true
is_static (B.Platform m) = is_static_platform m
is_static _ = false

-- only a list of primitives is searched and sorted
abbrev pub wants_primitive_items : Builtin → Bool
wants_primitive_items (B.List L.Contains) = true
wants_primitive_items (B.List L.IndexOf) = true
wants_primitive_items (B.List L.Sort) = true
wants_primitive_items _ = false
