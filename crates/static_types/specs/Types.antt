-- When two types are the same (docs/language.md, "Types").
use Rattle.std.specs.Prelude.{eqb, ◌&&◌, Bool, true, false}
use Rattle.builtin_table.specs.declared.exception.ExceptionClass.{ExceptionClass}
use Rattle.builtin_table.specs.contracts.exception.ExceptionClassPartialEq.TheImpl as Exceptions
use Rattle.static_types.specs.declared.kind.PlatformType.{PlatformType}
use Rattle.static_types.specs.contracts.kind.PlatformTypePartialEq.TheImpl as Platforms
use Rattle.static_types.specs.declared.kind.Primitive.{Primitive}
use Rattle.static_types.specs.contracts.kind.PrimitivePartialEq.TheImpl as Primitives
use Rattle.static_types.specs.declared.kind.ValueType.{ValueType}
use Rattle.static_types.specs.declared.kind.ValueType.TheOpen.{ValueType-F}
use Rattle.static_types.specs.declared.kind.ValueType.TheFolds.{fold-ValueType}
use Rattle.static_types.specs.declared.kind.ValueType.TheViews.{out-ValueType}

abbrev pub same_primitive : Primitive → Primitive → Bool
same_primitive = Primitives.ghosts.eq

abbrev pub same_exception : ExceptionClass → ExceptionClass → Bool
same_exception = Exceptions.ghosts.eq

abbrev pub same_platform : PlatformType → PlatformType → Bool
same_platform = Platforms.ghosts.eq

-- one form of a type, where it is known which types each type in it is the same as
abbrev pub same_form : ValueType-F (ValueType → Bool) → ValueType-F ValueType → Bool
same_form (ValueType-F.Primitive p) (ValueType-F.Primitive q) = same_primitive p q
same_form (ValueType-F.List is) (ValueType-F.List t) = is t
same_form (ValueType-F.Set p) (ValueType-F.Set q) = same_primitive p q
same_form (ValueType-F.Map p is) (ValueType-F.Map q t) = same_primitive p q && is t
same_form (ValueType-F.Record n) (ValueType-F.Record m) = eqb n m
same_form (ValueType-F.Class n) (ValueType-F.Class m) = eqb n m
same_form ValueType-F.AnyException ValueType-F.AnyException = true
same_form (ValueType-F.Exception c) (ValueType-F.Exception d) = same_exception c d
same_form (ValueType-F.Platform k) (ValueType-F.Platform l) = same_platform k l
same_form _ _ = false

abbrev pub same : ValueType → ValueType → Bool
same = fold-ValueType (ValueType → Bool) (λ form t. same_form form (out-ValueType t))
