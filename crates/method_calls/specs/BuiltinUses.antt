-- Built-in methods as code may use them (docs/language.md, "Calls").
use Rattle.std.specs.Prelude.{◌≡◌, ℕ, ◌&&◌, ◌||◌, not, Bool, cond, List, [], ◌∷◌, codes, is_some, Option, None, Some}
use Rattle.std.specs.List.{list_any}
use Rattle.apex_text.specs.Fold.{folded}
use Rattle.builtin_signatures.specs.Statics.{is_static, wants_primitive_items}
use Rattle.builtin_table.specs.declared.method.Builtin.{Builtin}
use Rattle.builtin_names.specs.Names.{signature_of}
use Rattle.method_calls.specs.declared.builtin.BuiltinUse.{BuiltinUse}
use Rattle.method_calls.specs.declared.builtin.BuiltinUse.TheVariants.{Unknown, WrongCount, Found}
use Rattle.method_calls.specs.declared.builtin.Target.{Target}
use Rattle.method_calls.specs.declared.builtin.Target.TheVariants.{OnType, OnValue}
use Rattle.static_types.specs.declared.kind.PlatformType.{PlatformType}
use Rattle.static_types.specs.declared.kind.PlatformType.TheVariants as K
use Rattle.static_types.specs.declared.kind.Primitive.{Primitive}
use Rattle.static_types.specs.declared.kind.Primitive.TheVariants as P
use Rattle.static_types.specs.declared.kind.ValueType.{ValueType}
use Rattle.static_types.specs.declared.kind.ValueType.TheOpen.{ValueType-F}
use Rattle.static_types.specs.declared.named.TypeName.{TypeName}
use Rattle.static_types.specs.declared.named.TypeName.TheVariants as T
use Rattle.typed_values.specs.declared.typed.Space.{Space}
use Rattle.typed_values.specs.declared.typed.Space.TheVariants as S

-- ---- the words of types in the table of methods

abbrev pub primitive_word : Primitive → List ℕ
primitive_word P.Boolean = codes "boolean"
primitive_word P.Integer = codes "integer"
primitive_word P.Long = codes "long"
primitive_word P.Decimal = codes "decimal"
primitive_word P.String = codes "string"
primitive_word P.Id = codes "id"
primitive_word P.Date = codes "date"
primitive_word P.Datetime = codes "datetime"

abbrev pub platform_word : PlatformType → List ℕ
platform_word K.Savepoint = codes "savepoint"
platform_word K.SaveResult = codes "database.saveresult"
platform_word K.DeleteResult = codes "database.deleteresult"
platform_word K.UpsertResult = codes "database.upsertresult"
platform_word K.Error = codes "database.error"

abbrev pub type_word : ValueType-F ValueType → List ℕ
type_word (ValueType-F.Primitive p) = primitive_word p
type_word (ValueType-F.List item) = codes "list"
type_word (ValueType-F.Set p) = codes "set"
type_word (ValueType-F.Map p value) = codes "map"
type_word (ValueType-F.Record n) = codes "sobject"
type_word (ValueType-F.Class c) = []
type_word ValueType-F.AnyException = codes "exception"
type_word (ValueType-F.Exception class) = codes "exception"
type_word (ValueType-F.Platform kind) = platform_word kind

abbrev pub named_word : TypeName → List ℕ
named_word (T.Primitive p) = primitive_word p
named_word _ = []

abbrev pub space_word : Space → List ℕ
space_word (S.Named named) = named_word named
space_word S.Database = codes "database"
space_word S.Math = codes "math"
space_word S.Limits = codes "limits"
space_word S.UserInfo = codes "userinfo"
space_word _ = []

-- ---- methods

-- on a type the methods of the type itself, on a value the others; on a list whose items are no primitives, none of those
-- that search and sort
abbrev pub is_for : Target → Builtin → Bool
is_for OnType b = is_static b
is_for (OnValue sorts) b = not (is_static b) && (sorts || not (wants_primitive_items b))

abbrev pub called_so : Target → Option Builtin → Option Builtin
called_so on (Some b) = cond (is_for on b) (Some b) None
called_so on None = None

abbrev pub called : List ℕ → List ℕ → ℕ → Target → Option Builtin
called kind method count on = called_so on (signature_of kind method count)

abbrev pub called_with_any : List ℕ → List ℕ → List ℕ → Target → Bool
called_with_any kind method counts on = list_any (λ count. is_some (called kind method count on)) counts

-- no method takes more than six arguments
abbrev pub counts : List ℕ
counts = 0 ∷ 1 ∷ 2 ∷ 3 ∷ 4 ∷ 5 ∷ 6 ∷ []

abbrev pub use_or : Bool → Option Builtin → BuiltinUse
use_or others (Some b) = Found b
use_or others None = cond others WrongCount Unknown

abbrev pub use_of : List ℕ → List ℕ → ℕ → Target → BuiltinUse
use_of kind method count on = use_or (called_with_any kind method counts on) (called kind method count on)

abbrev pub builtin_use : List ℕ → List ℕ → ℕ → Target → BuiltinUse
builtin_use kind method count on = use_of (folded kind) method count on

-- ---- what is unknown for one number of arguments is so for every number

abbrev pub UnknownForAll : Type 0
UnknownForAll = (kind method : List ℕ) (on : Target) (n k : ℕ) → builtin_use kind method n on ≡ Unknown → builtin_use kind method k on ≡ Unknown
