-- The types that every tenant has by name (docs/language.md, "Types").
use Rattle.std.specs.Prelude.{ℕ, cond, List, [], ◌∷◌, codes, bytes_eq, Option, None, Some}
use Rattle.builtin_table.specs.declared.exception.ExceptionClass.TheVariants as E
use Rattle.static_types.specs.declared.kind.PlatformType.{PlatformType}
use Rattle.static_types.specs.declared.kind.PlatformType.TheVariants as K
use Rattle.static_types.specs.declared.kind.Primitive.TheVariants as P
use Rattle.static_types.specs.declared.named.NameRow.{NameRow}
use Rattle.static_types.specs.declared.named.TypeName.{TypeName}
use Rattle.static_types.specs.declared.named.TypeName.TheVariants as T

-- a name in small letters, and what it says
pub record Row (A : Type 0) : Type 0 where
  pub name : List ℕ
  pub says : A

abbrev pub row : {A : Type 0} → List ℕ → A → Row A
row name says = record { name = name; says = says }

abbrev pub shown : {A : Type 0} → NameRow A → Row A
shown r = record { name = r.name.now; says = r.says }

-- the names that stand alone, or behind `System.`
unfoldable pub type_names : List (Row TypeName)
type_names =
    row (codes "boolean") (T.Primitive P.Boolean) ∷
    row (codes "integer") (T.Primitive P.Integer) ∷
    row (codes "long") (T.Primitive P.Long) ∷
    row (codes "decimal") (T.Primitive P.Decimal) ∷
    row (codes "string") (T.Primitive P.String) ∷
    row (codes "id") (T.Primitive P.Id) ∷
    row (codes "date") (T.Primitive P.Date) ∷
    row (codes "datetime") (T.Primitive P.Datetime) ∷
    row (codes "double") T.Double ∷
    row (codes "list") T.List ∷
    row (codes "set") T.Set ∷
    row (codes "map") T.Map ∷
    row (codes "savepoint") T.Savepoint ∷
    row (codes "exception") T.AnyException ∷
    row (codes "mathexception") (T.Exception E.Math) ∷
    row (codes "nullpointerexception") (T.Exception E.NullPointer) ∷
    row (codes "listexception") (T.Exception E.List) ∷
    row (codes "queryexception") (T.Exception E.Query) ∷
    row (codes "sobjectexception") (T.Exception E.SObject) ∷
    row (codes "finalexception") (T.Exception E.Final) ∷
    row (codes "stringexception") (T.Exception E.String) ∷
    row (codes "typeexception") (T.Exception E.Type) ∷
    row (codes "dmlexception") (T.Exception E.Dml) ∷
    row (codes "limitexception") (T.Exception E.Limit) ∷
    row (codes "assertexception") (T.Exception E.Assert) ∷ []

-- the names that stand behind `Database.`
unfoldable pub platform_names : List (Row PlatformType)
platform_names =
    row (codes "saveresult") K.SaveResult ∷
    row (codes "deleteresult") K.DeleteResult ∷
    row (codes "upsertresult") K.UpsertResult ∷
    row (codes "error") K.Error ∷ []

-- what the row with this name says
abbrev pub said : {A : Type 0} → List (Row A) → List ℕ → Option A
said [] name = None
said (r ∷ rs) name = cond (bytes_eq r.name name) (Some r.says) (said rs name)
