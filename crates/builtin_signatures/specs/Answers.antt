-- What built-in methods answer (docs/language.md, "Built-in methods").
use Rattle.builtin_table.specs.declared.method.Builtin.{Builtin}
use Rattle.builtin_table.specs.declared.method.Builtin.TheVariants as B
use Rattle.builtin_table.specs.declared.method.DateMethod.{DateMethod}
use Rattle.builtin_table.specs.declared.method.DateMethod.TheVariants as Y
use Rattle.builtin_table.specs.declared.method.DecimalMethod.{DecimalMethod}
use Rattle.builtin_table.specs.declared.method.DecimalMethod.TheVariants as D
use Rattle.builtin_table.specs.declared.method.ListMethod.{ListMethod}
use Rattle.builtin_table.specs.declared.method.ListMethod.TheVariants as L
use Rattle.builtin_table.specs.declared.method.MapMethod.{MapMethod}
use Rattle.builtin_table.specs.declared.method.MapMethod.TheVariants as P
use Rattle.builtin_table.specs.declared.method.MomentMethod.{MomentMethod}
use Rattle.builtin_table.specs.declared.method.MomentMethod.TheVariants as C
use Rattle.builtin_table.specs.declared.method.PlatformMethod.{PlatformMethod}
use Rattle.builtin_table.specs.declared.method.PlatformMethod.TheVariants as O
use Rattle.builtin_table.specs.declared.method.ReadMethod.{ReadMethod}
use Rattle.builtin_table.specs.declared.method.ReadMethod.TheVariants as R
use Rattle.builtin_table.specs.declared.method.SetMethod.{SetMethod}
use Rattle.builtin_table.specs.declared.method.SetMethod.TheVariants as S
use Rattle.builtin_table.specs.declared.method.TextMethod.{TextMethod}
use Rattle.builtin_table.specs.declared.method.TextMethod.TheVariants as T
use Rattle.builtin_table.specs.declared.method.TextsMethod.{TextsMethod}
use Rattle.builtin_table.specs.declared.method.TextsMethod.TheVariants as TT
use Rattle.static_types.specs.declared.kind.PlatformType.TheVariants.{SaveResult, DeleteResult, UpsertResult}
use Rattle.static_types.specs.declared.kind.Primitive.{Primitive}
use Rattle.static_types.specs.declared.kind.Primitive.TheVariants.{Boolean, Integer, Long, Decimal, String, Id, Date, Datetime}
use Rattle.builtin_signatures.specs.declared.answer.Answer.{Answer}
use Rattle.builtin_signatures.specs.declared.answer.Answer.TheVariants.{Nothing, Is, Widest, Item, Value, Same, Keys, Values, Errors, Results, Savepoint}

abbrev pub text_answer : TextMethod → Answer
text_answer T.Length = Is Integer
text_answer T.IsNumeric = Is Boolean
text_answer _ = Is String

abbrev pub texts_answer : TextsMethod → Answer
texts_answer TT.Contains = Is Boolean
texts_answer TT.StartsWith = Is Boolean
texts_answer TT.EndsWith = Is Boolean
texts_answer TT.IndexOf = Is Integer
texts_answer TT.LastIndexOf = Is Integer
texts_answer TT.Equals = Is Boolean
texts_answer TT.EqualsIgnoreCase = Is Boolean
texts_answer TT.CompareTo = Is Integer
texts_answer TT.CountMatches = Is Integer
texts_answer _ = Is String

abbrev pub read_answer : ReadMethod → Primitive
read_answer R.Integer = Integer
read_answer R.Long = Long
read_answer R.Decimal = Decimal
read_answer R.Date = Date
read_answer R.Moment = Datetime
read_answer R.Id = Id

abbrev pub decimal_answer : DecimalMethod → Primitive
decimal_answer D.IntValue = Integer
decimal_answer D.LongValue = Long
decimal_answer D.Round = Long
decimal_answer D.Abs = Decimal
decimal_answer D.ToPlainString = String

abbrev pub date_answer : DateMethod → Primitive
date_answer Y.Year = Integer
date_answer Y.Month = Integer
date_answer Y.Day = Integer
date_answer Y.DaysBetween = Integer
date_answer _ = Date

abbrev pub moment_answer : MomentMethod → Primitive
moment_answer C.GetTime = Long
moment_answer C.Date = Date
moment_answer C.AddDays = Datetime
moment_answer C.AddHours = Datetime
moment_answer C.AddMinutes = Datetime
moment_answer C.AddSeconds = Datetime
moment_answer _ = Integer

-- what changes a list answers nothing, but for `remove`
abbrev pub list_answer : ListMethod → Answer
list_answer L.Get = Item
list_answer L.Remove = Item
list_answer L.Size = Is Integer
list_answer L.IndexOf = Is Integer
list_answer L.IsEmpty = Is Boolean
list_answer L.Contains = Is Boolean
list_answer L.Clone = Same
list_answer _ = Nothing

-- what changes a set answers whether it did, but for `clear`
abbrev pub set_answer : SetMethod → Answer
set_answer S.Size = Is Integer
set_answer S.Clear = Nothing
set_answer S.Clone = Same
set_answer _ = Is Boolean

abbrev pub map_answer : MapMethod → Answer
map_answer P.Put = Value
map_answer P.Remove = Value
map_answer P.PutAll = Nothing
map_answer P.Get = Value
map_answer P.ContainsKey = Is Boolean
map_answer P.KeySet = Keys
map_answer P.Values = Values
map_answer P.Size = Is Integer
map_answer P.IsEmpty = Is Boolean
map_answer P.Clear = Nothing
map_answer P.Clone = Same

abbrev pub platform_answer : PlatformMethod → Answer
platform_answer O.Today = Is Date
platform_answer O.Now = Is Datetime
platform_answer O.Message = Is String
platform_answer O.TypeName = Is String
platform_answer O.IsSuccess = Is Boolean
platform_answer O.ResultId = Is Id
platform_answer O.Errors = Errors
platform_answer O.ErrorMessage = Is String
platform_answer O.StatusCode = Is String
platform_answer O.AddError = Nothing
platform_answer O.UserId = Is Id
platform_answer O.Insert = Results SaveResult
platform_answer O.InsertWith = Results SaveResult
platform_answer O.Update = Results SaveResult
platform_answer O.UpdateWith = Results SaveResult
platform_answer O.Delete = Results DeleteResult
platform_answer O.DeleteWith = Results DeleteResult
platform_answer O.Upsert = Results UpsertResult
platform_answer O.UpsertWith = Results UpsertResult
platform_answer O.SetSavepoint = Savepoint
platform_answer O.Rollback = Nothing
platform_answer _ = Is Integer

abbrev pub answer_of : Builtin → Answer
answer_of (B.Text m) = text_answer m
answer_of (B.Texts m) = texts_answer m
answer_of (B.TextAt m) = Is String
answer_of B.IndexOfFrom = Is Integer
answer_of B.SubstringTo = Is String
answer_of B.Mid = Is String
answer_of B.Replace = Is String
answer_of (B.Nullable m) = Is Boolean
answer_of B.TextOf = Is String
answer_of (B.Read m) = Is (read_answer m)
answer_of (B.Math m) = Widest
answer_of (B.Decimal m) = Is (decimal_answer m)
answer_of B.SetScale = Is Decimal
answer_of (B.Date m) = Is (date_answer m)
answer_of B.NewDate = Is Date
answer_of B.DaysInMonth = Is Integer
answer_of B.IsLeapYear = Is Boolean
answer_of (B.Moment m) = Is (moment_answer m)
answer_of B.NewMoment = Is Datetime
answer_of B.Join = Is String
answer_of (B.List m) = list_answer m
answer_of (B.Set m) = set_answer m
answer_of (B.Map m) = map_answer m
answer_of (B.Platform m) = platform_answer m
