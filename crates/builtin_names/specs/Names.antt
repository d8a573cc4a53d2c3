-- The methods by their types, names and numbers of arguments (docs/language.md, "Built-in methods").
use Rattle.std.specs.Prelude.{ℕ, ◌++◌, ◌&&◌, eqb, cond, List, [], ◌∷◌, codes, bytes_eq, Option, None, Some}
use Rattle.builtin_table.specs.declared.method.TextMethod.TheVariants as T
use Rattle.builtin_table.specs.declared.method.TextsMethod.TheVariants as TT
use Rattle.builtin_table.specs.declared.method.TextAtMethod.TheVariants as TN
use Rattle.builtin_table.specs.declared.method.NullableMethod.TheVariants as N
use Rattle.builtin_table.specs.declared.method.ReadMethod.TheVariants as R
use Rattle.builtin_table.specs.declared.method.MathMethod.TheVariants as M
use Rattle.builtin_table.specs.declared.method.DecimalMethod.TheVariants as D
use Rattle.builtin_table.specs.declared.method.DateMethod.TheVariants as Y
use Rattle.builtin_table.specs.declared.method.MomentMethod.TheVariants as C
use Rattle.builtin_table.specs.declared.method.ListMethod.TheVariants as L
use Rattle.builtin_table.specs.declared.method.SetMethod.TheVariants as S
use Rattle.builtin_table.specs.declared.method.MapMethod.TheVariants as P
use Rattle.builtin_table.specs.declared.method.PlatformMethod.TheVariants as O
use Rattle.builtin_table.specs.declared.method.Builtin.{Builtin}
use Rattle.builtin_table.specs.declared.method.Builtin.TheVariants as B
use Rattle.builtin_names.specs.declared.table.MethodRow.{MethodRow}

-- a method: its type and its name in small letters, how many arguments it takes, its receiver apart, and which it is
pub record Form : Type 0 where
  pub kind : List ℕ
  pub name : List ℕ
  pub count : ℕ
  pub builtin : Builtin

abbrev pub method : List ℕ → List ℕ → ℕ → Builtin → Form
method kind name count which = record { kind = kind; name = name; count = count; builtin = which }

abbrev pub form : MethodRow → Form
form row = record { kind = row.kind.now; name = row.name.now; count = row.count; builtin = row.builtin }

-- the table
unfoldable pub text_methods : List Form
text_methods =
    method (codes "string") (codes "capitalize") 0 (B.Text T.Capitalize) ∷
    method (codes "string") (codes "compareto") 1 (B.Texts TT.CompareTo) ∷
    method (codes "string") (codes "contains") 1 (B.Texts TT.Contains) ∷
    method (codes "string") (codes "countmatches") 1 (B.Texts TT.CountMatches) ∷
    method (codes "string") (codes "endswith") 1 (B.Texts TT.EndsWith) ∷
    method (codes "string") (codes "equals") 1 (B.Texts TT.Equals) ∷
    method (codes "string") (codes "equalsignorecase") 1 (B.Texts TT.EqualsIgnoreCase) ∷
    method (codes "string") (codes "indexof") 1 (B.Texts TT.IndexOf) ∷
    method (codes "string") (codes "indexof") 2 B.IndexOfFrom ∷
    method (codes "string") (codes "isblank") 1 (B.Nullable N.IsBlank) ∷
    method (codes "string") (codes "isempty") 1 (B.Nullable N.IsEmpty) ∷
    method (codes "string") (codes "isnotblank") 1 (B.Nullable N.IsNotBlank) ∷
    method (codes "string") (codes "isnotempty") 1 (B.Nullable N.IsNotEmpty) ∷
    method (codes "string") (codes "isnumeric") 0 (B.Text T.IsNumeric) ∷
    method (codes "string") (codes "join") 2 B.Join ∷
    method (codes "string") (codes "lastindexof") 1 (B.Texts TT.LastIndexOf) ∷
    method (codes "string") (codes "left") 1 (B.TextAt TN.Left) ∷
    method (codes "string") (codes "leftpad") 1 (B.TextAt TN.LeftPad) ∷
    method (codes "string") (codes "length") 0 (B.Text T.Length) ∷
    method (codes "string") (codes "mid") 2 B.Mid ∷
    method (codes "string") (codes "remove") 1 (B.Texts TT.Remove) ∷
    method (codes "string") (codes "removeend") 1 (B.Texts TT.RemoveEnd) ∷
    method (codes "string") (codes "removestart") 1 (B.Texts TT.RemoveStart) ∷
    method (codes "string") (codes "repeat") 1 (B.TextAt TN.Repeat) ∷
    method (codes "string") (codes "replace") 2 B.Replace ∷
    method (codes "string") (codes "reverse") 0 (B.Text T.Reverse) ∷
    method (codes "string") (codes "right") 1 (B.TextAt TN.Right) ∷
    method (codes "string") (codes "rightpad") 1 (B.TextAt TN.RightPad) ∷
    method (codes "string") (codes "startswith") 1 (B.Texts TT.StartsWith) ∷
    method (codes "string") (codes "substring") 1 (B.TextAt TN.Substring) ∷
    method (codes "string") (codes "substring") 2 B.SubstringTo ∷
    method (codes "string") (codes "substringafter") 1 (B.Texts TT.SubstringAfter) ∷
    method (codes "string") (codes "substringbefore") 1 (B.Texts TT.SubstringBefore) ∷
    method (codes "string") (codes "tolowercase") 0 (B.Text T.ToLowerCase) ∷
    method (codes "string") (codes "touppercase") 0 (B.Text T.ToUpperCase) ∷
    method (codes "string") (codes "trim") 0 (B.Text T.Trim) ∷
    method (codes "string") (codes "uncapitalize") 0 (B.Text T.Uncapitalize) ∷
    method (codes "string") (codes "valueof") 1 B.TextOf ∷ []

unfoldable pub number_methods : List Form
number_methods =
    method (codes "decimal") (codes "abs") 0 (B.Decimal D.Abs) ∷
    method (codes "decimal") (codes "intvalue") 0 (B.Decimal D.IntValue) ∷
    method (codes "decimal") (codes "longvalue") 0 (B.Decimal D.LongValue) ∷
    method (codes "decimal") (codes "round") 0 (B.Decimal D.Round) ∷
    method (codes "decimal") (codes "setscale") 1 B.SetScale ∷
    method (codes "decimal") (codes "toplainstring") 0 (B.Decimal D.ToPlainString) ∷
    method (codes "decimal") (codes "valueof") 1 (B.Read R.Decimal) ∷
    method (codes "id") (codes "valueof") 1 (B.Read R.Id) ∷
    method (codes "integer") (codes "valueof") 1 (B.Read R.Integer) ∷
    method (codes "long") (codes "intvalue") 0 (B.Decimal D.IntValue) ∷
    method (codes "long") (codes "valueof") 1 (B.Read R.Long) ∷
    method (codes "math") (codes "abs") 1 (B.Math M.Abs) ∷
    method (codes "math") (codes "max") 2 (B.Math M.Max) ∷
    method (codes "math") (codes "min") 2 (B.Math M.Min) ∷
    method (codes "math") (codes "mod") 2 (B.Math M.Mod) ∷
    method (codes "math") (codes "signum") 1 (B.Math M.Signum) ∷ []

unfoldable pub date_methods : List Form
date_methods =
    method (codes "date") (codes "adddays") 1 (B.Date Y.AddDays) ∷
    method (codes "date") (codes "addmonths") 1 (B.Date Y.AddMonths) ∷
    method (codes "date") (codes "addyears") 1 (B.Date Y.AddYears) ∷
    method (codes "date") (codes "day") 0 (B.Date Y.Day) ∷
    method (codes "date") (codes "daysbetween") 1 (B.Date Y.DaysBetween) ∷
    method (codes "date") (codes "daysinmonth") 2 B.DaysInMonth ∷
    method (codes "date") (codes "isleapyear") 1 B.IsLeapYear ∷
    method (codes "date") (codes "month") 0 (B.Date Y.Month) ∷
    method (codes "date") (codes "newinstance") 3 B.NewDate ∷
    method (codes "date") (codes "today") 0 (B.Platform O.Today) ∷
    method (codes "date") (codes "tostartofmonth") 0 (B.Date Y.ToStartOfMonth) ∷
    method (codes "date") (codes "valueof") 1 (B.Read R.Date) ∷
    method (codes "date") (codes "year") 0 (B.Date Y.Year) ∷
    method (codes "datetime") (codes "adddays") 1 (B.Moment C.AddDays) ∷
    method (codes "datetime") (codes "addhours") 1 (B.Moment C.AddHours) ∷
    method (codes "datetime") (codes "addminutes") 1 (B.Moment C.AddMinutes) ∷
    method (codes "datetime") (codes "addseconds") 1 (B.Moment C.AddSeconds) ∷
    method (codes "datetime") (codes "dategmt") 0 (B.Moment C.Date) ∷
    method (codes "datetime") (codes "daygmt") 0 (B.Moment C.Day) ∷
    method (codes "datetime") (codes "gettime") 0 (B.Moment C.GetTime) ∷
    method (codes "datetime") (codes "hourgmt") 0 (B.Moment C.Hour) ∷
    method (codes "datetime") (codes "minutegmt") 0 (B.Moment C.Minute) ∷
    method (codes "datetime") (codes "monthgmt") 0 (B.Moment C.Month) ∷
    method (codes "datetime") (codes "newinstancegmt") 6 B.NewMoment ∷
    method (codes "datetime") (codes "now") 0 (B.Platform O.Now) ∷
    method (codes "datetime") (codes "secondgmt") 0 (B.Moment C.Second) ∷
    method (codes "datetime") (codes "valueofgmt") 1 (B.Read R.Moment) ∷
    method (codes "datetime") (codes "yeargmt") 0 (B.Moment C.Year) ∷ []

unfoldable pub collection_methods : List Form
collection_methods =
    method (codes "list") (codes "add") 1 (B.List L.Add) ∷
    method (codes "list") (codes "add") 2 (B.List L.Insert) ∷
    method (codes "list") (codes "addall") 1 (B.List L.AddAll) ∷
    method (codes "list") (codes "clear") 0 (B.List L.Clear) ∷
    method (codes "list") (codes "clone") 0 (B.List L.Clone) ∷
    method (codes "list") (codes "contains") 1 (B.List L.Contains) ∷
    method (codes "list") (codes "get") 1 (B.List L.Get) ∷
    method (codes "list") (codes "indexof") 1 (B.List L.IndexOf) ∷
    method (codes "list") (codes "isempty") 0 (B.List L.IsEmpty) ∷
    method (codes "list") (codes "remove") 1 (B.List L.Remove) ∷
    method (codes "list") (codes "set") 2 (B.List L.Set) ∷
    method (codes "list") (codes "size") 0 (B.List L.Size) ∷
    method (codes "list") (codes "sort") 0 (B.List L.Sort) ∷
    method (codes "map") (codes "clear") 0 (B.Map P.Clear) ∷
    method (codes "map") (codes "clone") 0 (B.Map P.Clone) ∷
    method (codes "map") (codes "containskey") 1 (B.Map P.ContainsKey) ∷
    method (codes "map") (codes "get") 1 (B.Map P.Get) ∷
    method (codes "map") (codes "isempty") 0 (B.Map P.IsEmpty) ∷
    method (codes "map") (codes "keyset") 0 (B.Map P.KeySet) ∷
    method (codes "map") (codes "put") 2 (B.Map P.Put) ∷
    method (codes "map") (codes "putall") 1 (B.Map P.PutAll) ∷
    method (codes "map") (codes "remove") 1 (B.Map P.Remove) ∷
    method (codes "map") (codes "size") 0 (B.Map P.Size) ∷
    method (codes "map") (codes "values") 0 (B.Map P.Values) ∷
    method (codes "set") (codes "add") 1 (B.Set S.Add) ∷
    method (codes "set") (codes "addall") 1 (B.Set S.AddAll) ∷
    method (codes "set") (codes "clear") 0 (B.Set S.Clear) ∷
    method (codes "set") (codes "clone") 0 (B.Set S.Clone) ∷
    method (codes "set") (codes "contains") 1 (B.Set S.Contains) ∷
    method (codes "set") (codes "containsall") 1 (B.Set S.ContainsAll) ∷
    method (codes "set") (codes "isempty") 0 (B.Set S.IsEmpty) ∷
    method (codes "set") (codes "remove") 1 (B.Set S.Remove) ∷
    method (codes "set") (codes "removeall") 1 (B.Set S.RemoveAll) ∷
    method (codes "set") (codes "retainall") 1 (B.Set S.RetainAll) ∷
    method (codes "set") (codes "size") 0 (B.Set S.Size) ∷ []

unfoldable pub platform_methods : List Form
platform_methods =
    method (codes "database") (codes "delete") 1 (B.Platform O.Delete) ∷
    method (codes "database") (codes "delete") 2 (B.Platform O.DeleteWith) ∷
    method (codes "database.deleteresult") (codes "geterrors") 0 (B.Platform O.Errors) ∷
    method (codes "database.deleteresult") (codes "getid") 0 (B.Platform O.ResultId) ∷
    method (codes "database.deleteresult") (codes "issuccess") 0 (B.Platform O.IsSuccess) ∷
    method (codes "database.error") (codes "getmessage") 0 (B.Platform O.ErrorMessage) ∷
    method (codes "database.error") (codes "getstatuscode") 0 (B.Platform O.StatusCode) ∷
    method (codes "database") (codes "insert") 1 (B.Platform O.Insert) ∷
    method (codes "database") (codes "insert") 2 (B.Platform O.InsertWith) ∷
    method (codes "database") (codes "rollback") 1 (B.Platform O.Rollback) ∷
    method (codes "database.saveresult") (codes "geterrors") 0 (B.Platform O.Errors) ∷
    method (codes "database.saveresult") (codes "getid") 0 (B.Platform O.ResultId) ∷
    method (codes "database.saveresult") (codes "issuccess") 0 (B.Platform O.IsSuccess) ∷
    method (codes "database") (codes "setsavepoint") 0 (B.Platform O.SetSavepoint) ∷
    method (codes "database") (codes "update") 1 (B.Platform O.Update) ∷
    method (codes "database") (codes "update") 2 (B.Platform O.UpdateWith) ∷
    method (codes "database") (codes "upsert") 1 (B.Platform O.Upsert) ∷
    method (codes "database") (codes "upsert") 2 (B.Platform O.UpsertWith) ∷
    method (codes "database.upsertresult") (codes "geterrors") 0 (B.Platform O.Errors) ∷
    method (codes "database.upsertresult") (codes "getid") 0 (B.Platform O.ResultId) ∷
    method (codes "database.upsertresult") (codes "issuccess") 0 (B.Platform O.IsSuccess) ∷
    method (codes "exception") (codes "getmessage") 0 (B.Platform O.Message) ∷
    method (codes "exception") (codes "gettypename") 0 (B.Platform O.TypeName) ∷
    method (codes "limits") (codes "getdmlrows") 0 (B.Platform O.DmlRows) ∷
    method (codes "limits") (codes "getdmlstatements") 0 (B.Platform O.DmlStatements) ∷
    method (codes "limits") (codes "getlimitdmlrows") 0 (B.Platform O.LimitDmlRows) ∷
    method (codes "limits") (codes "getlimitdmlstatements") 0 (B.Platform O.LimitDmlStatements) ∷
    method (codes "limits") (codes "getlimitqueries") 0 (B.Platform O.LimitQueries) ∷
    method (codes "limits") (codes "getlimitqueryrows") 0 (B.Platform O.LimitQueryRows) ∷
    method (codes "limits") (codes "getqueries") 0 (B.Platform O.Queries) ∷
    method (codes "limits") (codes "getqueryrows") 0 (B.Platform O.QueryRows) ∷
    method (codes "sobject") (codes "adderror") 1 (B.Platform O.AddError) ∷
    method (codes "userinfo") (codes "getuserid") 0 (B.Platform O.UserId) ∷ []

abbrev pub methods : List Form
methods = text_methods ++ (number_methods ++ (date_methods ++ (collection_methods ++ platform_methods)))

-- the first method with this type, this name and so many arguments
abbrev pub found : List Form → List ℕ → List ℕ → ℕ → Option Builtin
found [] kind name n = None
found (f ∷ fs) kind name n = cond (bytes_eq f.kind kind && (bytes_eq f.name name && eqb f.count n)) (Some f.builtin) (found fs kind name n)

abbrev pub signature_of : List ℕ → List ℕ → ℕ → Option Builtin
signature_of kind name n = found methods kind name n
