-- What the arguments of built-in methods have to fit (docs/language.md, "Built-in methods").
use Rattle.std.specs.Prelude.{List, [], ◌∷◌, replicate}
use Rattle.builtin_table.specs.declared.method.Builtin.{Builtin}
use Rattle.builtin_table.specs.declared.method.Builtin.TheVariants as B
use Rattle.builtin_table.specs.declared.method.DateMethod.{DateMethod}
use Rattle.builtin_table.specs.declared.method.DateMethod.TheVariants as Y
use Rattle.builtin_table.specs.declared.method.ListMethod.{ListMethod}
use Rattle.builtin_table.specs.declared.method.ListMethod.TheVariants as L
use Rattle.builtin_table.specs.declared.method.MapMethod.{MapMethod}
use Rattle.builtin_table.specs.declared.method.MapMethod.TheVariants as P
use Rattle.builtin_table.specs.declared.method.MathMethod.{MathMethod}
use Rattle.builtin_table.specs.declared.method.MathMethod.TheVariants as M
use Rattle.builtin_table.specs.declared.method.MomentMethod.{MomentMethod}
use Rattle.builtin_table.specs.declared.method.MomentMethod.TheVariants as C
use Rattle.builtin_table.specs.declared.method.PlatformMethod.{PlatformMethod}
use Rattle.builtin_table.specs.declared.method.PlatformMethod.TheVariants as O
use Rattle.builtin_table.specs.declared.method.SetMethod.{SetMethod}
use Rattle.builtin_table.specs.declared.method.SetMethod.TheVariants as S
use Rattle.static_types.specs.declared.kind.Primitive.TheVariants.{Boolean, Integer, String, Date}
use Rattle.builtin_signatures.specs.declared.due.Due.{Due}
use Rattle.builtin_signatures.specs.declared.due.Due.TheVariants.{Is, Plain, Number, Whole, Item, Key, Value, Same, Items, Texts, Records, Savepoint}
use Rattle.builtin_signatures.specs.declared.due.Dues.{Dues}
use Rattle.builtin_signatures.specs.declared.due.Dues.TheVariants as D

-- each argument, in their order
abbrev pub each : Dues → List Due
each D.None = []
each (D.One due) = due ∷ []
each (D.Two one other) = one ∷ other ∷ []
each (D.Integers count) = replicate count (Is Integer)

-- numbers become the widest of them; only whole ones have a rest
abbrev pub math_dues : MathMethod → Dues
math_dues M.Max = D.Two Number Number
math_dues M.Min = D.Two Number Number
math_dues M.Mod = D.Two Whole Whole
math_dues _ = D.One Number

abbrev pub date_dues : DateMethod → Dues
date_dues Y.AddDays = D.One (Is Integer)
date_dues Y.AddMonths = D.One (Is Integer)
date_dues Y.AddYears = D.One (Is Integer)
date_dues Y.DaysBetween = D.One (Is Date)
date_dues _ = D.None

abbrev pub moment_dues : MomentMethod → Dues
moment_dues C.AddDays = D.One (Is Integer)
moment_dues C.AddHours = D.One (Is Integer)
moment_dues C.AddMinutes = D.One (Is Integer)
moment_dues C.AddSeconds = D.One (Is Integer)
moment_dues _ = D.None

abbrev pub list_dues : ListMethod → Dues
list_dues L.Add = D.One Item
list_dues L.Insert = D.Two (Is Integer) Item
list_dues L.AddAll = D.One Same
list_dues L.Get = D.One (Is Integer)
list_dues L.Set = D.Two (Is Integer) Item
list_dues L.Remove = D.One (Is Integer)
list_dues L.Contains = D.One Item
list_dues L.IndexOf = D.One Item
list_dues _ = D.None

-- `addAll` takes a list or a set, the others that take all items of another collection a set
abbrev pub set_dues : SetMethod → Dues
set_dues S.Add = D.One Item
set_dues S.AddAll = D.One Items
set_dues S.Remove = D.One Item
set_dues S.RemoveAll = D.One Same
set_dues S.RetainAll = D.One Same
set_dues S.Contains = D.One Item
set_dues S.ContainsAll = D.One Same
set_dues _ = D.None

abbrev pub map_dues : MapMethod → Dues
map_dues P.Put = D.Two Key Value
map_dues P.Remove = D.One Key
map_dues P.PutAll = D.One Same
map_dues P.Get = D.One Key
map_dues P.ContainsKey = D.One Key
map_dues _ = D.None

abbrev pub platform_dues : PlatformMethod → Dues
platform_dues O.AddError = D.One (Is String)
platform_dues O.Insert = D.One Records
platform_dues O.InsertWith = D.Two Records (Is Boolean)
platform_dues O.Update = D.One Records
platform_dues O.UpdateWith = D.Two Records (Is Boolean)
platform_dues O.Delete = D.One Records
platform_dues O.DeleteWith = D.Two Records (Is Boolean)
platform_dues O.Upsert = D.One Records
platform_dues O.UpsertWith = D.Two Records (Is Boolean)
platform_dues O.Rollback = D.One Savepoint
platform_dues _ = D.None

abbrev pub dues_of : Builtin → Dues
dues_of (B.Text m) = D.None
dues_of (B.Texts m) = D.One (Is String)
dues_of (B.TextAt m) = D.One (Is Integer)
dues_of B.IndexOfFrom = D.Two (Is String) (Is Integer)
dues_of B.SubstringTo = D.Integers 2
dues_of B.Mid = D.Integers 2
dues_of B.Replace = D.Two (Is String) (Is String)
dues_of (B.Nullable m) = D.One (Is String)
dues_of B.TextOf = D.One Plain
dues_of (B.Read m) = D.One (Is String)
dues_of (B.Math m) = math_dues m
dues_of (B.Decimal m) = D.None
dues_of B.SetScale = D.One (Is Integer)
dues_of (B.Date m) = date_dues m
dues_of B.NewDate = D.Integers 3
dues_of B.DaysInMonth = D.Integers 2
dues_of B.IsLeapYear = D.One (Is Integer)
dues_of (B.Moment m) = moment_dues m
dues_of B.NewMoment = D.Integers 6
dues_of B.Join = D.Two Texts (Is String)
dues_of (B.List m) = list_dues m
dues_of (B.Set m) = set_dues m
dues_of (B.Map m) = map_dues m
dues_of (B.Platform m) = platform_dues m
