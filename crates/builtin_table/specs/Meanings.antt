-- What each method answers (docs/language.md, "Built-in methods"). The first of the arguments is the receiver, where there
-- is one.
use Rattle.std.specs.Prelude.{ℕ, zero, ◌/◌, ◌%◌, ◌^◌, not, nat_lt, nat_le, eqb, cond, Bool, true, false, List, [], ◌∷◌, length, take, drop, map, reverse, chars, encode_utf8_all, bytes_eq, ℤ, pos, negsuc, ◌+ℤ◌, ◌-ℤ◌, ◌*ℤ◌, unsigned_abs, int_rem, Option, None, Some, Result, Ok, Err, is_some}
use Rattle.std.specs.List.{list_any}
use Rattle.std.specs.Char.{to_ascii_uppercase, to_ascii_lowercase}
use Rattle.std.specs.Str.{str_eq_ignore_ascii_case}
use Rattle.std.specs.Int.{int_max, int_min, int_wrap, w32}
use Rattle.std.specs.Ordering.{nat_cmp}
use Rattle.std.specs.Cmp.Lexicographic.{slice_cmp}
use Rattle.std.specs.declared.cmp.Ordering.{Ordering}
use Rattle.std.specs.declared.cmp.Ordering.TheVariants.{Less, Equal, Greater}
use Rattle.apex_num.specs.declared.cell.Cell.{Cell}
use Rattle.apex_num.specs.declared.cell.Cell.TheVariants as Cells
use Rattle.apex_num.specs.declared.dec.NumFault.{NumFault}
use Rattle.apex_num.specs.Decimals.{dec_text}
use Rattle.apex_num.specs.Ids.{id_value}
use Rattle.number_methods.specs.Methods.{whole_of}
use Rattle.number_methods.specs.Values.{whole_value, decimal_value, without_l, only_if, integer_fits, long_fits, decimal_fits, half_even, scaled, in_range}
use Rattle.civil_dates.specs.Texts.{date_value, stamp_value}
use Rattle.civil_dates.specs.Dates as dates
use Rattle.text_methods.specs.Texts as texts
use Rattle.builtin_table.specs.Answers.{Answer, Gives, divide_by_zero, out_of_range, null_object, out_of_bounds, invalid_id, invalid_number, invalid_date, invalid_conversion}
use Rattle.builtin_table.specs.Shown.{shown}
use Rattle.builtin_table.specs.declared.method.TextMethod.{TextMethod}
use Rattle.builtin_table.specs.declared.method.TextMethod.TheVariants as T
use Rattle.builtin_table.specs.declared.method.TextsMethod.{TextsMethod}
use Rattle.builtin_table.specs.declared.method.TextsMethod.TheVariants as TT
use Rattle.builtin_table.specs.declared.method.TextAtMethod.{TextAtMethod}
use Rattle.builtin_table.specs.declared.method.TextAtMethod.TheVariants as TN
use Rattle.builtin_table.specs.declared.method.NullableMethod.{NullableMethod}
use Rattle.builtin_table.specs.declared.method.NullableMethod.TheVariants as N
use Rattle.builtin_table.specs.declared.method.ReadMethod.{ReadMethod}
use Rattle.builtin_table.specs.declared.method.ReadMethod.TheVariants as R
use Rattle.builtin_table.specs.declared.method.MathMethod.{MathMethod}
use Rattle.builtin_table.specs.declared.method.MathMethod.TheVariants as M
use Rattle.builtin_table.specs.declared.method.DecimalMethod.{DecimalMethod}
use Rattle.builtin_table.specs.declared.method.DecimalMethod.TheVariants as D
use Rattle.builtin_table.specs.declared.method.DateMethod.{DateMethod}
use Rattle.builtin_table.specs.declared.method.DateMethod.TheVariants as Y
use Rattle.builtin_table.specs.declared.method.MomentMethod.{MomentMethod}
use Rattle.builtin_table.specs.declared.method.MomentMethod.TheVariants as C
use Rattle.builtin_table.specs.declared.method.Builtin.{Builtin}
use Rattle.builtin_table.specs.declared.method.Builtin.TheVariants as B

-- ---- values

abbrev pub truth : Bool → Answer
truth b = Gives (Cells.Bool b)

abbrev pub number : ℤ → Answer
number z = Gives (Cells.Whole z)

abbrev pub count : ℕ → Answer
count n = number (pos n)

-- a text by its bytes, and by its scalars
abbrev pub text : List ℕ → Answer
text bs = Gives (Cells.Text bs)

abbrev pub spelled : List ℕ → Answer
spelled cs = text (encode_utf8_all cs)

-- -1 where there is no place
abbrev pub place : Option ℕ → Answer
place (Some n) = count n
place None = number (negsuc 0)

-- ---- String

abbrev pub text_meaning : TextMethod → List ℕ → Answer
text_meaning T.Length s = count (length (chars s))
text_meaning T.ToLowerCase s = text (map to_ascii_lowercase s)
text_meaning T.ToUpperCase s = text (map to_ascii_uppercase s)
text_meaning T.Capitalize s = spelled (texts.first_by to_ascii_uppercase (chars s))
text_meaning T.Uncapitalize s = spelled (texts.first_by to_ascii_lowercase (chars s))
text_meaning T.Trim s = spelled (texts.trimmed (chars s))
text_meaning T.Reverse s = spelled (reverse (chars s))
text_meaning T.IsNumeric s = truth (texts.is_numeric (chars s))

abbrev pub compared : Ordering → ℤ
compared Less = negsuc 0
compared Equal = pos 0
compared Greater = pos 1

abbrev pub texts_meaning : TextsMethod → List ℕ → List ℕ → Answer
texts_meaning TT.Contains s t = truth (is_some (texts.first_of (chars t) (chars s)))
texts_meaning TT.StartsWith s t = truth (texts.begins (chars t) (chars s))
texts_meaning TT.EndsWith s t = truth (texts.ends (chars t) (chars s))
texts_meaning TT.IndexOf s t = place (texts.first_of (chars t) (chars s))
texts_meaning TT.LastIndexOf s t = place (texts.last_of (chars t) (chars s))
texts_meaning TT.Equals s t = truth (bytes_eq s t)
texts_meaning TT.EqualsIgnoreCase s t = truth (str_eq_ignore_ascii_case s t)
texts_meaning TT.CompareTo s t = number (compared (slice_cmp nat_cmp s t))
texts_meaning TT.Remove s t = spelled (texts.replace (chars t) [] (chars s))
texts_meaning TT.RemoveStart s t = spelled (texts.without_start (chars t) (chars s))
texts_meaning TT.RemoveEnd s t = spelled (texts.without_end (chars t) (chars s))
texts_meaning TT.CountMatches s t = count (texts.matches (chars t) (chars s))
texts_meaning TT.SubstringBefore s t = spelled (texts.before (chars t) (chars s))
texts_meaning TT.SubstringAfter s t = spelled (texts.after (chars t) (chars s))

abbrev pub part : Option (List ℕ) → Answer
part (Some cs) = spelled cs
part None = out_of_bounds

abbrev pub text_at_meaning : TextAtMethod → List ℕ → ℤ → Answer
text_at_meaning TN.Substring s n = part (texts.part n (pos (length (chars s))) (chars s))
text_at_meaning TN.Left s n = spelled (texts.left n (chars s))
text_at_meaning TN.Right s n = spelled (texts.right n (chars s))
text_at_meaning TN.Repeat s n = text (texts.repeated n s)
text_at_meaning TN.LeftPad s n = text (texts.left_pad n s)
text_at_meaning TN.RightPad s n = text (texts.right_pad n s)

-- null is blank and empty
abbrev pub blank : Cell → Bool
blank (Cells.Text s) = texts.is_blank (chars s)
blank _ = true

abbrev pub empty : Cell → Bool
empty (Cells.Text s) = eqb (length s) 0
empty _ = true

abbrev pub nullable_meaning : NullableMethod → Cell → Answer
nullable_meaning N.IsBlank c = truth (blank c)
nullable_meaning N.IsNotBlank c = truth (not (blank c))
nullable_meaning N.IsEmpty c = truth (empty c)
nullable_meaning N.IsNotEmpty c = truth (not (empty c))

-- ---- reading

abbrev pub whole_or : Option ℤ → Answer → Answer
whole_or (Some z) else' = number z
whole_or None else' = else'

abbrev pub decimal_or : Option ℤ → Answer → Answer
decimal_or (Some c) else' = Gives (Cells.Num c)
decimal_or None else' = else'

abbrev pub day_or : Option ℤ → Answer
day_or (Some n) = Gives (Cells.Day n)
day_or None = invalid_date

abbrev pub moment_or : Option ℤ → Answer
moment_or (Some n) = Gives (Cells.Moment n)
moment_or None = invalid_date

abbrev pub id_or : Option (List ℕ) → Answer → Answer
id_or (Some id) else' = Gives (Cells.Id id)
id_or None else' = else'

abbrev pub read_meaning : ReadMethod → List ℕ → Answer
read_meaning R.Integer s = whole_or (only_if integer_fits (whole_value s)) (invalid_number s)
read_meaning R.Long s = whole_or (only_if long_fits (whole_value (without_l s))) (invalid_number s)
read_meaning R.Decimal s = decimal_or (only_if decimal_fits (decimal_value s)) (invalid_number s)
read_meaning R.Date s = day_or (date_value s)
read_meaning R.Moment s = moment_or (stamp_value s)
read_meaning R.Id s = id_or (id_value s) (invalid_id s)

-- ---- numbers

-- the size, where that many bits hold it
abbrev pub size_within : ℕ → ℤ → ℤ
size_within bits n = cond (nat_lt (unsigned_abs n) (2 ^ bits)) (pos (unsigned_abs n)) n

-- -1, 0 or 1
abbrev pub sign_of : ℤ → ℤ
sign_of (pos n) = cond (eqb n 0) (pos 0) (pos 1)
sign_of (negsuc n) = negsuc 0

abbrev pub whole_math : MathMethod → ℤ → Answer
whole_math M.Abs n = number (size_within 63 n)
whole_math M.AbsInteger n = number (size_within 31 n)
whole_math M.Signum n = number (sign_of n)
whole_math _ n = invalid_conversion

abbrev pub decimal_math : MathMethod → ℤ → Answer
decimal_math M.Abs c = Gives (Cells.Num (pos (unsigned_abs c)))
decimal_math M.Signum c = Gives (Cells.Num (sign_of c *ℤ pos 1000000))
decimal_math _ c = invalid_conversion

abbrev pub wholes_math : MathMethod → ℤ → ℤ → Answer
wholes_math M.Max x y = number (int_max x y)
wholes_math M.Min x y = number (int_min x y)
wholes_math M.Mod x (pos zero) = divide_by_zero
wholes_math M.Mod x y = number (int_rem x y)
wholes_math _ x y = invalid_conversion

abbrev pub decimals_math : MathMethod → ℤ → ℤ → Answer
decimals_math M.Max x y = Gives (Cells.Num (int_max x y))
decimals_math M.Min x y = Gives (Cells.Num (int_min x y))
decimals_math _ x y = invalid_conversion

-- one or two numbers of one type
pub data Numbers : Type 0 where
  whole : ℤ → Numbers
  decimal : ℤ → Numbers
  wholes : ℤ → ℤ → Numbers
  decimals : ℤ → ℤ → Numbers
  neither : Numbers

abbrev pub numbers : List Cell → Numbers
numbers (Cells.Whole x ∷ []) = whole x
numbers (Cells.Num x ∷ []) = decimal x
numbers (Cells.Whole x ∷ (Cells.Whole y ∷ [])) = wholes x y
numbers (Cells.Num x ∷ (Cells.Num y ∷ [])) = decimals x y
numbers _ = neither

abbrev pub math_by : MathMethod → Numbers → Answer
math_by m (whole x) = whole_math m x
math_by m (decimal x) = decimal_math m x
math_by m (wholes x y) = wholes_math m x y
math_by m (decimals x y) = decimals_math m x y
math_by m neither = invalid_conversion

abbrev pub math_meaning : MathMethod → List Cell → Answer
math_meaning m args = math_by m (numbers args)

abbrev pub decimal_meaning : DecimalMethod → ℤ → Answer
decimal_meaning D.IntValue c = whole_or (only_if integer_fits (Some (whole_of c))) out_of_range
decimal_meaning D.LongValue c = number (whole_of c)
decimal_meaning D.Round c = number (half_even c 1000000)
decimal_meaning D.Abs c = Gives (Cells.Num (pos (unsigned_abs c)))
decimal_meaning D.ToPlainString c = text (dec_text c)

abbrev pub scaled_or : Result ℤ NumFault → Answer
scaled_or (Ok c) = Gives (Cells.Num c)
scaled_or (Err fault) = out_of_range

-- so many digits behind the dot, from 0 to 6
abbrev pub places : ℤ → Option ℕ
places (pos n) = cond (nat_le n 6) (Some n) None
places (negsuc n) = None

abbrev pub scale_by : ℤ → Option ℕ → Answer
scale_by c (Some n) = scaled_or (in_range (scaled c n))
scale_by c None = out_of_range

abbrev pub set_scale_meaning : ℤ → ℤ → Answer
set_scale_meaning c n = scale_by c (places n)

-- ---- Date and Datetime

abbrev pub of_date : ℤ → (dates.Date → ℕ) → Answer
of_date n f = cond (dates.is_day n) (count (f (dates.date_at n))) invalid_date

abbrev pub date_meaning : DateMethod → ℤ → Answer
date_meaning Y.Year n = of_date n (λ (d : dates.Date). d.year)
date_meaning Y.Month n = of_date n (λ (d : dates.Date). d.month)
date_meaning Y.Day n = of_date n (λ (d : dates.Date). d.day)
date_meaning Y.ToStartOfMonth n = day_or (dates.start_of_month n)
date_meaning _ n = invalid_conversion

abbrev pub date_later_meaning : DateMethod → ℤ → ℤ → Answer
date_later_meaning Y.AddDays n k = day_or (dates.only_day (n +ℤ k))
date_later_meaning Y.AddMonths n k = day_or (dates.months_later k n)
date_later_meaning Y.AddYears n k = day_or (dates.months_later (k *ℤ pos 12) n)
date_later_meaning _ n k = invalid_conversion

abbrev pub dates_meaning : DateMethod → ℤ → ℤ → Answer
dates_meaning Y.DaysBetween a b = number (b -ℤ a)
dates_meaning _ a b = invalid_conversion

-- what a moment has of its day and of its second
abbrev pub moment_part : MomentMethod → ℤ → ℤ → ℕ → Answer
moment_part C.GetTime n day second = number (n *ℤ pos 1000)
moment_part C.Date n day second = Gives (Cells.Day day)
moment_part C.Year n day second = of_date day (λ (d : dates.Date). d.year)
moment_part C.Month n day second = of_date day (λ (d : dates.Date). d.month)
moment_part C.Day n day second = of_date day (λ (d : dates.Date). d.day)
moment_part C.Hour n day second = count (second / 3600)
moment_part C.Minute n day second = count (second / 60 % 60)
moment_part C.Second n day second = count (second % 60)
moment_part _ n day second = invalid_conversion

abbrev pub moment_meaning : MomentMethod → ℤ → Answer
moment_meaning m n = cond (dates.is_moment n) (moment_part m n (dates.day_part n) (dates.second_part n)) invalid_date

abbrev pub moment_later_meaning : MomentMethod → ℤ → ℤ → Answer
moment_later_meaning C.AddDays n k = moment_or (dates.only_moment (n +ℤ k *ℤ pos 86400))
moment_later_meaning C.AddHours n k = moment_or (dates.only_moment (n +ℤ k *ℤ pos 3600))
moment_later_meaning C.AddMinutes n k = moment_or (dates.only_moment (n +ℤ k *ℤ pos 60))
moment_later_meaning C.AddSeconds n k = moment_or (dates.only_moment (n +ℤ k))
moment_later_meaning _ n k = invalid_conversion

abbrev pub leap_or : Option Bool → Answer
leap_or (Some b) = truth b
leap_or None = invalid_date

-- ---- by the arguments

-- what a method answers where its arguments are of its types
abbrev pub on : {A : Type 0} → (A → Answer) → Option A → Answer
on f (Some a) = f a
on f None = invalid_conversion

abbrev pub one_text : List Cell → Option (List ℕ)
one_text (Cells.Text s ∷ []) = Some s
one_text _ = None

abbrev pub two_texts : List Cell → Option (List ℕ × List ℕ)
two_texts (Cells.Text s ∷ (Cells.Text t ∷ [])) = Some (s, t)
two_texts _ = None

abbrev pub three_texts : List Cell → Option (List ℕ × List ℕ × List ℕ)
three_texts (Cells.Text s ∷ (Cells.Text t ∷ (Cells.Text u ∷ []))) = Some (s, t, u)
three_texts _ = None

abbrev pub text_and_whole : List Cell → Option (List ℕ × ℤ)
text_and_whole (Cells.Text s ∷ (Cells.Whole n ∷ [])) = Some (s, n)
text_and_whole _ = None

abbrev pub text_and_wholes : List Cell → Option (List ℕ × ℤ × ℤ)
text_and_wholes (Cells.Text s ∷ (Cells.Whole n ∷ (Cells.Whole m ∷ []))) = Some (s, n, m)
text_and_wholes _ = None

abbrev pub texts_and_whole : List Cell → Option (List ℕ × List ℕ × ℤ)
texts_and_whole (Cells.Text s ∷ (Cells.Text t ∷ (Cells.Whole n ∷ []))) = Some (s, t, n)
texts_and_whole _ = None

abbrev pub decimal_and_whole : List Cell → Option (ℤ × ℤ)
decimal_and_whole (Cells.Num c ∷ (Cells.Whole n ∷ [])) = Some (c, n)
decimal_and_whole _ = None

abbrev pub one_whole : List Cell → Option ℤ
one_whole (Cells.Whole n ∷ []) = Some n
one_whole _ = None

abbrev pub two_wholes : List Cell → Option (ℤ × ℤ)
two_wholes (Cells.Whole a ∷ (Cells.Whole b ∷ [])) = Some (a, b)
two_wholes _ = None

abbrev pub three_wholes : List Cell → Option (ℤ × ℤ × ℤ)
three_wholes (Cells.Whole a ∷ (Cells.Whole b ∷ (Cells.Whole c ∷ []))) = Some (a, b, c)
three_wholes _ = None

-- `intValue` of a Long: what 32 bits hold of it
abbrev pub long_meaning : DecimalMethod → ℤ → Answer
long_meaning D.IntValue n = number (int_wrap w32 n)
long_meaning _ n = invalid_conversion

abbrev pub number_by : DecimalMethod → Numbers → Answer
number_by m (decimal c) = decimal_meaning m c
number_by m (whole n) = long_meaning m n
number_by m _ = invalid_conversion

-- a Date, with nothing, a number or another
pub data Dates : Type 0 where
  date : ℤ → Dates
  date_and : ℤ → ℤ → Dates
  two_dates : ℤ → ℤ → Dates
  no_date : Dates

abbrev pub dated : List Cell → Dates
dated (Cells.Day n ∷ []) = date n
dated (Cells.Day n ∷ (Cells.Whole k ∷ [])) = date_and n k
dated (Cells.Day a ∷ (Cells.Day b ∷ [])) = two_dates a b
dated _ = no_date

abbrev pub date_by : DateMethod → Dates → Answer
date_by m (date n) = date_meaning m n
date_by m (date_and n k) = date_later_meaning m n k
date_by m (two_dates a b) = dates_meaning m a b
date_by m no_date = invalid_conversion

-- a Datetime, with nothing or a number
pub data Moments : Type 0 where
  moment : ℤ → Moments
  moment_and : ℤ → ℤ → Moments
  no_moment : Moments

abbrev pub timed : List Cell → Moments
timed (Cells.Moment n ∷ []) = moment n
timed (Cells.Moment n ∷ (Cells.Whole k ∷ [])) = moment_and n k
timed _ = no_moment

abbrev pub moment_by : MomentMethod → Moments → Answer
moment_by m (moment n) = moment_meaning m n
moment_by m (moment_and n k) = moment_later_meaning m n k
moment_by m no_moment = invalid_conversion

-- a date and a time
abbrev pub new_moment_meaning : Option (ℤ × ℤ × ℤ) → Option (ℤ × ℤ × ℤ) → Answer
new_moment_meaning (Some d) (Some t) = moment_or (dates.new_moment d.0 d.1 d.2 t.0 t.1 t.2)
new_moment_meaning _ _ = invalid_conversion

-- where none is null
abbrev pub plain : Builtin → List Cell → Answer
plain (B.Text m) args = on (text_meaning m) (one_text args)
plain (B.Texts m) args = on (λ (p : List ℕ × List ℕ). texts_meaning m p.0 p.1) (two_texts args)
plain (B.TextAt m) args = on (λ (p : List ℕ × ℤ). text_at_meaning m p.0 p.1) (text_and_whole args)
plain B.IndexOfFrom args = on (λ (p : List ℕ × List ℕ × ℤ). place (texts.first_from (texts.place p.2) (chars p.1) (chars p.0))) (texts_and_whole args)
plain B.SubstringTo args = on (λ (p : List ℕ × ℤ × ℤ). part (texts.part p.1 p.2 (chars p.0))) (text_and_wholes args)
plain B.Mid args = on (λ (p : List ℕ × ℤ × ℤ). spelled (texts.mid p.1 p.2 (chars p.0))) (text_and_wholes args)
plain B.Replace args = on (λ (p : List ℕ × List ℕ × List ℕ). spelled (texts.replace (chars p.1) (chars p.2) (chars p.0))) (three_texts args)
plain (B.Read m) args = on (read_meaning m) (one_text args)
plain (B.Math m) args = math_meaning m args
plain (B.Decimal m) args = number_by m (numbers args)
plain B.SetScale args = on (λ (p : ℤ × ℤ). set_scale_meaning p.0 p.1) (decimal_and_whole args)
plain (B.Date m) args = date_by m (dated args)
plain B.NewDate args = on (λ (p : ℤ × ℤ × ℤ). day_or (dates.new_day p.0 p.1 p.2)) (three_wholes args)
plain B.DaysInMonth args = on (λ (p : ℤ × ℤ). whole_or (dates.days_in p.0 p.1) invalid_date) (two_wholes args)
plain B.IsLeapYear args = on (λ y. leap_or (dates.leap y)) (one_whole args)
plain (B.Moment m) args = moment_by m (timed args)
plain B.NewMoment args = new_moment_meaning (three_wholes (take 3 args)) (three_wholes (drop 3 args))
plain _ args = invalid_conversion

abbrev pub is_null : Cell → Bool
is_null Cells.Null = true
is_null _ = false

abbrev pub on_one : (Cell → Answer) → List Cell → Answer
on_one f (c ∷ []) = f c
on_one f _ = invalid_conversion

-- a null receiver or argument throws, except where a method is for nulls too
abbrev pub meaning : Builtin → List Cell → Answer
meaning (B.Nullable m) args = on_one (nullable_meaning m) args
meaning B.TextOf args = on_one (λ c. text (shown c)) args
meaning which args = cond (list_any is_null args) null_object (plain which args)
