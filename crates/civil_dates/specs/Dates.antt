-- Days, dates and moments of the years 1 to 9999 by their numbers from 1970-01-01, in UTC (docs/formats.md, "Dates and
-- moments"), and what the methods of Date and Datetime answer (docs/language.md, "Methods of dates").
use Rattle.std.specs.Prelude.{ℕ, zero, suc, ◌+◌, ◌-◌, ◌*◌, ◌/◌, ◌%◌, min, ◌&&◌, nat_lt, nat_le, cond, Bool, false, ℤ, pos, negsuc, ◌+ℤ◌, ◌-ℤ◌, ◌*ℤ◌, unsigned_abs, Option, None, Some}
use Rattle.std.specs.Int.{int_div_euclid, int_rem_euclid}
use Rattle.std.specs.Ordering.{int_eq}
use Rattle.jiff_core.specs.Calendar.{days_from_civil, days_in_month, days_in_year, is_leap_year}

-- ---- dates

-- a date of the years 1 to 9999
abbrev pub is_civil : ℕ → ℕ → ℕ → Bool
is_civil year month day =
    nat_le 1 year && (nat_le year 9999 && (nat_le 1 month && (nat_le month 12 && (nat_le 1 day && nat_le day (days_in_month (pos year) month)))))

-- the number of its day
abbrev pub day_number : ℕ → ℕ → ℕ → Option ℤ
day_number y m d = cond (is_civil y m d) (Some (days_from_civil (pos y) m d)) None

-- a year, a month and a day
pub record Date : Type 0 where
  pub year : ℕ
  pub month : ℕ
  pub day : ℕ

-- the month in which the n-th day behind the first of month m lies, with the day there; among the next k months
abbrev pub month_from : ℕ → ℕ → ℕ → ℕ → Date
month_from zero y m n = record { year = y; month = m; day = n + 1 }
month_from (suc k) y m n = cond (nat_lt n (days_in_month (pos y) m)) (record { year = y; month = m; day = n + 1 }) (month_from k y (m + 1) (n - days_in_month (pos y) m))

-- the date of the n-th day behind 1 January of the year y, among the next k years
abbrev pub date_from : ℕ → ℕ → ℕ → Date
date_from zero y n = month_from 11 y 1 n
date_from (suc k) y n = cond (nat_lt n (days_in_year (pos y))) (month_from 11 y 1 n) (date_from k (y + 1) (n - days_in_year (pos y)))

-- the date of a day number: the days from 1 January of the year 1 on are counted
unfoldable pub date_at : ℤ → Date
date_at n = date_from 9998 1 (unsigned_abs (n -ℤ days_from_civil (pos 1) 1 1))

abbrev pub number_of : Date → ℤ
number_of d = days_from_civil (pos d.year) d.month d.day

-- a day of the years 1 to 9999
unfoldable pub is_day : ℤ → Bool
is_day n = is_civil (date_at n).year (date_at n).month (date_at n).day && int_eq n (number_of (date_at n))

abbrev pub only_day : ℤ → Option ℤ
only_day n = cond (is_day n) (Some n) None

-- ---- methods of dates

-- `Date.newInstance`
abbrev pub new_day : ℤ → ℤ → ℤ → Option ℤ
new_day (pos y) (pos m) (pos d) = day_number y m d
new_day _ _ _ = None

-- the first day of its month
abbrev pub start_of_month : ℤ → Option ℤ
start_of_month n = cond (is_day n) (day_number (date_at n).year (date_at n).month 1) None

-- the day of a month, or the last one where the month is shorter
abbrev pub cut_to : ℕ → ℕ → ℕ → ℤ
cut_to y m d = days_from_civil (pos y) m (min d (days_in_month (pos y) m))

-- the day in the month number t, where month 0 is January of the year 0; none outside the years 1 to 9999
abbrev pub in_month : ℤ → ℕ → Option ℤ
in_month (pos t) d = cond (nat_le 12 t && nat_lt t 120000) (Some (cut_to (t / 12) (t % 12 + 1) d)) None
in_month (negsuc t) d = None

-- `addMonths`
abbrev pub months_later : ℤ → ℤ → Option ℤ
months_later months n = cond (is_day n) (in_month (pos ((date_at n).year * 12 + (date_at n).month) -ℤ pos 1 +ℤ months) (date_at n).day) None

-- ---- moments

abbrev pub day_part : ℤ → ℤ
day_part n = int_div_euclid n (pos 86400)

abbrev pub second_part : ℤ → ℕ
second_part n = unsigned_abs (int_rem_euclid n (pos 86400))

abbrev pub is_moment : ℤ → Bool
is_moment n = is_day (day_part n)

abbrev pub only_moment : ℤ → Option ℤ
only_moment n = cond (is_moment n) (Some n) None

-- `Date.daysInMonth`
abbrev pub days_in : ℤ → ℤ → Option ℤ
days_in (pos y) (pos m) = cond (is_civil y m 1) (Some (pos (days_in_month (pos y) m))) None
days_in _ _ = None

abbrev pub truth_of : Bool → Option Bool
truth_of b = Some b

-- `Date.isLeapYear`
abbrev pub leap : ℤ → Option Bool
leap (pos y) = cond (is_civil y 1 1) (Some (is_leap_year (pos y))) None
leap (negsuc y) = None

-- a time of the day
abbrev pub is_clock : ℤ → ℤ → ℤ → Bool
is_clock (pos h) (pos m) (pos s) = nat_lt h 24 && (nat_lt m 60 && nat_lt s 60)
is_clock _ _ _ = false

abbrev pub clock_seconds : ℤ → ℤ → ℤ → ℤ
clock_seconds h m s = h *ℤ pos 3600 +ℤ m *ℤ pos 60 +ℤ s

abbrev pub on_day : Option ℤ → ℤ → Option ℤ
on_day (Some day) seconds = Some (day *ℤ pos 86400 +ℤ seconds)
on_day None seconds = None

-- `Datetime.newInstanceGmt`
abbrev pub new_moment : ℤ → ℤ → ℤ → ℤ → ℤ → ℤ → Option ℤ
new_moment y m d h mi s = cond (is_clock h mi s) (on_day (new_day y m d) (clock_seconds h mi s)) None
