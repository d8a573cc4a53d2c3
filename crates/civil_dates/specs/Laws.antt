-- Laws of dates and moments, their texts and the methods of Date and Datetime, which show that the definitions of `Dates`
-- and `Texts` are the intended ones (docs/formats.md, "Dates and moments"; docs/language.md, "Methods of dates").
use Rattle.std.specs.Prelude.{◌≡◌, ℕ, ◌+◌, ◌*◌, ◌/◌, ◌%◌, ◌≤◌, ◌<◌, ◌↔◌, min, true, List, [], ◌∷◌, ◌++◌, length, ℤ, pos, ◌+ℤ◌, ◌-ℤ◌, ◌*ℤ◌, MatchOption, Some}
use Rattle.std.specs.Str.Parse.{AllDigits, digits_value}
use Rattle.jiff_core.specs.Calendar.{days_from_civil, days_in_month, is_leap_year}
use Rattle.civil_dates.specs.Dates.{date_at, day_number, is_day, only_day, months_later, is_moment, only_moment, day_part, second_part, new_day, new_moment}
use Rattle.civil_dates.specs.Texts.{date_value, clock, clock_value, moment_value, stamp_value}

-- ---- dates

-- a date of the years 1 to 9999
abbrev pub IsCivil : ℕ → ℕ → ℕ → Type 0
IsCivil year month day = (1 ≤ year) × (year ≤ 9999) × (1 ≤ month) × (month ≤ 12) × (1 ≤ day) × (day ≤ days_in_month (pos year) month)

-- the date is of the years 1 to 9999, and its day has this number
abbrev pub IsDateOf : ℤ → ℕ → ℕ → ℕ → Type 0
IsDateOf n year month day = IsCivil year month day × (n ≡ days_from_civil (pos year) month day)

-- a day of the years 1 to 9999
abbrev pub IsDay : ℤ → Type 0
IsDay n = (year : ℕ) × (month : ℕ) × (day : ℕ) × IsDateOf n year month day

-- a month of the years 1 to 9999, so many months after another
abbrev pub IsMonthAfter : ℤ → ℕ → ℕ → ℕ → ℕ → Type 0
IsMonthAfter months year month year₂ month₂ = (1 ≤ year₂) × (year₂ ≤ 9999) × (1 ≤ month₂) × (month₂ ≤ 12) × (pos (year₂ * 12 + month₂) ≡ pos (year * 12 + month) +ℤ months)

-- both are days of the years 1 to 9999, and the second's month is so many months after the first's; its day of the
-- month is the same, or the last one where the month is shorter
pub record IsMonthsLater (months n later : ℤ) : Type 0 where
  pub year : ℕ
  pub month : ℕ
  pub day : ℕ
  pub from : IsDateOf n year month day
  pub year₂ : ℕ
  pub month₂ : ℕ
  pub after : IsMonthAfter months year month year₂ month₂
  pub to : IsDateOf later year₂ month₂ (min day (days_in_month (pos year₂) month₂))

-- the moment stands so many seconds behind the beginning of that day, a day of the years 1 to 9999
abbrev pub IsMomentOf : ℤ → ℤ → ℕ → Type 0
IsMomentOf n day second = IsDay day × (second < 86400) × (n ≡ day *ℤ pos 86400 +ℤ pos second)

-- a moment of the years 1 to 9999
abbrev pub IsMoment : ℤ → Type 0
IsMoment n = (day : ℤ) × (second : ℕ) × IsMomentOf n day second

-- `year`, `month` and `day` are those of the day
abbrev pub DateOfDay : Type 0
DateOfDay = (n : ℤ) (y m d : ℕ) → IsDateOf n y m d → date_at n ≡ record { year = y; month = m; day = d }

-- the days that have one are those of the years 1 to 9999
abbrev pub DaysOfYears : Type 0
DaysOfYears = (n : ℤ) → (is_day n ≡ true) ↔ IsDay n

-- `addDays`: so many days are between the two
abbrev pub DaysBetween : Type 0
DaysBetween = (n days later : ℤ) → only_day (n +ℤ days) ≡ Some later → later -ℤ n ≡ days

-- `addMonths` and `addYears`: the month is so many later, and the day of the month the same, or the last one where the month is shorter
abbrev pub MonthsLater : Type 0
MonthsLater = (months n : ℤ) → MatchOption (months_later months n) ((later : ℤ) → IsMonthsLater months n later → ⊥) (IsMonthsLater months n)

-- `isLeapYear` and `daysInMonth`: February has a day more
abbrev pub LeapFebruary : Type 0
LeapFebruary = (year : ℕ) → (is_leap_year (pos year) ≡ true) ↔ (days_in_month (pos year) 2 ≡ 29)

-- a moment stands in its day, and `hour`, `minute` and `second` are those of the second of the day
abbrev pub InItsDay : Type 0
InItsDay = (n : ℤ) → is_moment n ≡ true → IsMomentOf n (day_part n) (second_part n)

abbrev pub ClockOfSecond : Type 0
ClockOfSecond = (n : ℤ) → let s = second_part n in (s ≡ s / 3600 * 3600 + s / 60 % 60 * 60 + s % 60) × (s / 3600 < 24) × (s / 60 % 60 < 60) × (s % 60 < 60)

-- the moments that have parts are those of the years 1 to 9999
abbrev pub MomentsOfYears : Type 0
MomentsOfYears = (n : ℤ) → (is_moment n ≡ true) ↔ IsMoment n

-- `newInstanceGmt`: the moment has the parts that it was made of
abbrev pub MomentOfParts : Type 0
MomentOfParts = (y m d : ℤ) (h mi s : ℕ) (n : ℤ) → new_moment y m d (pos h) (pos mi) (pos s) ≡ Some n →
    (new_day y m d ≡ Some (day_part n)) × (second_part n / 3600 ≡ h) × (second_part n / 60 % 60 ≡ mi) × (second_part n % 60 ≡ s)

-- `addDays`, `addHours`, `addMinutes` and `addSeconds` of a moment: 24 hours are a day, 60 minutes an hour, 60 seconds a minute
abbrev pub HoursOfDays : Type 0
HoursOfDays = (n k : ℤ) →
    (only_moment (n +ℤ k *ℤ pos 24 *ℤ pos 3600) ≡ only_moment (n +ℤ k *ℤ pos 86400)) ×
    (only_moment (n +ℤ k *ℤ pos 60 *ℤ pos 60) ≡ only_moment (n +ℤ k *ℤ pos 3600))

-- ---- texts

-- so many digits
abbrev pub AreDigits : ℕ → List ℕ → Type 0
AreDigits k ds = (length ds ≡ k) × AllDigits 10 ds

-- YYYY-MM-DD is read as its date, and nothing else is read
abbrev pub DateIsRead : Type 0
DateIsRead = (ys ms ds : List ℕ) → AreDigits 4 ys → AreDigits 2 ms → AreDigits 2 ds →
    date_value (ys ++ 45 ∷ (ms ++ 45 ∷ ds)) ≡ day_number (digits_value 10 ys) (digits_value 10 ms) (digits_value 10 ds)

abbrev pub DateHasForm : Type 0
DateHasForm = (text : List ℕ) (n : ℤ) → date_value text ≡ Some n →
    (ys : List ℕ) × (ms : List ℕ) × (ds : List ℕ) × AreDigits 4 ys × AreDigits 2 ms × AreDigits 2 ds × (text ≡ ys ++ 45 ∷ (ms ++ 45 ∷ ds))

-- so is hh:mm:ss
abbrev pub ClockIsRead : Type 0
ClockIsRead = (hs ms ss : List ℕ) → AreDigits 2 hs → AreDigits 2 ms → AreDigits 2 ss →
    clock_value (hs ++ 58 ∷ (ms ++ 58 ∷ ss)) ≡ clock (digits_value 10 hs) (digits_value 10 ms) (digits_value 10 ss)

-- a date, `T`, a time and `Z` are a moment, and nothing else is
abbrev pub MomentIsRead : Type 0
MomentIsRead = (date time : List ℕ) (day : ℤ) (second : ℕ) → date_value date ≡ Some day → clock_value time ≡ Some second →
    moment_value (date ++ 84 ∷ (time ++ 90 ∷ [])) ≡ Some (day *ℤ pos 86400 +ℤ pos second)

abbrev pub MomentHasForm : Type 0
MomentHasForm = (text : List ℕ) (n : ℤ) → moment_value text ≡ Some n →
    (date : List ℕ) × (time : List ℕ) × (day : ℤ) × (second : ℕ) × (text ≡ date ++ 84 ∷ (time ++ 90 ∷ [])) × (date_value date ≡ Some day) × (clock_value time ≡ Some second)

-- `Datetime.valueOfGmt`: a blank stands for the `T`, and there is no `Z`
abbrev pub StampIsMoment : Type 0
StampIsMoment = (date time : List ℕ) → length date ≡ 10 → length time ≡ 8 → stamp_value (date ++ 32 ∷ time) ≡ moment_value (date ++ 84 ∷ (time ++ 90 ∷ []))
