-- The laws of the methods of Date and Datetime.
use Rattle.std.proofs.Common.{arith, ◌↔◌, ◌≡◌, ◌+◌, ◌*◌, ◌/◌, ◌%◌, ℕ, Bool, true, false, cond, ◌&&◌, leb, ltb, ltb-true, leb-true, ℤ, pos, negsuc, ◌+ℤ◌, ◌-ℤ◌, ◌*ℤ◌, Option, None, Some, MatchOption, refl, sym, ap, ◌∙◌, subst, nat_lt}
use Rattle.std.proofs.lemmas.Bool.{and_parts}
use Rattle.jiff_core.proofs.SignedLemmas.{signed_arith}
use Rattle.jiff_core.specs.Calendar.{days_in_month, is_leap_year}
use Rattle.civil_dates.specs.Dates.{date_at, is_day, in_month, months_later, only_moment, day_part, second_part, cut_to, is_clock, clock_seconds, on_day, new_day}
use Rattle.civil_dates.specs.Laws.{IsMonthsLater, DateOfDay, DaysOfYears, DaysBetween, MonthsLater, LeapFebruary, InItsDay, ClockOfSecond, MomentsOfYears, MomentOfParts, HoursOfDays}
use Rattle.civil_dates.proofs.Search.{date_at_is}
use Rattle.civil_dates.proofs.DaySteps.{day_decide, day_is, moment_so, moment_is, parts, part_is, months_given, months_at, no_months, month_there}

pub date_of_day : DateOfDay
date_of_day = date_at_is

pub days_of_years : DaysOfYears
days_of_years n = day_decide n

between_by : (b : Bool) (x later n days : ℤ) → x ≡ n +ℤ days → cond b (Some x) None ≡ Some later → later -ℤ n ≡ days
between_by true x later n days is e = let same : x ≡ later = cc in omega (arith, signed_arith)
between_by false x later n days is e = absurd (cc)

pub days_between : DaysBetween
days_between n days later e = between_by (is_day (n +ℤ days)) (n +ℤ days) later n days refl e

-- ---- months

placed_by : (months n l : ℤ) (k : ℕ) (low high : Bool) → leb 12 k ≡ low → ltb k 120000 ≡ high → is_day n ≡ true → pos ((date_at n).year * 12 + (date_at n).month) -ℤ pos 1 +ℤ months ≡ pos k
    → cond (low && high) (Some (cut_to (k / 12) (k % 12 + 1) (date_at n).day)) None ≡ Some l → IsMonthsLater months n l
placed_by months n l k true true low high e is at =
    let same : cut_to (k / 12) (k % 12 + 1) (date_at n).day ≡ l = cc in
    subst (IsMonthsLater months n) same (month_there months n k e is (leb-true 12 k low) (ltb-true k 120000 high))
placed_by months n l k false high low h e is at = absurd (cc)
placed_by months n l k true false low high e is at = absurd (cc)

placed : (months n l t : ℤ) → is_day n ≡ true → pos ((date_at n).year * 12 + (date_at n).month) -ℤ pos 1 +ℤ months ≡ t → in_month t (date_at n).day ≡ Some l → IsMonthsLater months n l
placed months n l (pos k) e is at = placed_by months n l k (leb 12 k) (ltb k 120000) refl refl e is at
placed months n l (negsuc k) e is at = absurd (cc)

later_by : (months n l : ℤ) (b : Bool) → is_day n ≡ b → months_later months n ≡ Some l → IsMonthsLater months n l
later_by months n l true e at =
    let date = date_at n in
    placed months n l (pos (date.year * 12 + date.month) -ℤ pos 1 +ℤ months) e refl (sym (months_at months n date.year date.month date.day (day_is n e)) ∙ at)
later_by months n l false e at =
    let none : months_later months n ≡ None = no_months months n (λ d. let t = (day_decide n).1 d in absurd (cc)) in absurd (cc)

months_by : (months n : ℤ) (r : Option ℤ) → months_later months n ≡ r → MatchOption r ((later : ℤ) → IsMonthsLater months n later → ⊥) (IsMonthsLater months n)
months_by months n None e = λ later h. let some = months_given months n later h in absurd (cc)
months_by months n (Some l) e = later_by months n l (is_day n) refl e

pub months_are_later : MonthsLater
months_are_later months n = months_by months n (months_later months n) refl

february : (l : Bool) (y : ℤ) → is_leap_year y ≡ l → days_in_month y 2 ≡ cond l 29 28
february true y e = rw e refl
february false y e = rw e refl

pub leap_february : LeapFebruary
leap_february year = by (is_leap_year (pos year)) refl (february (is_leap_year (pos year)) (pos year) refl)
  where
    by : (l : Bool) → is_leap_year (pos year) ≡ l → days_in_month (pos year) 2 ≡ cond l 29 28 → (is_leap_year (pos year) ≡ true) ↔ (days_in_month (pos year) 2 ≡ 29)
    by true e d = (λ t. d, λ t. e)
    by false e d = (λ t. absurd (cc), λ t. absurd (omega arith))

-- ---- moments

pub in_its_day : InItsDay
in_its_day = moment_is

pub clock_of_second : ClockOfSecond
clock_of_second n = let p = (parts n).0 in (omega arith, omega arith, omega arith, omega arith)

pub moments_of_years : MomentsOfYears
moments_of_years n = (λ t. (day_part n, second_part n, moment_is n t), moment_so n)

made_by : (o : Option ℤ) (h m s : ℕ) (n : ℤ) (b : Bool) → is_clock (pos h) (pos m) (pos s) ≡ b → cond b (on_day o (clock_seconds (pos h) (pos m) (pos s))) None ≡ Some n
    → (o ≡ Some (day_part n)) × (second_part n / 3600 ≡ h) × (second_part n / 60 % 60 ≡ m) × (second_part n % 60 ≡ s)
made_by (Some day) h m s n true e at =
    let p = and_parts (nat_lt h 24) (nat_lt m 60 && nat_lt s 60) e in
    let q = and_parts (nat_lt m 60) (nat_lt s 60) p.1 in
    let hours = ltb-true h 24 p.0 in let minutes = ltb-true m 60 q.0 in let seconds = ltb-true s 60 q.1 in
    let c = h * 3600 + m * 60 + s in
    let same : day *ℤ pos 86400 +ℤ clock_seconds (pos h) (pos m) (pos s) ≡ n = cc in
    let is : n ≡ day *ℤ pos 86400 +ℤ pos c = omega (arith, signed_arith) in
    let at_day = part_is n day c (omega arith) is in
    let second = at_day.1 in
    (ap Some (sym at_day.0), omega arith, omega arith, omega arith)
made_by None h m s n true e at = absurd (cc)
made_by o h m s n false e at = absurd (cc)

pub moment_of_parts : MomentOfParts
moment_of_parts y m d h mi s n e = made_by (new_day y m d) h mi s n (is_clock (pos h) (pos mi) (pos s)) refl e

pub hours_of_days : HoursOfDays
hours_of_days n k = (ap only_moment (omega (arith, signed_arith)), ap only_moment (omega (arith, signed_arith)))
