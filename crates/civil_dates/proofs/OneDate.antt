-- Dates of one day.
use Rattle.std.proofs.Common.{arith, ◌≡◌, ℕ, ◌≤◌, ℤ, pos, ◌<ℤ◌, sym, ap, subst, ◌∙◌}
use Rattle.jiff_core.specs.declared.civil.date.Date.{Date}
use Rattle.jiff_core.specs.Calendar.{days_from_civil, days_in_month, IsEpochDay}
use Rattle.jiff_core.specs.Date.{epoch_day}
use Rattle.jiff_core.proofs.SignedLemmas.{signed_arith}
use Rattle.jiff_core.proofs.DateLemmas.{epoch_day_range, epoch_day_injective}
use Rattle.civil_dates.specs.Laws.{IsCivil, IsDateOf, IsDay}

-- the date of these parts
abbrev made : (y m d : ℕ) → IsCivil y m d → Date
made y m d c = let low = c.0 in let high = c.1 in record { year = pos y; month = m; day = d; year_in = (omega (arith, signed_arith), omega (arith, signed_arith)); month_in = (c.2, c.3); day_in = (c.4, c.5) }

pub day_range : (n : ℤ) → IsDay n → IsEpochDay n
day_range n day = let date = day.3 in subst IsEpochDay (sym date.1) (epoch_day_range (made day.0 day.1 day.2 date.0))

-- a day has one date
pub same_date : (n : ℤ) (date : Date) (y m d : ℕ) → epoch_day date ≡ n → IsDateOf n y m d → (date.year ≡ pos y) × (date.month ≡ m) × (date.day ≡ d)
same_date n date y m d e is = epoch_day_injective date (made y m d is.0) (e ∙ is.1)

pub year_0 : (n : ℤ) (date : Date) → epoch_day date ≡ n → date.year <ℤ pos 1 → IsDay n → ⊥
year_0 n date e low day =
    let is = day.3 in
    let civil = is.0 in
    let first : 1 ≤ day.0 = civil.0 in
    let same = same_date n date day.0 day.1 day.2 e is in
    let year : date.year ≡ pos day.0 = same.0 in
    omega (arith, signed_arith)

-- a date of the calendar whose year is above 0
pub date_there : (n : ℤ) (date : Date) (y : ℕ) → epoch_day date ≡ n → date.year ≡ pos y → 1 ≤ y → IsDateOf n y date.month date.day
date_there n date y e is low =
    let high = date.year_in.1 in
    let m = date.month_in in
    let d = date.day_in in
    ((low, omega (arith, signed_arith), m.0, m.1, d.0, subst (λ z. date.day ≤ days_in_month z date.month) is d.1), sym e ∙ ap (λ z. days_from_civil z date.month date.day) is)
