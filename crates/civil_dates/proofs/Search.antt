-- The search for a date finds it.
use Rattle.std.proofs.Common.{arith, ◌≡◌, ◌<◌, ◌≤◌, ◌+◌, ◌-◌, zero, suc, ℕ, Bool, true, false, ℤ, pos, ◌+ℤ◌, ◌-ℤ◌, unsigned_abs, refl, sym, ap, ap₂, ◌∙◌, lt-ltb, le-ltb, eq-or-lt_of_le, inl, inr, ◌⊎◌}
use Rattle.std.proofs.lemmas.Int.{ints}
use Rattle.jiff_core.specs.Calendar.{days_from_civil, day_count, days_of_years, days_of_months, days_in_month, days_in_year, is_leap_year}
use Rattle.civil_dates.specs.Laws.{IsDateOf}
use Rattle.civil_dates.specs.Dates.{month_from, date_from, date_at}

-- ---- years

year_more : (y : ℕ) → days_of_years (suc (y + 10000)) ≡ days_of_years (y + 10000) + days_in_year (pos y)
unfolding days_of_years
year_more y = let e : pos (y + 10000) -ℤ pos 10000 ≡ pos y = omega (arith, ints) in ap (λ z. days_of_years (y + 10000) + days_in_year z) e

years_at : (y : ℕ) → days_of_years (y + 1 + 10000) ≡ days_of_years (y + 10000) + days_in_year (pos y)
years_at y = let e : y + 1 + 10000 ≡ suc (y + 10000) = omega arith in ap days_of_years e ∙ year_more y

years_rise : (y j : ℕ) → days_of_years (y + 10000) ≤ days_of_years (y + j + 10000)
years_rise y zero = let e : y + 0 + 10000 ≡ y + 10000 = omega arith in let q = ap days_of_years e in omega arith
years_rise y (suc j) =
    let h = years_rise y j in
    let m = years_at (y + j) in
    let e : y + suc j + 10000 ≡ y + j + 1 + 10000 = omega arith in
    let q = ap days_of_years e in
    omega arith

date_found : (k y year rest n : ℕ) → days_of_years (y + 10000) + n ≡ days_of_years (year + 10000) + rest → rest < days_in_year (pos year) → y ≤ year → year ≤ y + k → date_from k y n ≡ month_from 11 year 1 rest
date_found zero y year rest n e lt from to =
    let same : y ≡ year = omega arith in
    let q = ap (λ x. days_of_years (x + 10000)) same in
    let r : n ≡ rest = omega arith in
    ap₂ (λ a b. month_from 11 a 1 b) same r
date_found (suc k) y year rest n e lt from to = by (eq-or-lt_of_le from) (date_found k (y + 1) year rest (n - days_in_year (pos y)))
  where
    by : (y ≡ year) ⊎ (y < year)
        → (days_of_years (y + 1 + 10000) + (n - days_in_year (pos y)) ≡ days_of_years (year + 10000) + rest → rest < days_in_year (pos year) → y + 1 ≤ year → year ≤ y + 1 + k → date_from k (y + 1) (n - days_in_year (pos y)) ≡ month_from 11 year 1 rest)
        → date_from (suc k) y n ≡ month_from 11 year 1 rest
    by (inl same) ih =
        let q = ap (λ x. days_of_years (x + 10000)) same in
        let d = ap (λ x. days_in_year (pos x)) same in
        let r : n ≡ rest = omega arith in
        rw (lt-ltb n (days_in_year (pos y)) (omega arith)) (ap₂ (λ a b. month_from 11 a 1 b) same r)
    by (inr less) ih =
        let m = years_at y in
        let r = years_rise (y + 1) (year - (y + 1)) in
        let q = ap days_of_years (let g : y + 1 + (year - (y + 1)) + 10000 ≡ year + 10000 = omega arith in g) in
        let big : days_in_year (pos y) ≤ n = omega arith in
        rw (le-ltb n (days_in_year (pos y)) big) (ih (omega arith) lt (omega arith) (omega arith))

-- ---- months

months_at : (y : ℤ) (i : ℕ) → days_of_months y (i + 1) ≡ days_of_months y i + days_in_month y (i + 1)
unfolding days_of_months
months_at y i = let e : i + 1 ≡ suc i = omega arith in ap (λ x. days_of_months y x) e ∙ ap (λ x. days_of_months y i + days_in_month y x) (sym e)

months_rise : (y : ℤ) (i j : ℕ) → days_of_months y i ≤ days_of_months y (i + j)
months_rise y i zero = let e : i + 0 ≡ i = omega arith in let q = ap (λ x. days_of_months y x) e in omega arith
months_rise y i (suc j) =
    let h = months_rise y i j in
    let m = months_at y (i + j) in
    let e : i + suc j ≡ i + j + 1 = omega arith in
    let q = ap (λ x. days_of_months y x) e in
    omega arith

year_long : (y : ℤ) → days_of_months y 12 ≡ days_in_year y
unfolding days_of_months
year_long y = by (is_leap_year y) refl
  where
    by : (b : Bool) → is_leap_year y ≡ b → days_of_months y 12 ≡ days_in_year y
    by true e = rw e refl
    by false e = rw e refl

month_found : (k y i month rest n : ℕ) → days_of_months (pos y) i + n ≡ days_of_months (pos y) month + rest → rest < days_in_month (pos y) (month + 1) → i ≤ month → month ≤ i + k
    → month_from k y (i + 1) n ≡ record { year = y; month = month + 1; day = rest + 1 }
month_found zero y i month rest n e lt from to =
    let same : i ≡ month = omega arith in
    let q = ap (λ x. days_of_months (pos y) x) same in
    let r : n ≡ rest = omega arith in
    ap₂ (λ a b. record { year = y; month = a + 1; day = b + 1 }) same r
month_found (suc k) y i month rest n e lt from to = by (eq-or-lt_of_le from) (month_found k y (i + 1) month rest (n - days_in_month (pos y) (i + 1)))
  where
    by : (i ≡ month) ⊎ (i < month)
        → (days_of_months (pos y) (i + 1) + (n - days_in_month (pos y) (i + 1)) ≡ days_of_months (pos y) month + rest → rest < days_in_month (pos y) (month + 1) → i + 1 ≤ month → month ≤ i + 1 + k
        → month_from k y (i + 1 + 1) (n - days_in_month (pos y) (i + 1)) ≡ record { year = y; month = month + 1; day = rest + 1 })
        → month_from (suc k) y (i + 1) n ≡ record { year = y; month = month + 1; day = rest + 1 }
    by (inl same) ih =
        let q = ap (λ x. days_of_months (pos y) x) same in
        let d = ap (λ x. days_in_month (pos y) (x + 1)) same in
        let r : n ≡ rest = omega arith in
        rw (lt-ltb n (days_in_month (pos y) (i + 1)) (omega arith)) (ap₂ (λ a b. record { year = y; month = a + 1; day = b + 1 }) same r)
    by (inr less) ih =
        let m = months_at (pos y) i in
        let r = months_rise (pos y) (i + 1) (month - (i + 1)) in
        let q = ap (λ x. days_of_months (pos y) x) (let g : i + 1 + (month - (i + 1)) ≡ month = omega arith in g) in
        let big : days_in_month (pos y) (i + 1) ≤ n = omega arith in
        rw (le-ltb n (days_in_month (pos y) (i + 1)) big) (ih (omega arith) lt (omega arith) (omega arith))

-- ---- dates

count_of : (y m d : ℕ) → 1 ≤ d → day_count (pos y) m d ≡ days_of_years (y + 10000) + (days_of_months (pos y) (m - 1) + (d - 1))
unfolding day_count
count_of y m d h = let e : unsigned_abs (pos y +ℤ pos 10000) ≡ y + 10000 = omega (arith, ints) in let q = ap days_of_years e in omega arith

months_none : (y : ℤ) → days_of_months y 0 ≡ 0
unfolding days_of_months
months_none y = refl

first_day : day_count (pos 1) 1 1 ≡ days_of_years (1 + 10000)
first_day = let c = count_of 1 1 1 (omega arith) in let z = months_none (pos 1) in c ∙ omega arith

since : (n : ℤ) (y m d : ℕ) → IsDateOf n y m d → days_of_years (1 + 10000) + unsigned_abs (n -ℤ days_from_civil (pos 1) 1 1) ≡ day_count (pos y) m d
unfolding days_from_civil
since n y m d h =
    let f = first_day in
    let c = count_of y m d h.0.4 in
    let r = years_rise 1 (y - 1) in
    let q = ap days_of_years (let g : 1 + (y - 1) + 10000 ≡ y + 10000 = let l = h.0.0 in omega arith in g) in
    let e = h.1 in
    omega (arith, ints)

pub date_at_is : (n : ℤ) (y m d : ℕ) → IsDateOf n y m d → date_at n ≡ record { year = y; month = m; day = d }
unfolding date_at
date_at_is n y m d h =
    let civil = h.0 in
    let rest = days_of_months (pos y) (m - 1) + (d - 1) in
    let c = count_of y m d civil.4 in
    let s = since n y m d h in
    let one = months_at (pos y) (m - 1) in
    let rise = months_rise (pos y) (m - 1 + 1) (12 - (m - 1 + 1)) in
    let all = ap (λ x. days_of_months (pos y) x) (let g : m - 1 + 1 + (12 - (m - 1 + 1)) ≡ 12 = let a = civil.2 in let b = civil.3 in omega arith in g) in
    let long = year_long (pos y) in
    let zero_months = months_none (pos y) in
    let back : m - 1 + 1 ≡ m = let a = civil.2 in omega arith in
    let month = ap (λ x. days_in_month (pos y) x) back in
    let last = civil.5 in
    let fits : rest < days_in_year (pos y) = omega arith in
    date_found 9998 1 y rest (unsigned_abs (n -ℤ days_from_civil (pos 1) 1 1)) (omega arith) fits civil.0 (let b = civil.1 in omega arith)
    ∙ month_found 11 y 0 (m - 1) (d - 1) rest (omega arith) (omega arith) (omega arith) (let b = civil.3 in omega arith)
    ∙ ap₂ (λ a b. record { year = y; month = a; day = b }) back (let g : d - 1 + 1 ≡ d = let a = civil.4 in omega arith in g)
