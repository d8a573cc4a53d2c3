-- Days and moments: what the definitions tell, and what they mean.
use Rattle.std.proofs.Common.{arith, ◌≡◌, ◌<◌, ◌≤◌, ◌+◌, ◌-◌, ◌*◌, ◌/◌, ◌%◌, ℕ, Bool, neg_ℤ, true, false, cond, ◌&&◌, leb, ltb, eqb, ◌||◌, w32, w64, lt-ltb, ltb-true, ℤ, pos, negsuc, ◌+ℤ◌, ◌-ℤ◌, ◌*ℤ◌, Option, None, Some, refl, sym, ap, ap₂, ◌∙◌, subst, le-leb, leb-true}
use Rattle.std.specs.Bool.{Decides}
use Rattle.std.specs.Prelude.{FitsSigned}
use Rattle.std.specs.Ordering.{int_eq}
use Rattle.jiff_core.proofs.SignedLemmas.{signed_arith}
use Rattle.std.proofs.lemmas.Bool.Decides.{Decides-and, Decides-like, Decides-int_eq}
use Rattle.std.proofs.lemmas.Bool.{false_from_ne_true, and_from, and_parts}
use Rattle.jiff_core.specs.Calendar.{days_from_civil, days_in_month, is_leap_year, IsBetween}
use Rattle.civil_dates.proofs.OneDate.{day_range}
use Rattle.civil_dates.specs.Laws.{IsCivil, IsDateOf, IsDay, IsMonthsLater, IsMoment, IsMomentOf}
use Rattle.civil_dates.specs.Dates.{Date, is_civil, day_number, date_at, number_of, is_day, only_day, in_month, months_later, is_moment, only_moment, day_part, second_part, cut_to, is_clock, clock_seconds, on_day}
use Rattle.civil_dates.proofs.Search.{date_at_is}

Decides-leb : (a b : ℕ) → Decides (leb a b) (a ≤ b)
Decides-leb a b = (leb-true a b, le-leb a b)

pub civil_decide : (y m d : ℕ) → Decides (is_civil y m d) (IsCivil y m d)
civil_decide y m d =
    Decides-like (is_civil y m d) (λ h. (h.0, h.1.0, h.1.1.0, h.1.1.1.0, h.1.1.1.1.0, h.1.1.1.1.1)) (λ h. (h.0, (h.1, (h.2, (h.3, (h.4, h.5))))))
    (Decides-and _ _ (Decides-leb 1 y) (Decides-and _ _ (Decides-leb y 9999) (Decides-and _ _ (Decides-leb 1 m) (Decides-and _ _ (Decides-leb m 12) (Decides-and _ _ (Decides-leb 1 d) (Decides-leb d _))))))

civil_and : (n : ℤ) (d : Date) → Decides (is_civil d.year d.month d.day && int_eq n (number_of d)) (IsCivil d.year d.month d.day × (n ≡ number_of d))
civil_and n d = Decides-and _ _ (civil_decide d.year d.month d.day) (Decides-int_eq n (number_of d))

pub day_so : (n : ℤ) (y m d : ℕ) → IsDateOf n y m d → is_day n ≡ true
unfolding is_day
day_so n y m d h =
    subst (λ (at : Date). (is_civil at.year at.month at.day && int_eq n (number_of at)) ≡ true) (sym (date_at_is n y m d h)) ((civil_and n (record { year = y; month = m; day = d })).1 (h.0, h.1))

pub day_is : (n : ℤ) → is_day n ≡ true → IsDateOf n (date_at n).year (date_at n).month (date_at n).day
unfolding is_day
day_is n t = let h = (civil_and n (date_at n)).0 t in (h.0, h.1)

pub day_decide : (n : ℤ) → Decides (is_day n) (IsDay n)
day_decide n = (λ t. ((date_at n).year, (date_at n).month, (date_at n).day, day_is n t), λ h. day_so n h.0 h.1 h.2 h.3)

pub no_day : (n : ℤ) → (IsDay n → ⊥) → is_day n ≡ false
no_day n h = false_from_ne_true (is_day n) (λ t. h ((day_decide n).0 t))

-- no day has a great number
pub far_day : (n : ℤ) → (IsBetween (neg_ℤ (pos 4371587)) (pos 2932896) n → ⊥) → None ≡ only_day n
far_day n h = sym (ap (λ b. cond b (Some n) None) (no_day n (λ d. h (day_range n d))))

-- ---- moments

pub part_is : (n day : ℤ) (s : ℕ) → s < 86400 → n ≡ day *ℤ pos 86400 +ℤ pos s → (day_part n ≡ day) × (second_part n ≡ s)
part_is (pos a) day s l e = (omega (arith, signed_arith), omega (arith, signed_arith))
part_is (negsuc a) day s l e = (omega (arith, signed_arith), omega (arith, signed_arith))

pub parts : (n : ℤ) → (second_part n < 86400) × (n ≡ day_part n *ℤ pos 86400 +ℤ pos (second_part n))
parts (pos a) = (omega (arith, signed_arith), omega (arith, signed_arith))
parts (negsuc a) = (omega (arith, signed_arith), omega (arith, signed_arith))

pub moment_so : (n : ℤ) → IsMoment n → is_moment n ≡ true
moment_so n h = let p = part_is n h.0 h.1 h.2.1 h.2.2 in ap is_day p.0 ∙ (day_decide h.0).1 h.2.0

pub moment_is : (n : ℤ) → is_moment n ≡ true → IsMomentOf n (day_part n) (second_part n)
moment_is n t = ((day_decide (day_part n)).0 t, (parts n).0, (parts n).1)

-- ---- months

pub months_at : (months n : ℤ) (y m d : ℕ) → IsDateOf n y m d → months_later months n ≡ in_month (pos (y * 12 + m) -ℤ pos 1 +ℤ months) d
months_at months n y m d h =
    ap (λ b. cond b (in_month (pos ((date_at n).year * 12 + (date_at n).month) -ℤ pos 1 +ℤ months) (date_at n).day) None) (day_so n y m d h)
    ∙ ap (λ (at : Date). in_month (pos (at.year * 12 + at.month) -ℤ pos 1 +ℤ months) at.day) (date_at_is n y m d h)

pub no_months : (months n : ℤ) → (IsDay n → ⊥) → months_later months n ≡ None
no_months months n h = ap (λ b. cond b (in_month (pos ((date_at n).year * 12 + (date_at n).month) -ℤ pos 1 +ℤ months) (date_at n).day) None) (no_day n h)

in_range : (t d : ℕ) → 12 ≤ t → t < 120000 → in_month (pos t) d ≡ Some (cut_to (t / 12) (t % 12 + 1) d)
in_range t d low high = ap (λ b. cond b (Some (cut_to (t / 12) (t % 12 + 1) d)) None) (and_from (leb 12 t) (ltb t 120000) (le-leb 12 t low) (lt-ltb t 120000 high))

out_of_range : (t : ℤ) (d : ℕ) → ((k : ℕ) → t ≡ pos k → 12 ≤ k → k < 120000 → ⊥) → in_month t d ≡ None
out_of_range (pos k) d h =
    ap (λ b. cond b (Some (cut_to (k / 12) (k % 12 + 1) d)) None) (false_from_ne_true (leb 12 k && ltb k 120000) (λ e. let p = and_parts (leb 12 k) (ltb k 120000) e in h k refl (leb-true 12 k p.0) (ltb-true k 120000 p.1)))
out_of_range (negsuc k) d h = refl

pub month_long : (y : ℤ) (m : ℕ) → 1 ≤ days_in_month y m
month_long y m = by (is_leap_year y) refl (eqb m 2) refl (eqb m 4 || (eqb m 6 || (eqb m 9 || eqb m 11)))
  where
    by : (l : Bool) → is_leap_year y ≡ l → (f : Bool) → eqb m 2 ≡ f → (s : Bool) → 1 ≤ days_in_month y m
    by l e f g s = grind arith

-- the day in a month that is there
pub month_there : (months n : ℤ) (k : ℕ) → is_day n ≡ true → pos ((date_at n).year * 12 + (date_at n).month) -ℤ pos 1 +ℤ months ≡ pos k → 12 ≤ k → k < 120000
    → IsMonthsLater months n (cut_to (k / 12) (k % 12 + 1) (date_at n).day)
month_there months n k e is low high =
    let date = date_at n in
    let from = day_is n e in
    let y : k / 12 * 12 + (k % 12 + 1) ≡ k + 1 = omega arith in
    let long = month_long (pos (k / 12)) (k % 12 + 1) in
    let some = from.0.4 in
    let year_low : 1 ≤ k / 12 = omega arith in
    let year_high : k / 12 ≤ 9999 = omega arith in
    let month_low : 1 ≤ k % 12 + 1 = omega arith in
    let month_high : k % 12 + 1 ≤ 12 = omega arith in
    record {
      year = date.year;
      month = date.month;
      day = date.day;
      from = from;
      year₂ = k / 12;
      month₂ = k % 12 + 1;
      after = (year_low, year_high, month_low, month_high, omega (arith, signed_arith));
      to = ((year_low, year_high, month_low, month_high, omega arith, omega arith), refl);
    }

pub months_given : (months n l : ℤ) → IsMonthsLater months n l → Some l ≡ months_later months n
months_given months n l h =
    let t = h.year₂ * 12 + h.month₂ - 1 in
    let a = h.after in
    let e : pos (h.year * 12 + h.month) -ℤ pos 1 +ℤ months ≡ pos t = let q = a.4 in let o = a.2 in omega (arith, signed_arith) in
    let low = a.0 in let high = a.1 in let first = a.2 in let last = a.3 in
    let y : t / 12 ≡ h.year₂ = omega arith in
    let m : t % 12 + 1 ≡ h.month₂ = omega arith in
    sym (months_at months n h.year h.month h.day h.from ∙ ap (λ z. in_month z h.day) e ∙ in_range t h.day (omega arith) (omega arith)
    ∙ ap₂ (λ x z. Some (cut_to x z h.day)) y m ∙ ap Some (sym h.to.1))

-- ---- values that are there

pub day_then : (n : ℤ) → is_day n ≡ true → Some n ≡ only_day n
day_then n e = sym (ap (λ b. cond b (Some n) None) e)

pub day_else : (n : ℤ) → is_day n ≡ false → None ≡ only_day n
day_else n e = sym (ap (λ b. cond b (Some n) None) e)

pub moment_then : (n : ℤ) → is_moment n ≡ true → Some n ≡ only_moment n
moment_then n e = sym (ap (λ b. cond b (Some n) None) e)

pub moment_else : (n : ℤ) → is_moment n ≡ false → None ≡ only_moment n
moment_else n e = sym (ap (λ b. cond b (Some n) None) e)

pub far_from_days : (n : ℤ) → (FitsSigned w32 n → ⊥) → None ≡ only_day n
far_from_days n h = far_day n (λ b. let low = b.0 in let high = b.1 in h (omega (arith, signed_arith)))

pub far_moment : (n : ℤ) → (FitsSigned w64 n → ⊥) → None ≡ only_moment n
far_moment n h = moment_else n (false_from_ne_true (is_moment n) (λ t.
    let m = moment_is n t in let r = day_range (day_part n) m.0 in let low = r.0 in let high = r.1 in let s = m.1 in let e = m.2 in h (omega (arith, signed_arith))))

pub moment_made : (o : Option ℤ) (h m s day z : ℤ) (n : ℕ) → is_clock h m s ≡ true → pos n ≡ clock_seconds h m s → o ≡ Some day → z ≡ day *ℤ pos 86400 +ℤ pos n
    → Some z ≡ cond (is_clock h m s) (on_day o (clock_seconds h m s)) None
moment_made o h m s day z n t e is q =
    sym (ap (λ b. cond b (on_day o (clock_seconds h m s)) None) t ∙ ap (λ r. on_day r (clock_seconds h m s)) is ∙ ap (λ k. Some (day *ℤ pos 86400 +ℤ k)) (sym e) ∙ ap Some (sym q))

-- ---- what calls answer

pub no_number : (y m d : ℕ) → (IsCivil y m d → ⊥) → None ≡ day_number y m d
no_number y m d h = sym (ap (λ b. cond b (Some (days_from_civil (pos y) m d)) None) (false_from_ne_true (is_civil y m d) (λ t. h ((civil_decide y m d).0 t))))

pub a_number : (n : ℤ) (y m d : ℕ) → IsCivil y m d → n ≡ days_from_civil (pos y) m d → Some n ≡ day_number y m d
a_number n y m d c e = sym (ap (λ b. cond b (Some (days_from_civil (pos y) m d)) None) ((civil_decide y m d).1 c) ∙ ap Some (sym e))

-- a moment's day has 32 bits
pub far_part : (n : ℤ) → (FitsSigned w32 (day_part n) → ⊥) → is_moment n ≡ false
far_part n h = false_from_ne_true (is_moment n) (λ t.
    let r = day_range (day_part n) ((day_decide (day_part n)).0 t) in let low = r.0 in let high = r.1 in h (omega (arith, signed_arith)))

pub civil_there : (n : ℤ) (y m d : ℕ) → IsDateOf n y m d → (is_day n ≡ true) × ((date_at n).year ≡ y) × ((date_at n).month ≡ m) × ((date_at n).day ≡ d)
civil_there n y m d h =
    let e = date_at_is n y m d h in
    (day_so n y m d h, ap (λ (at : Date). at.year) e, ap (λ (at : Date). at.month) e, ap (λ (at : Date). at.day) e)

pub months_by : (months n t : ℤ) (y m d : ℕ) (r : Option ℤ) → is_day n ≡ true → (date_at n).year ≡ y → (date_at n).month ≡ m → (date_at n).day ≡ d
    → r ≡ in_month t d → t ≡ pos (y * 12 + m) -ℤ pos 1 +ℤ months → r ≡ months_later months n
months_by months n t y m d r is a b c e at =
    e ∙ ap (λ z. in_month z d) at
    ∙ sym (ap (λ x. cond x (in_month (pos ((date_at n).year * 12 + (date_at n).month) -ℤ pos 1 +ℤ months) (date_at n).day) None) is ∙ (λ i. in_month (pos (a i * 12 + b i) -ℤ pos 1 +ℤ months) (c i)))
