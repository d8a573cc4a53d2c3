-- The sizes of the texts that methods answer, and that the other methods answer none.
use Rattle.std.proofs.Common.{arith, ◌≡◌, ◌<◌, ◌^◌, ◌-◌, min, ℕ, zero, suc, ℤ, pos, negsuc, Bool, true, false, cond, List, [], ◌∷◌, take, drop, length, reverse, Option, Some, None, Result, Ok, Err, refl, ap, ◌∙◌, length-append}
use Rattle.std.specs.Str.{IsUtf8, chars, encode_utf8_all}
use Rattle.std.specs.Char.{encode_utf8, len_utf8, to_ascii_uppercase, to_ascii_lowercase}
use Rattle.std.proofs.lemmas.Str.{encodes-append, encodes-chars, length-encode}
use Rattle.std.proofs.lemmas.List.{reverse-append}
use Rattle.apex_num.specs.declared.cell.Cell.{Cell}
use Rattle.apex_num.specs.declared.dec.NumFault.{NumFault}
use Rattle.apex_num.specs.Ids.{id_value}
use Rattle.text_methods.specs.Texts as texts
use Rattle.number_methods.specs.Values.{whole_value, decimal_value, without_l, only_if, integer_fits, long_fits, decimal_fits, in_range, scaled}
use Rattle.number_methods.specs.Methods.{whole_of}
use Rattle.civil_dates.specs.Texts.{date_value, stamp_value}
use Rattle.civil_dates.specs.Dates as dates
use Rattle.builtin_sizes.specs.Sizes.{sized}
use Rattle.builtin_table.specs.Answers.{Answer, invalid_number, invalid_id, invalid_date, out_of_range}
use Rattle.builtin_table.specs.Meanings as spec
use Rattle.builtin_table.specs.declared.method.ReadMethod.{ReadMethod}
use Rattle.builtin_table.specs.declared.method.ReadMethod.TheVariants as R
use Rattle.builtin_table.specs.declared.method.MathMethod.{MathMethod}
use Rattle.builtin_table.specs.declared.method.MathMethod.TheVariants as M
use Rattle.builtin_table.specs.declared.method.DecimalMethod.{DecimalMethod}
use Rattle.builtin_table.specs.declared.method.DecimalMethod.TheVariants as D
use Rattle.builtin_table.specs.declared.method.DateMethod.{DateMethod}
use Rattle.builtin_table.specs.declared.method.DateMethod.TheVariants as Y
use Rattle.builtin_table.specs.declared.method.MomentMethod.{MomentMethod}
use Rattle.builtin_table.specs.declared.method.MomentMethod.TheVariants as C
use Rattle.builtin_table.specs.declared.method.Builtin.{Builtin}
use Rattle.builtin_table.specs.declared.method.Builtin.TheVariants as B

-- ---- sizes

upper_long : (c : ℕ) → len_utf8 (to_ascii_uppercase c) ≡ len_utf8 c
upper_long c = grind arith

lower_long : (c : ℕ) → len_utf8 (to_ascii_lowercase c) ≡ len_utf8 c
lower_long c = grind arith

first_long : (f : ℕ → ℕ) → ((c : ℕ) → len_utf8 (f c) ≡ len_utf8 c) → (cs : List ℕ) → length (encode_utf8_all (texts.first_by f cs)) ≡ length (encode_utf8_all cs)
first_long f h [] = refl
first_long f h (c ∷ cs) =
    let a = length-append (encode_utf8 (f c)) (encode_utf8_all cs) in
    let b = length-append (encode_utf8 c) (encode_utf8_all cs) in
    let x = length-encode (f c) in
    let y = length-encode c in
    let z = h c in
    omega arith

pub upper_size : (s : List ℕ) → IsUtf8 s → length (encode_utf8_all (texts.first_by to_ascii_uppercase (chars s))) ≡ length s
upper_size s u = first_long to_ascii_uppercase upper_long (chars s) ∙ ap length (encodes-chars s u)

pub lower_size : (s : List ℕ) → IsUtf8 s → length (encode_utf8_all (texts.first_by to_ascii_lowercase (chars s))) ≡ length s
lower_size s u = first_long to_ascii_lowercase lower_long (chars s) ∙ ap length (encodes-chars s u)

turned_long : (cs : List ℕ) → length (encode_utf8_all (reverse cs)) ≡ length (encode_utf8_all cs)
turned_long [] = refl
turned_long (c ∷ cs) =
    let r = ap (λ x. length (encode_utf8_all x)) (reverse-append (c ∷ []) cs) in
    let a = ap length (encodes-append (reverse cs) (c ∷ [])) in
    let b = length-append (encode_utf8_all (reverse cs)) (encode_utf8_all (c ∷ [])) in
    let d = length-append (encode_utf8 c) [] in
    let e = length-append (encode_utf8 c) (encode_utf8_all cs) in
    let ih = turned_long cs in
    omega arith

pub reverse_size : (s : List ℕ) → IsUtf8 s → length (encode_utf8_all (reverse (chars s))) ≡ length s
reverse_size s u = turned_long (chars s) ∙ ap length (encodes-chars s u)

-- a text of that many bytes
pub size_is : (s : List ℕ) (n : ℕ) → length s ≡ n → n < 2 ^ 63 → Some n ≡ sized (spec.text s)
size_is s n e lt = let m : n ≡ min (length s) (2 ^ 64 - 1) = omega arith in ap Some m

-- ---- no text

abbrev pub IsNoText : Answer → Type 0
IsNoText a = None ≡ sized a

by_cond : (b : Bool) (x y : Answer) → IsNoText x → IsNoText y → IsNoText (cond b x y)
by_cond true x y h k = h
by_cond false x y h k = k

by_on : {A : Type 0} (f : A → Answer) (o : Option A) → ((a : A) → IsNoText (f a)) → IsNoText (spec.on f o)
by_on f (Some a) h = h a
by_on f None h = refl

no_whole : (o : Option ℤ) (e : Answer) → IsNoText e → IsNoText (spec.whole_or o e)
no_whole (Some z) e h = refl
no_whole None e h = h

no_decimal : (o : Option ℤ) (e : Answer) → IsNoText e → IsNoText (spec.decimal_or o e)
no_decimal (Some z) e h = refl
no_decimal None e h = h

no_id : (o : Option (List ℕ)) (e : Answer) → IsNoText e → IsNoText (spec.id_or o e)
no_id (Some z) e h = refl
no_id None e h = h

no_day : (o : Option ℤ) → IsNoText (spec.day_or o)
no_day (Some z) = refl
no_day None = refl

no_moment : (o : Option ℤ) → IsNoText (spec.moment_or o)
no_moment (Some z) = refl
no_moment None = refl

no_leap : (o : Option Bool) → IsNoText (spec.leap_or o)
no_leap (Some z) = refl
no_leap None = refl

no_place : (o : Option ℕ) → IsNoText (spec.place o)
no_place (Some z) = refl
no_place None = refl

no_scaled : (r : Result ℤ NumFault) → IsNoText (spec.scaled_or r)
no_scaled (Ok c) = refl
no_scaled (Err e) = refl

no_scale : (c : ℤ) (o : Option ℕ) → IsNoText (spec.scale_by c o)
no_scale c (Some n) = no_scaled (in_range (scaled c n))
no_scale c None = refl

no_read : (m : ReadMethod) (s : List ℕ) → IsNoText (spec.read_meaning m s)
no_read R.Integer s = no_whole (only_if integer_fits (whole_value s)) (invalid_number s) refl
no_read R.Long s = no_whole (only_if long_fits (whole_value (without_l s))) (invalid_number s) refl
no_read R.Decimal s = no_decimal (only_if decimal_fits (decimal_value s)) (invalid_number s) refl
no_read R.Date s = no_day (date_value s)
no_read R.Moment s = no_moment (stamp_value s)
no_read R.Id s = no_id (id_value s) (invalid_id s) refl

pub no_long : (m : DecimalMethod) (n : ℤ) → IsNoText (spec.long_meaning m n)
no_long D.IntValue n = refl
no_long D.LongValue n = refl
no_long D.Round n = refl
no_long D.Abs n = refl
no_long D.ToPlainString n = refl

pub no_int : (c : ℤ) → IsNoText (spec.decimal_meaning D.IntValue c)
no_int c = no_whole (only_if integer_fits (Some (whole_of c))) out_of_range refl

no_mod : (x y : ℤ) → IsNoText (spec.wholes_math M.Mod x y)
no_mod x (pos zero) = refl
no_mod x (pos (suc n)) = refl
no_mod x (negsuc n) = refl

no_date_part : (n : ℤ) (f : dates.Date → ℕ) → IsNoText (spec.of_date n f)
no_date_part n f = by_cond (dates.is_day n) (spec.count (f (dates.date_at n))) invalid_date refl refl

no_whole_math : (m : MathMethod) (x : ℤ) → IsNoText (spec.whole_math m x)
no_whole_math M.Abs x = refl
no_whole_math M.AbsInteger x = refl
no_whole_math M.Signum x = refl
no_whole_math M.Max x = refl
no_whole_math M.Min x = refl
no_whole_math M.Mod x = refl

no_decimal_math : (m : MathMethod) (x : ℤ) → IsNoText (spec.decimal_math m x)
no_decimal_math M.Abs x = refl
no_decimal_math M.AbsInteger x = refl
no_decimal_math M.Signum x = refl
no_decimal_math M.Max x = refl
no_decimal_math M.Min x = refl
no_decimal_math M.Mod x = refl

no_wholes_math : (m : MathMethod) (x y : ℤ) → IsNoText (spec.wholes_math m x y)
no_wholes_math M.Abs x y = refl
no_wholes_math M.AbsInteger x y = refl
no_wholes_math M.Signum x y = refl
no_wholes_math M.Max x y = refl
no_wholes_math M.Min x y = refl
no_wholes_math M.Mod x y = no_mod x y

no_decimals_math : (m : MathMethod) (x y : ℤ) → IsNoText (spec.decimals_math m x y)
no_decimals_math M.Abs x y = refl
no_decimals_math M.AbsInteger x y = refl
no_decimals_math M.Signum x y = refl
no_decimals_math M.Max x y = refl
no_decimals_math M.Min x y = refl
no_decimals_math M.Mod x y = refl

no_math : (m : MathMethod) (n : spec.Numbers) → IsNoText (spec.math_by m n)
no_math m (spec.whole x) = no_whole_math m x
no_math m (spec.decimal x) = no_decimal_math m x
no_math m (spec.wholes x y) = no_wholes_math m x y
no_math m (spec.decimals x y) = no_decimals_math m x y
no_math m spec.neither = refl

no_date : (m : DateMethod) (n : ℤ) → IsNoText (spec.date_meaning m n)
no_date Y.Year n = no_date_part n (λ (d : dates.Date). d.year)
no_date Y.Month n = no_date_part n (λ (d : dates.Date). d.month)
no_date Y.Day n = no_date_part n (λ (d : dates.Date). d.day)
no_date Y.ToStartOfMonth n = no_day (dates.start_of_month n)
no_date Y.AddDays n = refl
no_date Y.AddMonths n = refl
no_date Y.AddYears n = refl
no_date Y.DaysBetween n = refl

no_date_later : (m : DateMethod) (n k : ℤ) → IsNoText (spec.date_later_meaning m n k)
no_date_later Y.Year n k = refl
no_date_later Y.Month n k = refl
no_date_later Y.Day n k = refl
no_date_later Y.ToStartOfMonth n k = refl
no_date_later Y.AddDays n k = no_day _
no_date_later Y.AddMonths n k = no_day (dates.months_later k n)
no_date_later Y.AddYears n k = no_day _
no_date_later Y.DaysBetween n k = refl

no_dates : (m : DateMethod) (a b : ℤ) → IsNoText (spec.dates_meaning m a b)
no_dates Y.Year a b = refl
no_dates Y.Month a b = refl
no_dates Y.Day a b = refl
no_dates Y.ToStartOfMonth a b = refl
no_dates Y.AddDays a b = refl
no_dates Y.AddMonths a b = refl
no_dates Y.AddYears a b = refl
no_dates Y.DaysBetween a b = refl

no_dated : (m : DateMethod) (d : spec.Dates) → IsNoText (spec.date_by m d)
no_dated m (spec.date n) = no_date m n
no_dated m (spec.date_and n k) = no_date_later m n k
no_dated m (spec.two_dates a b) = no_dates m a b
no_dated m spec.no_date = refl

no_moment_part : (m : MomentMethod) (n day : ℤ) (second : ℕ) → IsNoText (spec.moment_part m n day second)
no_moment_part C.GetTime n day second = refl
no_moment_part C.Date n day second = refl
no_moment_part C.Year n day second = no_date_part day (λ (d : dates.Date). d.year)
no_moment_part C.Month n day second = no_date_part day (λ (d : dates.Date). d.month)
no_moment_part C.Day n day second = no_date_part day (λ (d : dates.Date). d.day)
no_moment_part C.Hour n day second = refl
no_moment_part C.Minute n day second = refl
no_moment_part C.Second n day second = refl
no_moment_part C.AddDays n day second = refl
no_moment_part C.AddHours n day second = refl
no_moment_part C.AddMinutes n day second = refl
no_moment_part C.AddSeconds n day second = refl

no_moment_meaning : (m : MomentMethod) (n : ℤ) → IsNoText (spec.moment_meaning m n)
no_moment_meaning m n = by_cond (dates.is_moment n) (spec.moment_part m n (dates.day_part n) (dates.second_part n)) invalid_date (no_moment_part m n (dates.day_part n) (dates.second_part n)) refl

no_moment_later : (m : MomentMethod) (n k : ℤ) → IsNoText (spec.moment_later_meaning m n k)
no_moment_later C.GetTime n k = refl
no_moment_later C.Date n k = refl
no_moment_later C.Year n k = refl
no_moment_later C.Month n k = refl
no_moment_later C.Day n k = refl
no_moment_later C.Hour n k = refl
no_moment_later C.Minute n k = refl
no_moment_later C.Second n k = refl
no_moment_later C.AddDays n k = no_moment _
no_moment_later C.AddHours n k = no_moment _
no_moment_later C.AddMinutes n k = no_moment _
no_moment_later C.AddSeconds n k = no_moment _

no_timed : (m : MomentMethod) (t : spec.Moments) → IsNoText (spec.moment_by m t)
no_timed m (spec.moment n) = no_moment_meaning m n
no_timed m (spec.moment_and n k) = no_moment_later m n k
no_timed m spec.no_moment = refl

no_new_moment : (d t : Option (ℤ × ℤ × ℤ)) → IsNoText (spec.new_moment_meaning d t)
no_new_moment (Some d) (Some t) = no_moment (dates.new_moment d.0 d.1 d.2 t.0 t.1 t.2)
no_new_moment (Some d) None = refl
no_new_moment None (Some t) = refl
no_new_moment None None = refl

-- the methods that aren't of texts
pub no_text : (which : Builtin) (args : List Cell)
    → ((m : _) → which ≡ B.Text m → ⊥) → ((m : _) → which ≡ B.Texts m → ⊥) → ((m : _) → which ≡ B.TextAt m → ⊥) → (which ≡ B.SubstringTo → ⊥) → (which ≡ B.Mid → ⊥) → (which ≡ B.Replace → ⊥) → ((m : _) → which ≡ B.Decimal m → ⊥)
    → IsNoText (spec.plain which args)
no_text (B.Text m) args a b c d e f g = absurd (a m refl)
no_text (B.Texts m) args a b c d e f g = absurd (b m refl)
no_text (B.TextAt m) args a b c d e f g = absurd (c m refl)
no_text B.SubstringTo args a b c d e f g = absurd (d refl)
no_text B.Mid args a b c d e f g = absurd (e refl)
no_text B.Replace args a b c d e f g = absurd (f refl)
no_text (B.Decimal m) args a b c d e f g = absurd (g m refl)
no_text B.IndexOfFrom args a b c d e f g = by_on _ (spec.texts_and_whole args) (λ (p : List ℕ × List ℕ × ℤ). no_place _)
no_text (B.Nullable m) args a b c d e f g = refl
no_text B.TextOf args a b c d e f g = refl
no_text (B.Read m) args a b c d e f g = by_on (spec.read_meaning m) (spec.one_text args) (no_read m)
no_text (B.Math m) args a b c d e f g = no_math m (spec.numbers args)
no_text B.SetScale args a b c d e f g = by_on _ (spec.decimal_and_whole args) (λ (p : ℤ × ℤ). no_scale p.0 (spec.places p.1))
no_text (B.Date m) args a b c d e f g = no_dated m (spec.dated args)
no_text B.NewDate args a b c d e f g = by_on _ (spec.three_wholes args) (λ (p : ℤ × ℤ × ℤ). no_day _)
no_text B.DaysInMonth args a b c d e f g = by_on _ (spec.two_wholes args) (λ (p : ℤ × ℤ). no_whole _ invalid_date refl)
no_text B.IsLeapYear args a b c d e f g = by_on _ (spec.one_whole args) (λ y. no_leap (dates.leap y))
no_text (B.Moment m) args a b c d e f g = no_timed m (spec.timed args)
no_text B.NewMoment args a b c d e f g = no_new_moment (spec.three_wholes (take 3 args)) (spec.three_wholes (drop 3 args))
no_text B.Join args a b c d e f g = refl
no_text (B.List m) args a b c d e f g = refl
no_text (B.Set m) args a b c d e f g = refl
no_text (B.Map m) args a b c d e f g = refl
no_text (B.Platform m) args a b c d e f g = refl
