-- Where the parts of a date's or a moment's text stand, and what they come to.
use Rattle.std.proofs.Common.{arith, ◌≡◌, ◌+◌, ◌<◌, ◌≤◌, ℕ, suc, ℤ, Bool, true, false, cond, ◌&&◌, eqb, Option, None, Some, List, [], ◌∷◌, ◌++◌, length, take, drop, get_or, refl, sym, ap, ◌∙◌, length-append, length-drop, drop-drop, ⊎_elim}
use Rattle.std.specs.Bool.{Decides}
use Rattle.std.specs.Char.{digit_value}
use Rattle.std.specs.Str.Parse.{AllDigits}
use Rattle.std.proofs.lemmas.Bool.{false_from_ne_true, cases_lt}
use Rattle.std.proofs.lemmas.Bool.Decides.{Decides-and, Decides-ltb, Decides-eqb}
use Rattle.std.proofs.lemmas.Grind.{common_steps}
use Rattle.std.proofs.lemmas.List.{length-take, take-append-drop, get_or_past}
use Rattle.std.proofs.Math.Seq.{drop-cons, take-append_seam, drop-append-add, take-length}
use Rattle.civil_dates.specs.Dates.{day_number}
use Rattle.civil_dates.specs.Texts.{are_digits, is_three, first, second, third, date_value, clock, clock_value, moment, moment_value, begins_date, begins_moment}

-- ---- three fields

digits_decide : (ds : List ℕ) → Decides (are_digits ds) (AllDigits 10 ds)
digits_decide [] = (λ _. tt, λ _. refl)
digits_decide (c ∷ cs) = Decides-and _ _ (Decides-ltb (digit_value c) 10) (digits_decide cs)

pub digits_there : (ds : List ℕ) → AllDigits 10 ds → are_digits ds ≡ true
digits_there ds h = (digits_decide ds).1 h

pub digits_not_there : (ds : List ℕ) → (AllDigits 10 ds → ⊥) → are_digits ds ≡ false
digits_not_there ds h = false_from_ne_true (are_digits ds) (λ t. h ((digits_decide ds).0 t))

abbrev pub Fields : ℕ → ℕ → List ℕ → Type 0
Fields n sign text =
    (length text ≡ n + 6) × ((get_or text n 0 ≡ sign) × ((get_or text (n + 3) 0 ≡ sign)
    × (AllDigits 10 (take n text) × (AllDigits 10 (take 2 (drop (n + 1) text)) × AllDigits 10 (take 2 (drop (n + 4) text))))))

pub fields_decide : (n sign : ℕ) (text : List ℕ) → Decides (is_three n sign text) (Fields n sign text)
fields_decide n sign text =
    Decides-and _ _ (Decides-eqb (length text) (n + 6)) (Decides-and _ _ (Decides-eqb _ sign) (Decides-and _ _ (Decides-eqb _ sign) (Decides-and _ _ (digits_decide _) (Decides-and _ _ (digits_decide _) (digits_decide _)))))

pub not_three : (n sign : ℕ) (text : List ℕ) → (Fields n sign text → ⊥) → is_three n sign text ≡ false
not_three n sign text h = false_from_ne_true (is_three n sign text) (λ t. h ((fields_decide n sign text).0 t))

not_digits : {A : Type 0} (ds : List ℕ) → are_digits ds ≡ false → AllDigits 10 ds → A
not_digits ds f h = let t = digits_there ds h in absurd (cc)

pub no_first : (n sign : ℕ) (text : List ℕ) → are_digits (take n text) ≡ false → is_three n sign text ≡ false
no_first n sign text f = not_three n sign text (λ h. not_digits _ f h.1.1.1.0)

pub no_second : (n sign : ℕ) (text : List ℕ) → are_digits (take 2 (drop (n + 1) text)) ≡ false → is_three n sign text ≡ false
no_second n sign text f = not_three n sign text (λ h. not_digits _ f h.1.1.1.1.0)

pub no_third : (n sign : ℕ) (text : List ℕ) → are_digits (take 2 (drop (n + 4) text)) ≡ false → is_three n sign text ≡ false
no_third n sign text f = not_three n sign text (λ h. not_digits _ f h.1.1.1.1.1)

pub all_three : (n sign : ℕ) (text : List ℕ) → length text ≡ n + 6 → get_or text n 0 ≡ sign → get_or text (n + 3) 0 ≡ sign
    → are_digits (take n text) ≡ true → are_digits (take 2 (drop (n + 1) text)) ≡ true → are_digits (take 2 (drop (n + 4) text)) ≡ true → is_three n sign text ≡ true
all_three n sign text len e f a b c = (fields_decide n sign text).1 (len, (e, (f, ((digits_decide _).0 a, ((digits_decide _).0 b, (digits_decide _).0 c)))))

-- ---- what is read

pub date_read : (text : List ℕ) (y m d : ℕ) (r : Option ℤ) → is_three 4 45 text ≡ true → first 4 text ≡ y → second 4 text ≡ m → third 4 text ≡ d → r ≡ day_number y m d → r ≡ date_value text
date_read text y m d r t a b c e = e ∙ sym (ap (λ x. cond x (day_number (first 4 text) (second 4 text) (third 4 text)) None) t ∙ (λ i. day_number (a i) (b i) (c i)))

pub no_date : (text : List ℕ) → is_three 4 45 text ≡ false → None ≡ date_value text
no_date text f = sym (ap (λ x. cond x (day_number (first 4 text) (second 4 text) (third 4 text)) None) f)

pub clock_read : (text : List ℕ) (h m s : ℕ) (r : Option ℕ) → is_three 2 58 text ≡ true → first 2 text ≡ h → second 2 text ≡ m → third 2 text ≡ s → r ≡ clock h m s → r ≡ clock_value text
clock_read text h m s r t a b c e = e ∙ sym (ap (λ x. cond x (clock (first 2 text) (second 2 text) (third 2 text)) None) t ∙ (λ i. clock (a i) (b i) (c i)))

pub no_clock : (text : List ℕ) → is_three 2 58 text ≡ false → None ≡ clock_value text
no_clock text f = sym (ap (λ x. cond x (clock (first 2 text) (second 2 text) (third 2 text)) None) f)

abbrev pub has_signs : List ℕ → Bool
has_signs text = eqb (length text) 20 && (eqb (get_or text 10 0) 84 && eqb (get_or text 19 0) 90)

abbrev pub Signs : List ℕ → Type 0
Signs text = (length text ≡ 20) × ((get_or text 10 0 ≡ 84) × (get_or text 19 0 ≡ 90))

pub signs_decide : (text : List ℕ) → Decides (has_signs text) (Signs text)
signs_decide text = Decides-and _ _ (Decides-eqb (length text) 20) (Decides-and _ _ (Decides-eqb _ 84) (Decides-eqb _ 90))

pub signed : (text : List ℕ) (date : Option ℤ) (time : Option ℕ) → Signs text → date ≡ date_value (take 10 text) → time ≡ clock_value (take 8 (drop 11 text)) → moment date time ≡ moment_value text
signed text date time s d c =
    sym (ap (λ x. cond x (moment (date_value (take 10 text)) (clock_value (take 8 (drop 11 text)))) None) ((signs_decide text).1 s) ∙ (λ i. moment (sym d i) (sym c i)))

pub unsigned : (text : List ℕ) → (Signs text → ⊥) → None ≡ moment_value text
unsigned text h =
    sym (ap (λ x. cond x (moment (date_value (take 10 text)) (clock_value (take 8 (drop 11 text)))) None) (false_from_ne_true (has_signs text) (λ t. h ((signs_decide text).0 t))))

pub moment_none : (time : Option ℕ) → moment None time ≡ None
moment_none time = refl

pub moment_none_time : (date : Option ℤ) → moment date None ≡ None
moment_none_time None = refl
moment_none_time (Some day) = refl

-- a text that is too short begins in no date
pub short_date : (text : List ℕ) → length text < 10 → false ≡ begins_date text
short_date text lt = sym (not_three 4 45 (take 10 text) (λ h. let l = length-take 10 text in let e = h.0 in omega arith))

abbrev pub Begins : List ℕ → Type 0
Begins text = (begins_date text ≡ true) × ((get_or text 10 0 ≡ 84) × ((is_three 2 58 (take 8 (drop 11 text)) ≡ true) × (get_or text 19 0 ≡ 90)))

same : (b : Bool) → Decides b (b ≡ true)
same b = (λ t. t, λ t. t)

pub begins_decide : (text : List ℕ) → Decides (begins_moment text) (Begins text)
begins_decide text = Decides-and _ _ (same (begins_date text)) (Decides-and _ _ (Decides-eqb _ 84) (Decides-and _ _ (same _) (Decides-eqb _ 90)))

pub begins_not : (text : List ℕ) → (Begins text → ⊥) → false ≡ begins_moment text
begins_not text h = sym (false_from_ne_true (begins_moment text) (λ t. h ((begins_decide text).0 t)))

pub moment_long : (text : List ℕ) → Begins text → 20 ≤ length text
moment_long text h = long text h.1.1.1
  where
    long : (text : List ℕ) → get_or text 19 0 ≡ 90 → 20 ≤ length text
    long text e = ⊎_elim (λ lt. absurd (let z = get_or_past text 19 0 (omega arith) in omega arith)) (λ le. le) (cases_lt (length text) 20)

pub begins_by : (text : List ℕ) (b : Bool) → begins_date text ≡ true → get_or text 10 0 ≡ 84 → get_or text 19 0 ≡ 90 → b ≡ is_three 2 58 (take 8 (drop 11 text)) → b ≡ begins_moment text
begins_by text true d t z e = sym ((begins_decide text).1 (d, (t, (sym e, z))))
begins_by text false d t z e = begins_not text (λ h. let x = h.1.1.0 in absurd (cc))

-- ---- texts of their parts

two : (xs : List ℕ) → length xs ≡ 2 → (a : ℕ) × (b : ℕ) × (xs ≡ a ∷ b ∷ [])
two [] h = absurd (omega arith)
two (a ∷ []) h = absurd (omega arith)
two (a ∷ b ∷ []) h = (a, b, refl)
two (a ∷ b ∷ c ∷ xs) h = absurd (omega arith)

all_of : (xs : List ℕ) → length xs ≡ 2 → take 2 xs ≡ xs
all_of xs h = ap (λ k. take k xs) (sym h) ∙ take-length xs

-- where the fields are, these are they
module _ (n sign : ℕ) (ys ms ds : List ℕ) (hy : length ys ≡ n) (hm : length ms ≡ 2) (hd : length ds ≡ 2) where
  abbrev pub joined : List ℕ
  joined = ys ++ sign ∷ (ms ++ sign ∷ ds)

  pub joined_long : length joined ≡ n + 6
  joined_long = let a = length-append ys (sign ∷ (ms ++ sign ∷ ds)) in let b = length-append ms (sign ∷ ds) in omega arith

  pub first_sign : get_or joined n 0 ≡ sign
  first_sign = grind (arith, common_steps)

  pub second_sign : get_or joined (n + 3) 0 ≡ sign
  second_sign = grind (arith, common_steps)

  pub first_there : take n joined ≡ ys
  first_there = ap (λ k. take k joined) (sym hy) ∙ take-append_seam ys (sign ∷ (ms ++ sign ∷ ds))

  behind : (k : ℕ) → drop (n + k) joined ≡ drop k (sign ∷ (ms ++ sign ∷ ds))
  behind k = ap (λ j. drop (j + k) joined) (sym hy) ∙ drop-append-add ys (sign ∷ (ms ++ sign ∷ ds)) k

  pub second_there : take 2 (drop (n + 1) joined) ≡ ms
  second_there = let m = two ms hm in ap (take 2) (behind 1) ∙ ap (λ z. take 2 (z ++ sign ∷ ds)) m.2 ∙ sym m.2

  pub third_there : take 2 (drop (n + 4) joined) ≡ ds
  third_there = let m = two ms hm in ap (take 2) (behind 4) ∙ ap (λ z. take 2 (drop 3 (z ++ sign ∷ ds))) m.2 ∙ all_of ds hd

  pub three_there : AllDigits 10 ys → AllDigits 10 ms → AllDigits 10 ds → is_three n sign joined ≡ true
  three_there a b c =
      all_three n sign joined joined_long first_sign second_sign (ap are_digits first_there ∙ digits_there ys a) (ap are_digits second_there ∙ digits_there ms b) (ap are_digits third_there ∙ digits_there ds c)

-- a text of this length, with its two signs, is made of its fields
pub parts : (n sign : ℕ) (text : List ℕ) → length text ≡ n + 6 → get_or text n 0 ≡ sign → get_or text (n + 3) 0 ≡ sign → text ≡ take n text ++ sign ∷ (take 2 (drop (n + 1) text) ++ sign ∷ take 2 (drop (n + 4) text))
parts n sign text len e f =
    let one : suc n ≡ n + 1 = omega arith in
    let three : n + 1 + 2 ≡ n + 3 = omega arith in
    let four : suc (n + 3) ≡ n + 4 = omega arith in
    let first : drop n text ≡ sign ∷ drop (n + 1) text = drop-cons text n 0 (omega arith) ∙ ap (λ b. b ∷ drop (suc n) text) e ∙ ap (λ k. sign ∷ drop k text) one in
    let mid : drop (n + 1) text ≡ take 2 (drop (n + 1) text) ++ drop (n + 3) text =
    sym (take-append-drop 2 (drop (n + 1) text)) ∙ ap (λ z. take 2 (drop (n + 1) text) ++ z) (drop-drop 2 (n + 1) text ∙ ap (λ k. drop k text) three) in
    let second : drop (n + 3) text ≡ sign ∷ drop (n + 4) text = drop-cons text (n + 3) 0 (omega arith) ∙ ap (λ b. b ∷ drop (suc (n + 3)) text) f ∙ ap (λ k. sign ∷ drop k text) four in
    let last : take 2 (drop (n + 4) text) ≡ drop (n + 4) text = all_of (drop (n + 4) text) (rw (length-drop (n + 4) text) (omega arith)) in
    sym (take-append-drop n text) ∙ ap (λ z. take n text ++ z) (first ∙ ap (λ z. sign ∷ z) (mid ∙ ap (λ z. take 2 (drop (n + 1) text) ++ z) (second ∙ ap (λ z. sign ∷ z) (sym last))))
