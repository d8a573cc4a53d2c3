-- The laws of texts of dates and moments.
use Rattle.std.proofs.Common.{arith, ◌≡◌, ◌+◌, ℕ, ℤ, Bool, true, false, cond, Option, None, Some, List, [], ◌∷◌, ◌++◌, length, take, drop, get_or, refl, sym, ap, ◌∙◌, length-append, length-drop, drop-drop, eqb, ◌&&◌, eq-eqb}
use Rattle.std.specs.Str.Parse.{digits_value}
use Rattle.std.proofs.lemmas.Bool.{and_from}
use Rattle.std.proofs.lemmas.Grind.{common_steps}
use Rattle.std.proofs.lemmas.List.{length-take-le, take-append-drop, drop_all}
use Rattle.std.proofs.Math.Seq.{drop-cons, take-append_seam, drop-append-add}
use Rattle.civil_dates.specs.Texts.{is_three, second, date_value, clock_value, moment, moment_value, zulu}
use Rattle.civil_dates.specs.Laws.{DateIsRead, DateHasForm, ClockIsRead, MomentIsRead, MomentHasForm, StampIsMoment}
use Rattle.civil_dates.proofs.TextSteps.{Fields, fields_decide, Signs, signs_decide, date_read, clock_read, signed, first_there, second_there, third_there, three_there, parts}

pub date_is_read : DateIsRead
date_is_read ys ms ds y m d =
    let text = ys ++ 45 ∷ (ms ++ 45 ∷ ds) in
    sym (date_read text _ _ _ _ (three_there 4 45 ys ms ds y.0 m.0 d.0 y.1 m.1 d.1) (ap (digits_value 10) (first_there 4 45 ys ms ds y.0 m.0 d.0)) (ap (digits_value 10) (second_there 4 45 ys ms ds y.0 m.0 d.0)) (ap (digits_value 10) (third_there 4 45 ys ms ds y.0 m.0 d.0)) refl)

pub clock_is_read : ClockIsRead
clock_is_read hs ms ss h m s =
    let text = hs ++ 58 ∷ (ms ++ 58 ∷ ss) in
    sym (clock_read text _ _ _ _ (three_there 2 58 hs ms ss h.0 m.0 s.0 h.1 m.1 s.1) (ap (digits_value 10) (first_there 2 58 hs ms ss h.0 m.0 s.0)) (ap (digits_value 10) (second_there 2 58 hs ms ss h.0 m.0 s.0)) (ap (digits_value 10) (third_there 2 58 hs ms ss h.0 m.0 s.0)) refl)

-- what has a value has three fields
three_so : {A : Type 0} (b : Bool) (x : Option A) (a : A) → cond b x None ≡ Some a → b ≡ true
three_so true x a e = refl
three_so false x a e = absurd (cc)

pub date_fields : (text : List ℕ) (n : ℤ) → date_value text ≡ Some n → Fields 4 45 text
date_fields text n e = (fields_decide 4 45 text).0 (three_so (is_three 4 45 text) _ n e)

pub date_has_form : DateHasForm
date_has_form text n e =
    let f = date_fields text n e in
    let l = f.0 in (
      take 4 text,
      take 2 (drop 5 text),
      take 2 (drop 8 text),
      (length-take-le 4 text (omega arith), f.1.1.1.0),
      (length-take-le 2 (drop 5 text) (rw (length-drop 5 text) (omega arith)), f.1.1.1.1.0),
      (length-take-le 2 (drop 8 text) (rw (length-drop 8 text) (omega arith)), f.1.1.1.1.1),
      parts 4 45 text f.0 f.1.0 f.1.1.0,
    )

clock_fields : (text : List ℕ) (n : ℕ) → clock_value text ≡ Some n → Fields 2 58 text
clock_fields text n e = (fields_decide 2 58 text).0 (three_so (is_three 2 58 text) _ n e)

-- ---- moments

module _ (date time more : List ℕ) (hd : length date ≡ 10) (ht : length time ≡ 8) where
  -- where the date and the time stand behind one another
  pub date_there : (sign : ℕ) → take 10 (date ++ sign ∷ (time ++ more)) ≡ date
  date_there sign = ap (λ k. take k (date ++ sign ∷ (time ++ more))) (sym hd) ∙ take-append_seam date (sign ∷ (time ++ more))

  pub time_there : (sign : ℕ) → take 8 (drop 11 (date ++ sign ∷ (time ++ more))) ≡ time
  time_there sign =
      ap (λ k. take 8 (drop (k + 1) (date ++ sign ∷ (time ++ more)))) (sym hd) ∙ ap (take 8) (drop-append-add date (sign ∷ (time ++ more)) 1)
      ∙ ap (λ k. take k (time ++ more)) (sym ht) ∙ take-append_seam time more

signs_there : (date time : List ℕ) → length date ≡ 10 → length time ≡ 8 → Signs (date ++ 84 ∷ (time ++ 90 ∷ []))
signs_there date time hd ht =
    let a = length-append date (84 ∷ (time ++ 90 ∷ [])) in
    let b = length-append time (90 ∷ []) in
    let t : get_or (date ++ 84 ∷ (time ++ 90 ∷ [])) 10 0 ≡ 84 = grind (arith, common_steps) in
    let z : get_or (date ++ 84 ∷ (time ++ 90 ∷ [])) 19 0 ≡ 90 = grind (arith, common_steps) in
    (omega arith, (t, z))

pub moment_is_read : MomentIsRead
moment_is_read date time day second d c =
    let hd = (date_fields date day d).0 in
    let ht = (clock_fields time second c).0 in
    sym (signed (date ++ 84 ∷ (time ++ 90 ∷ [])) (Some day) (Some second) (signs_there date time hd ht)
    (sym (ap date_value (date_there date time (90 ∷ []) hd ht 84) ∙ d)) (sym (ap clock_value (time_there date time (90 ∷ []) hd ht 84) ∙ c)))

signs_so : (text : List ℕ) (n : ℤ) → moment_value text ≡ Some n → (eqb (length text) 20 && (eqb (get_or text 10 0) 84 && eqb (get_or text 19 0) 90)) ≡ true
signs_so text n e = three_so _ (moment (date_value (take 10 text)) (clock_value (take 8 (drop 11 text)))) n e

both : (date : Option ℤ) (time : Option ℕ) (n : ℤ) → moment date time ≡ Some n → (day : ℤ) × (second : ℕ) × (date ≡ Some day) × (time ≡ Some second)
both (Some day) (Some second) n e = (day, second, refl, refl)
both None time n e = absurd (cc)
both (Some day) None n e = absurd (cc)

whole : (text : List ℕ) → Signs text → text ≡ take 10 text ++ 84 ∷ (take 8 (drop 11 text) ++ 90 ∷ [])
whole text s =
    let len = s.0 in
    let first : drop 10 text ≡ 84 ∷ drop 11 text = drop-cons text 10 0 (omega arith) ∙ ap (λ b. b ∷ drop 11 text) s.1.0 in
    let last : drop 19 text ≡ 90 ∷ [] = drop-cons text 19 0 (omega arith) ∙ ap (λ b. b ∷ drop 20 text) s.1.1 ∙ ap (λ xs. 90 ∷ xs) (drop_all 20 text (omega arith)) in
    let mid : drop 11 text ≡ take 8 (drop 11 text) ++ drop 19 text = sym (take-append-drop 8 (drop 11 text)) ∙ ap (λ z. take 8 (drop 11 text) ++ z) (drop-drop 8 11 text) in
    sym (take-append-drop 10 text) ∙ ap (λ z. take 10 text ++ z) (first ∙ ap (λ z. 84 ∷ z) (mid ∙ ap (λ z. take 8 (drop 11 text) ++ z) last))

pub moment_has_form : MomentHasForm
moment_has_form text n e =
    let t = signs_so text n e in
    let b = both (date_value (take 10 text)) (clock_value (take 8 (drop 11 text))) n (sym (ap (λ x. cond x (moment (date_value (take 10 text)) (clock_value (take 8 (drop 11 text)))) None) t) ∙ e) in
    (take 10 text, take 8 (drop 11 text), b.0, b.1, whole text ((signs_decide text).0 t), b.2, b.3)

pub stamp_is_moment : StampIsMoment
stamp_is_moment date time hd ht =
    let text = date ++ 32 ∷ time in
    let l : length text ≡ 19 = let a = length-append date (32 ∷ time) in omega arith in
    let blank : get_or text 10 0 ≡ 32 = grind (arith, common_steps) in
    let front : take 10 text ≡ date = ap (λ k. take k text) (sym hd) ∙ take-append_seam date (32 ∷ time) in
    let back : drop 11 text ≡ time = ap (λ k. drop (k + 1) text) (sym hd) ∙ drop-append-add date (32 ∷ time) 1 in
    ap (λ x. cond x (moment_value (zulu text)) None) (and_from _ _ (eq-eqb _ _ l) (eq-eqb _ _ blank)) ∙ (λ i. moment_value (front i ++ 84 ∷ (back i ++ 90 ∷ [])))
