-- The functions tell just the numbers that texts spell.
use Rattle.std.proofs.Common.{arith, ◌≡◌, ℕ, ◌<◌, ◌≤◌, ◌+◌, ◌*◌, ◌-◌, ◌^◌, ◌&&◌, Bool, true, false, cond, eqb, nat_lt, nat_le, Option, None, Some, option_map, option_and_then, MatchOption, IfSome, List, [], ◌∷◌, ◌++◌, length, get_or, eqb-true, ltb-true, lt-ltb, negsuc, unsigned_abs, Result, Ok, Err, le-leb, leb-true, ℤ, pos, neg_ℤ, refl, sym, ap, ap₂, ◌∙◌}
use Rattle.std.specs.Bool.{Decides}
use Rattle.std.specs.Prelude.{FitsSigned}
use Rattle.std.specs.Int.{w32, w64}
use Rattle.std.specs.Char.{digit_value}
use Rattle.std.specs.Str.Parse.{AllDigits, IsNumeral, digits_value}
use Rattle.std.proofs.lemmas.Bool.Decides.{Decides-and, Decides-ltb}
use Rattle.std.proofs.lemmas.Int.{ints}
use Rattle.apex_num.specs.Decimals.{Reads, sign, signed, Spells, IsSize, IsPart, after_dot}
use Rattle.std.specs.Result.{result_ok}
use Rattle.apex_num.specs.declared.dec.NumFault.{NumFault}
use Rattle.apex_num.specs.declared.dec.NumFault.TheVariants.{OutOfRange, DivideByZero, NotADecimal}
use Rattle.number_methods.specs.Methods.{IsWholeText}
use Rattle.number_methods.specs.Values.{only_if, integer_fits, long_fits, decimal_fits, are_digits, numeral, signed_value, whole_value, before_dot, from_dot, part_value, size_value, decimal_value}

digits_decide : (ds : List ℕ) → Decides (are_digits ds) (AllDigits 10 ds)
digits_decide [] = (λ _. tt, λ _. refl)
digits_decide (c ∷ cs) = Decides-and _ _ (Decides-ltb (digit_value c) 10) (digits_decide cs)

numeral_decide : (ds : List ℕ) → Decides (nat_lt 0 (length ds) && are_digits ds) (IsNumeral 10 ds)
numeral_decide ds = Decides-and _ _ (Decides-ltb 0 (length ds)) (digits_decide ds)

-- a numeral tells what it comes to
pub numeral_of : (ds : List ℕ) → IsNumeral 10 ds → numeral ds ≡ Some (digits_value 10 ds)
numeral_of ds h = rw ((numeral_decide ds).1 h) refl

numeral_by : (ds : List ℕ) (b : Bool) (n : ℕ) → (nat_lt 0 (length ds) && are_digits ds) ≡ b → cond b (Some (digits_value 10 ds)) None ≡ Some n → IsNumeral 10 ds × (n ≡ digits_value 10 ds)
numeral_by ds true n e h = ((numeral_decide ds).0 e, cc)
numeral_by ds false n e h = absurd (cc)

pub numeral_is : (ds : List ℕ) (n : ℕ) → numeral ds ≡ Some n → IsNumeral 10 ds × (n ≡ digits_value 10 ds)
numeral_is ds n h = numeral_by ds _ n refl h

none_numeral : (ds : List ℕ) (b : Bool) → (nat_lt 0 (length ds) && are_digits ds) ≡ b → cond b (Some (digits_value 10 ds)) None ≡ None → IsNumeral 10 ds → ⊥
none_numeral ds true e h n = absurd (cc)
none_numeral ds false e h n = let t = (numeral_decide ds).1 n in absurd (cc)

pub not_numeral : (ds : List ℕ) → numeral ds ≡ None → IsNumeral 10 ds → ⊥
not_numeral ds h = none_numeral ds _ refl h

-- ---- signs

not_eqb : (a n : ℕ) → (a ≡ n → ⊥) → eqb a n ≡ false
not_eqb a n h = by (eqb a n) refl
  where
    by : (t : Bool) → eqb a n ≡ t → t ≡ false
    by true e = absurd (h (eqb-true a n e))
    by false e = refl

some_map : {A B : Type 0} (f : A → B) (o : Option A) (b : B) → option_map f o ≡ Some b → (a : A) × (o ≡ Some a) × (b ≡ f a)
some_map f (Some a) b e = (a, refl, cc)
some_map f None b e = absurd (cc)

-- the size of the text is written behind an optional `-`
abbrev pub Signed : (List ℕ → ℕ → Type 0) → List ℕ → ℤ → Type 0
Signed Of text z = (minus : Bool) × (body : List ℕ) × (n : ℕ) × (text ≡ sign minus ++ body) × Of body n × (z ≡ signed minus n)

module _ (Of : List ℕ → ℕ → Type 0) (size : List ℕ → Option ℕ)
    (to : (body : List ℕ) (n : ℕ) → Of body n → size body ≡ Some n) (from : (body : List ℕ) (n : ℕ) → size body ≡ Some n → Of body n)
    (start : (body : List ℕ) (n : ℕ) → Of body n → (cs : List ℕ) → body ≡ 45 ∷ cs → ⊥) where
  plain : (body : List ℕ) (n : ℕ) → Of body n → signed_value size body ≡ Some (pos n)
  plain [] n h = ap (option_map pos) (to [] n h)
  plain (c ∷ cs) n h = rw (not_eqb c 45 (λ e. start (c ∷ cs) n h cs (ap (λ x. x ∷ cs) e))) (ap (option_map pos) (to (c ∷ cs) n h))

  pub signed_to : (text : List ℕ) (z : ℤ) → Signed Of text z → signed_value size text ≡ Some z
  signed_to text z (false, body, n, w, h, e) = ap (signed_value size) w ∙ plain body n h ∙ ap Some (sym e)
  signed_to text z (true, body, n, w, h, e) = ap (signed_value size) w ∙ ap (option_map (λ k. neg_ℤ (pos k))) (to body n h) ∙ ap Some (sym e)

  by_sign : (c : ℕ) (cs : List ℕ) (z : ℤ) (b : Bool) → eqb c 45 ≡ b → cond b (option_map (λ n. neg_ℤ (pos n)) (size cs)) (option_map pos (size (c ∷ cs))) ≡ Some z → Signed Of (c ∷ cs) z
  by_sign c cs z true e h = let m = some_map (λ n. neg_ℤ (pos n)) (size cs) z h in (true, cs, m.0, ap (λ x. x ∷ cs) (eqb-true c 45 e), from cs m.0 m.1, m.2)
  by_sign c cs z false e h = let m = some_map pos (size (c ∷ cs)) z h in (false, c ∷ cs, m.0, refl, from (c ∷ cs) m.0 m.1, m.2)

  pub signed_from : (text : List ℕ) (z : ℤ) → signed_value size text ≡ Some z → Signed Of text z
  signed_from [] z h = let m = some_map pos (size []) z h in (false, [], m.0, refl, from [] m.0 m.1, m.2)
  signed_from (c ∷ cs) z h = by_sign c cs z _ refl h

-- ---- whole numbers

abbrev Whole : List ℕ → ℕ → Type 0
Whole body n = IsNumeral 10 body × (n ≡ digits_value 10 body)

digit_from : (c : ℕ) → digit_value c < 10 → 48 ≤ c
digit_from c h = grind arith

minus_no_digit : (ds : List ℕ) → AllDigits 10 ds → (cs : List ℕ) → ds ≡ 45 ∷ cs → ⊥
minus_no_digit [] d cs e = absurd (cc)
minus_no_digit (c ∷ ds) d cs e = let k = digit_from c d.0 in let h = ap (λ xs. get_or xs 0 0) e in absurd (omega arith)

pub whole_told : (text : List ℕ) (z : ℤ) → IsWholeText text z → whole_value text ≡ Some z
whole_told text z t =
    signed_to Whole numeral (λ b n h. numeral_of b h.0 ∙ ap Some (sym h.1)) numeral_is (λ b n h. minus_no_digit b h.0.1) text z
    (t.minus, t.digits, digits_value 10 t.digits, t.written, (t.numeral, refl), t.value)

pub whole_is : (text : List ℕ) (z : ℤ) → whole_value text ≡ Some z → IsWholeText text z
whole_is text z h =
    let s = signed_from Whole numeral (λ b n h. numeral_of b h.0 ∙ ap Some (sym h.1)) numeral_is (λ b n h. minus_no_digit b h.0.1) text z h in
    record { minus = s.0; digits = s.1; written = s.3; numeral = s.4.0; value = s.5 ∙ ap (signed s.0) s.4.1 }

-- ---- Decimals

split_dot : (bs : List ℕ) → bs ≡ before_dot bs ++ from_dot bs
split_dot [] = refl
split_dot (c ∷ cs) = by (eqb c 46) (split_dot cs)
  where
    by : (b : Bool) → cs ≡ before_dot cs ++ from_dot cs → c ∷ cs ≡ cond b [] (c ∷ before_dot cs) ++ cond b (c ∷ cs) (from_dot cs)
    by true ih = refl
    by false ih = ap (λ x. c ∷ x) ih

-- what stands from the first dot on is nothing, or begins with it
dot_first : (bs ds : List ℕ) (d : ℕ) → from_dot bs ≡ d ∷ ds → d ≡ 46
dot_first [] ds d e = absurd (cc)
dot_first (c ∷ cs) ds d e = by (eqb c 46) refl (dot_first cs ds d) e
  where
    by : (b : Bool) → eqb c 46 ≡ b → (from_dot cs ≡ d ∷ ds → d ≡ 46) → cond b (c ∷ cs) (from_dot cs) ≡ d ∷ ds → d ≡ 46
    by true q ih h = let k = eqb-true c 46 q in let f = ap (λ xs. get_or xs 0 0) h in omega arith
    by false q ih h = ih h

front_digits : (whole part : List ℕ) → AllDigits 10 whole → before_dot (whole ++ after_dot part) ≡ whole
front_digits [] [] d = refl
front_digits [] (p ∷ ps) d = refl
front_digits (c ∷ cs) part d = rw (not_eqb c 46 (λ e. let k = digit_from c d.0 in omega arith)) (ap (λ x. c ∷ x) (front_digits cs part d.1))

back_digits : (whole part : List ℕ) → AllDigits 10 whole → from_dot (whole ++ after_dot part) ≡ after_dot part
back_digits [] [] d = refl
back_digits [] (p ∷ ps) d = refl
back_digits (c ∷ cs) part d = rw (not_eqb c 46 (λ e. let k = digit_from c d.0 in omega arith)) (back_digits cs part d.1)

part_told : (text : List ℕ) (c : ℕ) → IsPart text c → part_value text ≡ Some c
part_told text c h = ap part_value h.written ∙ by h.part h.digits h.short ∙ ap Some (sym h.value)
  where
    by : (ds : List ℕ) → AllDigits 10 ds → length ds ≤ 6 → part_value (after_dot ds) ≡ Some (digits_value 10 ds * 10 ^ (6 - length ds))
    by [] d s = refl
    by (x ∷ xs) d s = rw (le-leb (length (x ∷ xs)) 6 s) (ap (option_map (λ n. n * 10 ^ (6 - length (x ∷ xs)))) (numeral_of (x ∷ xs) (omega arith, d)))

dotted : (ds : List ℕ) → 0 < length ds → 46 ∷ ds ≡ after_dot ds
dotted [] h = absurd (omega arith)
dotted (d ∷ ds) h = refl

part_is : (bs : List ℕ) (c : ℕ) → part_value (from_dot bs) ≡ Some c → IsPart (from_dot bs) c
part_is bs c h = by (from_dot bs) (λ d ds. dot_first bs ds d) h
  where
    some : (d : ℕ) (ds : List ℕ) (b : Bool) → nat_le (length ds) 6 ≡ b → d ≡ 46 → cond b (option_map (λ n. n * 10 ^ (6 - length ds)) (numeral ds)) None ≡ Some c → IsPart (d ∷ ds) c
    some d ds true q e k =
        let m = some_map (λ n. n * 10 ^ (6 - length ds)) (numeral ds) c k in
        let n = numeral_is ds m.0 m.1 in
        record { part = ds; written = ap (λ x. x ∷ ds) e ∙ dotted ds n.0.0; digits = n.0.1; short = leb-true (length ds) 6 q; value = m.2 ∙ ap (λ x. x * 10 ^ (6 - length ds)) n.1 }
    some d ds false q e k = absurd (cc)

    by : (t : List ℕ) → ((d : ℕ) (ds : List ℕ) → t ≡ d ∷ ds → d ≡ 46) → part_value t ≡ Some c → IsPart t c
    by [] f k = record { part = []; written = refl; digits = tt; short = omega arith; value = cc }
    by (d ∷ ds) f k = some d ds _ refl (f d ds refl) k

some_then : {A B : Type 0} (f : A → Option B) (o : Option A) (b : B) → option_and_then f o ≡ Some b → (a : A) × (o ≡ Some a) × (f a ≡ Some b)
some_then f (Some a) b e = (a, refl, e)
some_then f None b e = absurd (cc)

size_told : (text : List ℕ) (c : ℕ) → IsSize text c → size_value text ≡ Some c
size_told text c h =
    let p = h.rest in
    let t : text ≡ h.whole ++ after_dot p.part = h.written ∙ ap (λ x. h.whole ++ x) p.written in
    let front : before_dot text ≡ h.whole = ap before_dot t ∙ front_digits h.whole p.part h.digits.1 in
    let back : from_dot text ≡ h.after = ap from_dot t ∙ back_digits h.whole p.part h.digits.1 ∙ sym p.written in
    ap₂ (λ x y. option_and_then (λ whole. option_map (λ part. whole * 1000000 + part) y) x) (ap numeral front ∙ numeral_of h.whole h.digits) (ap part_value back ∙ part_told h.after h.millionths p)
    ∙ ap Some (sym h.value)

size_is : (text : List ℕ) (c : ℕ) → size_value text ≡ Some c → IsSize text c
size_is text c h =
    let w = some_then (λ whole. option_map (λ part. whole * 1000000 + part) (part_value (from_dot text))) (numeral (before_dot text)) c h in
    let p = some_map (λ part. w.0 * 1000000 + part) (part_value (from_dot text)) c w.2 in
    let n = numeral_is (before_dot text) w.0 w.1 in
    record { whole = before_dot text; after = from_dot text; millionths = p.0; written = split_dot text; digits = n.0; rest = part_is text p.0 p.1; value = p.2 ∙ ap (λ x. x * 1000000 + p.0) n.1 }

minus_no_size : (body : List ℕ) (n : ℕ) → IsSize body n → (cs : List ℕ) → body ≡ 45 ∷ cs → ⊥
minus_no_size body n h cs e = by h.whole h.digits.0 h.digits.1 (sym h.written ∙ e)
  where
    by : (ds : List ℕ) → 0 < length ds → AllDigits 10 ds → ds ++ h.after ≡ 45 ∷ cs → ⊥
    by [] l d q = absurd (omega arith)
    by (d ∷ ds) l g q = let k = digit_from d g.0 in let f = ap (λ xs. get_or xs 0 0) q in absurd (omega arith)

pub decimal_told : (text : List ℕ) (c : ℤ) → Spells text c → decimal_value text ≡ Some c
decimal_told text c t = signed_to IsSize size_value size_told size_is minus_no_size text c (t.minus, t.body, t.size, t.written, t.rest, t.value)

pub decimal_is : (text : List ℕ) (c : ℤ) → decimal_value text ≡ Some c → Spells text c
decimal_is text c h =
    let s = signed_from IsSize size_value size_told size_is minus_no_size text c h in
    record { minus = s.0; body = s.1; size = s.2; written = s.3; rest = s.4; value = s.5 }

-- ---- what a reading answers

no_whole : (text : List ℕ) (o : Option ℤ) (p : ℤ → Bool) → ((z : ℤ) → o ≡ Some z → p z ≡ true → ⊥) → None ≡ only_if p o
no_whole text None p h = refl
no_whole text (Some z) p h = by (p z) refl
  where
    by : (b : Bool) → p z ≡ b → None ≡ cond b (Some z) None
    by true e = absurd (h z refl e)
    by false e = refl

pub read_answer : (text : List ℕ) (r : Option ℤ) (p : ℤ → Bool) (F : ℤ → Type 0) → ((z : ℤ) → Decides (p z) (F z)) → MatchOption r ((z : ℤ) → IsWholeText text z → F z → ⊥) (λ n. IsWholeText text n) → IfSome r F
    → r ≡ only_if p (whole_value text)
read_answer text (Some n) p F d h f = sym (ap (only_if p) (whole_told text n h) ∙ rw ((d n).1 f) refl)
read_answer text None p F d h f = no_whole text (whole_value text) p (λ z e t. h z (whole_is text z e) ((d z).0 t))

-- what reading a Decimal answers
pub decimal_answer : (text : List ℕ) (r : Result ℤ NumFault) → Reads text r → result_ok r ≡ only_if decimal_fits (decimal_value text)
decimal_answer text (Ok d) h = sym (ap (only_if decimal_fits) (decimal_told text d h.0) ∙ rw (lt-ltb (unsigned_abs d) (10 ^ 19) h.1) refl)
decimal_answer text (Err OutOfRange) h = sym (ap (only_if decimal_fits) (decimal_told text h.0 h.1) ∙ by (decimal_fits h.0) refl)
  where
    by : (b : Bool) → decimal_fits h.0 ≡ b → cond b (Some h.0) None ≡ None
    by true e = absurd (h.2 (ltb-true (unsigned_abs h.0) (10 ^ 19) e))
    by false e = refl
decimal_answer text (Err DivideByZero) h = absurd h
decimal_answer text (Err NotADecimal) h = by (decimal_value text) refl
  where
    by : (o : Option ℤ) → decimal_value text ≡ o → None ≡ only_if decimal_fits o
    by None e = refl
    by (Some c) e = absurd (h c (decimal_is text c e))

-- ---- ranges

pub integer_decide : (z : ℤ) → Decides (integer_fits z) (FitsSigned w32 z)
integer_decide (pos n) = (λ t. let h = ltb-true n (2 ^ 31) t in omega (arith, ints), λ h. lt-ltb n (2 ^ 31) (omega (arith, ints)))
integer_decide (negsuc n) = (λ t. let h = ltb-true n (2 ^ 31) t in omega (arith, ints), λ h. lt-ltb n (2 ^ 31) (omega (arith, ints)))

pub long_decide : (z : ℤ) → Decides (long_fits z) (FitsSigned w64 z)
long_decide (pos n) = (λ t. let h = ltb-true n (2 ^ 63) t in omega (arith, ints), λ h. lt-ltb n (2 ^ 63) (omega (arith, ints)))
long_decide (negsuc n) = (λ t. let h = ltb-true n (2 ^ 63) t in omega (arith, ints), λ h. lt-ltb n (2 ^ 63) (omega (arith, ints)))
