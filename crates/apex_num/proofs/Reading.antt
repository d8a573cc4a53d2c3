-- Digits, and what they come to.
use Rattle.std.proofs.Common.{arith, ◌≡◌, ◌+◌, ◌-◌, ◌*◌, ◌^◌, ◌<◌, ◌≤◌, ◌++◌, ℕ, zero, suc, List, [], ◌∷◌, length, take, drop, min, get_or, ℤ, pos, unsigned_abs, ◌⊎◌, ⊎_elim, Result, Ok, Err, Option, None, Some, MatchOption, refl, sym, ap, subst, ◌∙◌, inl, inr, Bool, true, false}
use Rattle.std.specs.Char.{digit_value}
use Rattle.std.specs.Int.{IsInRange}
use Rattle.std.specs.Str.Parse.{AllDigits, IsNumeral, digits_value}
use Rattle.std.proofs.lemmas.Int.Digits.{digits_more, digits_value_more, digits_value-lt}
use Rattle.std.proofs.Math.Nat.{mul-lt-mul_of_pos_right, one-le-pow, pow-le-pow_right}
use Rattle.std.proofs.Math.IntN.{neg_ℤ}
use Rattle.std.proofs.Math.Pow.{pow-add}
use Rattle.apex_num.specs.declared.dec.NumFault.{NumFault}
use Rattle.apex_num.specs.declared.dec.NumFault.TheVariants.{NotADecimal}
use Rattle.apex_num.specs.Decimals.{IsDecimal, Answers, Reads, IsPart, IsSize, Spells, after_dot, sign, signed}
use Rattle.std.proofs.lemmas.Str.{digit_value_digit}
use Rattle.std.proofs.lemmas.List.{take-append-drop, length-take}
use Rattle.std.proofs.Math.Seq.{drop-append_seam, take-length}

capped : (n v w d most : ℕ) → v ≡ min n most → w ≡ min (v * 10 + d) most → w ≡ min (n * 10 + d) most
capped n v w d most e f = omega arith

pub more_digits : (text : List ℕ) (i v w : ℕ) → i < length text → AllDigits 10 (take i text) → IsInRange 48 57 (get_or text i 0) → v ≡ min (digits_value 10 (take i text)) 10000000000000
    → w ≡ min (v * 10 + (get_or text i 0 - 48)) 10000000000000 → AllDigits 10 (take (i + 1) text) × (w ≡ min (digits_value 10 (take (i + 1) text)) 10000000000000)
more_digits text i v w h all digit e f =
    let is : digit_value (get_or text i 0) + 48 ≡ get_or text i 0 = digit_value_digit (get_or text i 0) digit in
    let low : 48 ≤ get_or text i 0 = omega arith in
    let below : digit_value (get_or text i 0) < 10 = omega arith in (
      digits_more 10 text i h all below,
      rw (digits_value_more 10 text i h) (capped (digits_value 10 (take i text)) v w (digit_value (get_or text i 0)) 10000000000000 e (omega arith)),
    )

digit_at : (ds : List ℕ) (i : ℕ) → AllDigits 10 ds → i < length ds → digit_value (get_or ds i 0) < 10
digit_at [] i all h = absurd (omega arith)
digit_at (d ∷ ds) zero all h = all.0
digit_at (d ∷ ds) (suc i) all h = digit_at ds i all.1 (omega arith)

-- ---- the part after the dot

-- what stands behind the first byte of a part
pub part_rest : (text part : List ℕ) → text ≡ after_dot part → 0 < length text → (part ≡ drop 1 text) × (get_or text 0 0 ≡ 46) × (0 < length (drop 1 text))
part_rest text [] e h = absurd (let k = ap length e in omega arith)
part_rest text (d ∷ ds) e h = (sym (ap (drop 1) e), ap (λ t. get_or t 0 0) e, rw (ap (drop 1) e) (omega arith))

dotted : (text : List ℕ) → get_or text 0 0 ≡ 46 → 0 < length (drop 1 text) → text ≡ after_dot (drop 1 text)
dotted [] is h = absurd (omega arith)
dotted (t ∷ []) is h = absurd (omega arith)
dotted (t ∷ d ∷ ds) is h = rw is refl

pub no_part : IsPart [] 0
no_part = record { part = []; written = refl; digits = tt; short = omega arith; value = refl }

pub some_part : (text : List ℕ) (c : ℕ) → get_or text 0 0 ≡ 46 → 0 < length (drop 1 text) → length (drop 1 text) ≤ 6 → AllDigits 10 (drop 1 text) → c ≡ digits_value 10 (drop 1 text) * 10 ^ (6 - length (drop 1 text)) → IsPart text c
some_part text c is some short all e = record { part = drop 1 text; written = dotted text is some; digits = all; short = short; value = e }

pub part_starts : (text : List ℕ) (c : ℕ) → 0 < length text → IsPart text c → get_or text 0 0 ≡ 46
part_starts text c h p = (part_rest text p.part p.written h).1

pub part_fits : (text : List ℕ) (c : ℕ) → 0 < length text → IsPart text c → (0 < length (drop 1 text)) × (length (drop 1 text) ≤ 6) × AllDigits 10 (drop 1 text)
part_fits text c h p =
    let rest = part_rest text p.part p.written h in
    (rest.2, subst (λ ds. length ds ≤ 6) rest.0 p.short, subst (AllDigits 10) rest.0 p.digits)

pub part_below : (text : List ℕ) (c : ℕ) → IsPart text c → c < 1000000
part_below text c p =
    let small : digits_value 10 p.part < 10 ^ length p.part = digits_value-lt 10 p.part p.digits in
    let short = p.short in
    let times : digits_value 10 p.part * 10 ^ (6 - length p.part) < 10 ^ length p.part * 10 ^ (6 - length p.part) = mul-lt-mul_of_pos_right small (one-le-pow (6 - length p.part) 10 (omega arith)) in
    let sum : length p.part + (6 - length p.part) ≡ 6 = omega arith in
    let whole : 10 ^ length p.part * 10 ^ (6 - length p.part) ≡ 10 ^ 6 = sym (pow-add 10 (length p.part) (6 - length p.part)) ∙ ap (λ k. 10 ^ k) sum in
    rw p.value (subst (λ m. digits_value 10 p.part * 10 ^ (6 - length p.part) < m) whole times)

-- ---- the whole part

-- digits that end where the text has none are the digits before the dot
same_split : (whole part : List ℕ) (n : ℕ) → AllDigits 10 whole → AllDigits 10 (take n (whole ++ after_dot part)) → n ≤ length (whole ++ after_dot part)
    → (n < length (whole ++ after_dot part) → 10 ≤ digit_value (get_or (whole ++ after_dot part) n 0)) → n ≡ length whole
same_split [] [] n all taken h end = omega arith
same_split [] (d ∷ ds) zero all taken h end = refl
same_split [] (d ∷ ds) (suc n) all taken h end = absurd (let k : 36 < 10 = taken.0 in omega arith)
same_split (w ∷ ws) part zero all taken h end = absurd (let k : 10 ≤ digit_value w = end (omega arith) in let j = all.0 in omega arith)
same_split (w ∷ ws) part (suc n) all taken h end = ap suc (same_split ws part n all.1 taken.1 (omega arith) (λ g. end (omega arith)))

-- a text is digits and a part in one way
halves : (whole part other rest : List ℕ) → AllDigits 10 whole → AllDigits 10 other → whole ++ after_dot part ≡ other ++ after_dot rest → (whole ≡ other) × (part ≡ rest)
halves [] [] [] [] all also e = (refl, refl)
halves [] [] [] (r ∷ rs) all also e = absurd (let k = ap length e in omega arith)
halves [] (d ∷ ds) [] [] all also e = absurd (let k = ap length e in omega arith)
halves [] (d ∷ ds) [] (r ∷ rs) all also e = (refl, ap (drop 1) e)
halves [] [] (o ∷ os) rest all also e = absurd (let k = ap length e in omega arith)
halves [] (d ∷ ds) (o ∷ os) rest all also e =
    absurd (let head : 46 ≡ o = ap (λ t. get_or t 0 0) e in let small : digit_value 46 < 10 = subst (λ b. digit_value b < 10) (sym head) also.0 in let k : 36 < 10 = small in omega arith)
halves (w ∷ ws) part [] [] all also e = absurd (let k = ap length e in omega arith)
halves (w ∷ ws) part [] (r ∷ rs) all also e =
    absurd (let head : w ≡ 46 = ap (λ t. get_or t 0 0) e in let small : digit_value 46 < 10 = subst (λ b. digit_value b < 10) head all.0 in let k : 36 < 10 = small in omega arith)
halves (w ∷ ws) part (o ∷ os) rest all also e =
    let rest_same = halves ws part os rest all.1 also.1 (ap (drop 1) e) in
    (ap2 w o ws os (ap (λ t. get_or t 0 0) e) rest_same.0, rest_same.1)
  where
    ap2 : (a b : ℕ) (xs ys : List ℕ) → a ≡ b → xs ≡ ys → a ∷ xs ≡ b ∷ ys
    ap2 a b xs ys h t = rw h (rw t refl)

digits_of_size : (text : List ℕ) (c : ℕ) (s : IsSize text c) → text ≡ s.whole ++ after_dot s.rest.part
digits_of_size text c s = s.written ∙ ap (λ t. s.whole ++ t) s.rest.written

-- a text comes to one number
pub one_size : (text : List ℕ) (c d : ℕ) → IsSize text c → IsSize text d → c ≡ d
one_size text c d s t =
    let same = halves s.whole s.rest.part t.whole t.rest.part s.digits.1 t.digits.1 (sym (digits_of_size text c s) ∙ digits_of_size text d t) in
    let whole : digits_value 10 s.whole ≡ digits_value 10 t.whole = ap (digits_value 10) same.0 in
    let part : s.millionths ≡ t.millionths = s.rest.value ∙ ap (λ ds. digits_value 10 ds * 10 ^ (6 - length ds)) same.1 ∙ sym t.rest.value in
    s.value ∙ (rw whole (rw part (sym t.value)))

-- its first byte is a digit
pub size_starts : (text : List ℕ) (c : ℕ) → IsSize text c → (0 < length text) × (digit_value (get_or text 0 0) < 10)
size_starts text c s = starts s.whole s.after s.digits text s.written
  where
    starts : (whole after : List ℕ) → IsNumeral 10 whole → (t : List ℕ) → t ≡ whole ++ after → (0 < length t) × (digit_value (get_or t 0 0) < 10)
    starts [] after n t e = absurd (let k = n.0 in omega arith)
    starts (w ∷ ws) after n t e = rw e (omega arith, n.1.0)

module _ (text : List ℕ) (n : ℕ) (within : n ≤ length text) (digits : AllDigits 10 (take n text)) (end : n < length text → 10 ≤ digit_value (get_or text n 0)) where
  -- where it comes to a number, the digits at its start are the whole part, and the rest is the part after the dot
  pub size_part : (c : ℕ) → IsSize text c → (0 < n) × (p : ℕ) × IsPart (drop n text) p
  size_part c s =
      let e = digits_of_size text c s in
      let len : n ≡ length s.whole = same_split s.whole s.rest.part n s.digits.1 (subst (λ t. AllDigits 10 (take n t)) e digits) (subst (λ t. n ≤ length t) e within) (subst (λ t. n < length t → 10 ≤ digit_value (get_or t n 0)) e end) in
      let some = s.digits.0 in
      (omega arith, s.millionths, subst (λ t. IsPart t s.millionths) (sym (after_is s.whole s.after text n s.written len)) s.rest)
    where
      after_is : (whole after t : List ℕ) (m : ℕ) → t ≡ whole ++ after → m ≡ length whole → drop m t ≡ after
      after_is whole after t m e l = rw e (rw l (drop-append_seam whole after))

  -- and such a text comes to what the two come to
  pub size_whole : (p : ℕ) → 0 < n → IsPart (drop n text) p → IsSize text (digits_value 10 (take n text) * 1000000 + p)
  size_whole p h s = record { whole = take n text; after = drop n text; millionths = p; written = sym (take-append-drop n text); digits = (rw (length-take n text) (omega arith), digits); rest = s; value = refl }

-- what the call keeps of a number that may be too great
pub kept_size : (w v p : ℕ) → v ≡ min w 10000000000000 → p < 1000000 → (w * 1000000 + p < 10 ^ 19 → v * 1000000 + p ≡ w * 1000000 + p) × (10 ^ 19 ≤ w * 1000000 + p → 10 ^ 19 ≤ v * 1000000 + p)
kept_size w v p e h = (λ small. omega arith, λ great. omega arith)

-- ---- the sign

-- a text without `-` in front spells what it comes to
pub plain_spells : (text : List ℕ) (c : ℤ) → (get_or text 0 0 ≡ 45 → ⊥) → Spells text c → (k : ℕ) × IsSize text k × (c ≡ pos k)
plain_spells text c not s = by_sign s.minus s.body s.size s.written s.rest s.value
  where
    by_sign : (minus : Bool) (body : List ℕ) (size : ℕ) → text ≡ sign minus ++ body → IsSize body size → c ≡ signed minus size → (k : ℕ) × IsSize text k × (c ≡ pos k)
    by_sign false body size e r v = (size, subst (λ t. IsSize t size) (sym e) r, v)
    by_sign true body size e r v = absurd (not (ap (λ t. get_or t 0 0) e))

pub minus_spells : (text : List ℕ) (c : ℤ) → get_or text 0 0 ≡ 45 → Spells text c → (k : ℕ) × IsSize (drop 1 text) k × (c ≡ neg_ℤ (pos k))
minus_spells text c is s = by_sign s.minus s.body s.size s.written s.rest s.value
  where
    by_sign : (minus : Bool) (body : List ℕ) (size : ℕ) → text ≡ sign minus ++ body → IsSize body size → c ≡ signed minus size → (k : ℕ) × IsSize (drop 1 text) k × (c ≡ neg_ℤ (pos k))
    by_sign true body size e r v = (size, subst (λ t. IsSize t size) (sym (ap (drop 1) e)) r, v)
    by_sign false body size e r v =
        absurd (let starts = size_starts body size r in let first : get_or body 0 0 ≡ 45 = ap (λ t. get_or t 0 0) (sym e) ∙ is in
        let small : digit_value 45 < 10 = subst (λ b. digit_value b < 10) first starts.1 in let k : 36 < 10 = small in omega arith)

pub spells_plain : (text : List ℕ) (k : ℕ) → IsSize text k → Spells text (pos k)
spells_plain text k s = record { minus = false; body = text; size = k; written = refl; rest = s; value = refl }

minus_first : (text : List ℕ) → 0 < length text → get_or text 0 0 ≡ 45 → text ≡ sign true ++ drop 1 text
minus_first [] h is = absurd (omega arith)
minus_first (t ∷ ts) h is = rw is refl

pub spells_minus : (text : List ℕ) (k : ℕ) → 0 < length text → get_or text 0 0 ≡ 45 → IsSize (drop 1 text) k → Spells text (neg_ℤ (pos k))
spells_minus text k h is s = record { minus = true; body = drop 1 text; size = k; written = minus_first text h is; rest = s; value = refl }

-- ---- what the calls answer

pub no_digits : (text rest : List ℕ) (n : ℕ) → 0 < length text → rest ≡ drop 1 text → n < length rest → (n < length rest → 10 ≤ digit_value (get_or rest n 0)) → (c : ℕ) → IsPart text c → ⊥
no_digits text rest n some is short end c p =
    let fits = part_fits text c some p in
    let all : AllDigits 10 rest = subst (AllDigits 10) (sym is) fits.2 in
    let small = digit_at rest n all short in
    let great = end short in
    omega arith

taken_all : (rest : List ℕ) (n : ℕ) → length rest ≤ n → n ≤ length rest → (n ≡ length rest) × (take n rest ≡ rest)
taken_all rest n low high = let e : n ≡ length rest = omega arith in (e, rw e (take-length rest))

pub part_answer : (text rest : List ℕ) (n v q : ℕ) → get_or text 0 0 ≡ 46 → rest ≡ drop 1 text → 0 < length rest → length rest ≤ 6 → length rest ≤ n → n ≤ length rest
    → AllDigits 10 (take n rest) → v ≡ min (digits_value 10 (take n rest)) 10000000000000 → q ≡ 10 ^ (6 - n) → IsPart text (v * q)
part_answer text rest n v q dot is some short low high all e f =
    let taken = taken_all rest n low high in
    let digits : AllDigits 10 rest = subst (AllDigits 10) taken.1 all in
    let small : digits_value 10 rest < 10 ^ length rest = digits_value-lt 10 rest digits in
    let most : 10 ^ length rest ≤ 10 ^ 6 = pow-le-pow_right (omega arith) short in
    let value : v ≡ digits_value 10 rest = e ∙ ap (λ t. min (digits_value 10 t) 10000000000000) taken.1 ∙ omega arith in
    some_part text (v * q) dot (subst (λ t. 0 < length t) is some) (subst (λ t. length t ≤ 6) is short) (subst (AllDigits 10) is digits)
    (ap2 value (f ∙ ap (λ k. 10 ^ (6 - k)) taken.0) ∙ ap (λ t. digits_value 10 t * 10 ^ (6 - length t)) is)
  where
    ap2 : {a b c d : ℕ} → a ≡ b → c ≡ d → a * c ≡ b * d
    ap2 g h = rw g (rw h refl)

pub small_part : (text : List ℕ) (c : ℕ) → IsPart text c → c < 2 ^ 64
small_part text c p = let b = part_below text c p in omega arith

module _ (text : List ℕ) (n v : ℕ) (within : n ≤ length text) (digits : AllDigits 10 (take n text)) (end : n < length text → 10 ≤ digit_value (get_or text n 0)) (value : v ≡ min (digits_value 10 (take n text)) 10000000000000) where
  pub size_answer : (rest : List ℕ) (p : ℕ) → 0 < n → rest ≡ drop n text → IsPart rest p → p < 1000000
      → (c : ℕ) × IsSize text c × (c < 10 ^ 19 → v * 1000000 + p ≡ c) × (10 ^ 19 ≤ c → 10 ^ 19 ≤ v * 1000000 + p)
  size_answer rest p h is s small =
      let kept = kept_size (digits_value 10 (take n text)) v p value small in
      (digits_value 10 (take n text) * 1000000 + p, size_whole text n within digits end p h (subst (λ t. IsPart t p) is s), kept.0, kept.1)

  pub no_size : (rest : List ℕ) → rest ≡ drop n text → ((c : ℕ) → IsPart rest c → ⊥) → (c : ℕ) → IsSize text c → ⊥
  no_size rest is none c s = let part = size_part text n within digits end c s in none part.1 (subst (λ t. IsPart t part.1) (sym is) part.2)

one_spelling : (text : List ℕ) (c d : ℤ) → Spells text c → Spells text d → c ≡ d
one_spelling text c d s t = by_sign s.minus s.body s.size s.written s.rest s.value
  where
    by_sign : (minus : Bool) (body : List ℕ) (size : ℕ) → text ≡ sign minus ++ body → IsSize body size → c ≡ signed minus size → c ≡ d
    by_sign true body size e r v =
        let other = minus_spells text d (ap (λ u. get_or u 0 0) e) t in
        v ∙ ap (λ k. neg_ℤ (pos k)) (one_size body size other.0 r (subst (λ u. IsSize u other.0) (ap (drop 1) e) other.1)) ∙ sym other.2
    by_sign false body size e r v =
        let other = plain_spells text d (λ is. not_minus body size r (sym (ap (λ u. get_or u 0 0) e) ∙ is)) t in
        v ∙ ap pos (one_size body size other.0 r (subst (λ u. IsSize u other.0) e other.1)) ∙ sym other.2
      where
        not_minus : (b : List ℕ) (k : ℕ) → IsSize b k → get_or b 0 0 ≡ 45 → ⊥
        not_minus b k r is = let starts = size_starts b k r in let small : digit_value 45 < 10 = subst (λ x. digit_value x < 10) is starts.1 in let j : 36 < 10 = small in omega arith

small_or_big : (a b : ℕ) → (b ≤ a) ⊎ (a < b)
small_or_big zero zero = inl (omega arith)
small_or_big zero (suc b) = inr (omega arith)
small_or_big (suc a) zero = inl (omega arith)
small_or_big (suc a) (suc b) = ⊎_elim (λ p. inl (omega arith)) (λ q. inr (omega arith)) (small_or_big a b)

pub size_of_signed : (minus : Bool) (c : ℕ) → unsigned_abs (signed minus c) ≡ c
size_of_signed false c = refl
size_of_signed true zero = refl
size_of_signed true (suc c) = refl

-- a number that the call kept answers as the number itself
wide : (minus : Bool) (c n : ℕ) (r : Result ℤ NumFault) → (c < 10 ^ 19 → n ≡ c) → (10 ^ 19 ≤ c → 10 ^ 19 ≤ n) → Answers (signed minus n) r → Answers (signed minus c) r
wide minus c n r same great a = ⊎_elim (λ big. out r a (great big) big) (λ small. subst (λ k. Answers (signed minus k) r) (same small) a) (small_or_big c (10 ^ 19))
  where
    out : (r : Result ℤ NumFault) → Answers (signed minus n) r → 10 ^ 19 ≤ n → 10 ^ 19 ≤ c → Answers (signed minus c) r
    out (Ok d) k more big = absurd (let low = k.1 in let size = size_of_signed minus n in omega arith)
    out (Err f) k more big = (k.0, λ low. let size = size_of_signed minus c in omega arith)

reads_from : (text : List ℕ) (c : ℤ) (r : Result ℤ NumFault) → Spells text c → Answers c r → Reads text r
reads_from text c (Ok d) s a = (subst (Spells text) (sym a.0) s, subst IsDecimal (sym a.0) a.1)
reads_from text c (Err f) s a = subst (λ g. Reads text (Err g)) (sym a.0) (c, s, a.1)

module _ (text body : List ℕ) (minus : Bool) (found : Option ℕ) (r : Result ℤ NumFault) (answer : MatchOption found (r ≡ Err NotADecimal) (λ n. Answers (signed minus n) r)) (spelt : (k : ℕ) → IsSize body k → Spells text (signed minus k))
    (back : (c : ℤ) → Spells text c → (k : ℕ) × IsSize body k × (c ≡ signed minus k)) where
  pub dec_reads : MatchOption found ((c : ℕ) → IsSize body c → ⊥) (λ n. (c : ℕ) × IsSize body c × (c < 10 ^ 19 → n ≡ c) × (10 ^ 19 ≤ c → 10 ^ 19 ≤ n)) → Reads text r
  dec_reads size = cases found answer size
    where
      cases : (o : Option ℕ) → MatchOption o (r ≡ Err NotADecimal) (λ n. Answers (signed minus n) r) → MatchOption o ((c : ℕ) → IsSize body c → ⊥) (λ n. (c : ℕ) × IsSize body c × (c < 10 ^ 19 → n ≡ c) × (10 ^ 19 ≤ c → 10 ^ 19 ≤ n)) → Reads text r
      cases None e none = subst (Reads text) (sym e) (λ c s. let b = back c s in none b.0 b.1)
      cases (Some n) a s = reads_from text (signed minus s.0) r (spelt s.0 s.1) (wide minus s.0 n r s.2 s.3 a)

  pub dec_only : MatchOption found ((c : ℕ) → IsSize body c → ⊥) (λ n. (c : ℕ) × IsSize body c × (c < 10 ^ 19 → n ≡ c) × (10 ^ 19 ≤ c → 10 ^ 19 ≤ n)) → (c : ℤ) → Spells text c → Answers c r
  dec_only size = cases found answer size
    where
      cases : (o : Option ℕ) → MatchOption o (r ≡ Err NotADecimal) (λ n. Answers (signed minus n) r) → MatchOption o ((c : ℕ) → IsSize body c → ⊥) (λ n. (c : ℕ) × IsSize body c × (c < 10 ^ 19 → n ≡ c) × (10 ^ 19 ≤ c → 10 ^ 19 ≤ n)) → (c : ℤ) → Spells text c → Answers c r
      cases None e none c s = let b = back c s in absurd (none b.0 b.1)
      cases (Some n) a s c t = subst (λ z. Answers z r) (one_spelling text (signed minus s.0) c (spelt s.0 s.1) t) (wide minus s.0 n r s.2 s.3 a)
