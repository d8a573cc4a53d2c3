-- Where a text occurs, by scalars and by bytes.
use Rattle.std.proofs.Common.{arith, nat_le, le-leb, leb-true, append-nil, ◌≡◌, ◌+◌, ◌-◌, ◌<◌, ◌≤◌, ◌&&◌, zero, suc, ℕ, true, false, eqb, List, [], ◌∷◌, ◌++◌, length, take, drop, refl, sym, ap, ap₂, ◌∙◌, Some, None, option_map, eq-eqb, eqb-true}
use Rattle.std.specs.Str.{IsUtf8, chars, encode_utf8_all}
use Rattle.std.specs.Str.Pattern.{FindsText, RFindsText, LacksTextAt}
use Rattle.std.proofs.lemmas.Bool.{and_parts, and_from, false_from_ne_true}
use Rattle.std.proofs.lemmas.Str.{encodes-append, encodes-chars, chars-append}
use Rattle.std.proofs.lemmas.List.{drop_all, take-append-drop, length-append, length-drop}
use Rattle.std.proofs.lemmas.List.Prefix.{front_rest, front_fits}
use Rattle.std.proofs.Math.Seq.{take-append_seam, drop-append_seam, drop-append-add}
use Rattle.text_methods.specs.Texts.{begins, first_of, last_of, later, up_to, before, behind, after, ends}
use Rattle.text_methods.proofs.Halves.{halves, shorter, cut_within}

pub begins_front : (ts rest : List ℕ) → begins ts (ts ++ rest) ≡ true
begins_front [] rest = refl
begins_front (t ∷ ts) rest = ap (λ b. b && begins ts (ts ++ rest)) (eq-eqb t t refl) ∙ begins_front ts rest

pub begins_gives : (ts cs : List ℕ) → begins ts cs ≡ true → cs ≡ ts ++ drop (length ts) cs
begins_gives [] cs e = refl
begins_gives (t ∷ ts) [] e = absurd (cc)
begins_gives (t ∷ ts) (c ∷ cs) e =
    let p = and_parts (eqb t c) (begins ts cs) e in
    ap₂ (λ x xs. x ∷ xs) (sym (eqb-true t c p.0)) (begins_gives ts cs p.1)

-- ---- the first and the last place

pub first_at : (ts cs : List ℕ) (n : ℕ) → n ≤ length cs → begins ts (drop n cs) ≡ true → ((q : ℕ) → q < n → begins ts (drop q cs) ≡ false) → first_of ts cs ≡ Some n
first_at ts [] zero le is no' = rw is refl
first_at ts [] (suc n) le is no' = absurd (omega arith)
first_at ts (c ∷ cs) zero le is no' = rw is refl
first_at ts (c ∷ cs) (suc n) le is no' =
    rw (no' 0 (omega arith)) (ap (option_map suc) (first_at ts cs n (omega arith) is (λ q lt. no' (suc q) (omega arith))))

pub first_nowhere : (ts cs : List ℕ) → ((q : ℕ) → q ≤ length cs → begins ts (drop q cs) ≡ false) → first_of ts cs ≡ None
first_nowhere ts [] no' = rw (no' 0 (omega arith)) refl
first_nowhere ts (c ∷ cs) no' = rw (no' 0 (omega arith)) (ap (option_map suc) (first_nowhere ts cs (λ q le. no' (suc q) (omega arith))))

pub last_nowhere : (ts cs : List ℕ) → ((q : ℕ) → q ≤ length cs → begins ts (drop q cs) ≡ false) → last_of ts cs ≡ None
last_nowhere ts [] no' = rw (no' 0 (omega arith)) refl
last_nowhere ts (c ∷ cs) no' = rw (last_nowhere ts cs (λ q le. no' (suc q) (omega arith)), no' 0 (omega arith)) refl

pub last_at : (ts cs : List ℕ) (n : ℕ) → n ≤ length cs → begins ts (drop n cs) ≡ true → ((q : ℕ) → n < q → q ≤ length cs → begins ts (drop q cs) ≡ false) → last_of ts cs ≡ Some n
last_at ts [] zero le is no' = rw is refl
last_at ts [] (suc n) le is no' = absurd (omega arith)
last_at ts (c ∷ cs) zero le is no' = rw (last_nowhere ts cs (λ q lt. no' (suc q) (omega arith) (omega arith)), is) refl
last_at ts (c ∷ cs) (suc n) le is no' =
    ap (λ r. later r (begins ts (c ∷ cs))) (last_at ts cs n (omega arith) is (λ q lt le'. no' (suc q) (omega arith) (omega arith)))

-- ---- places of bytes

-- where the bytes don't occur, the scalars don't begin
pub lacks : (s t : List ℕ) (q : ℕ) → IsUtf8 s → IsUtf8 t → LacksTextAt t s (length (encode_utf8_all (take q (chars s)))) → begins (chars t) (drop q (chars s)) ≡ false
lacks s t q us ut h = false_from_ne_true (begins (chars t) (drop q (chars s))) (λ e.
    let rest = drop (length (chars t)) (drop q (chars s)) in
    let here : encode_utf8_all (drop q (chars s)) ≡ t ++ encode_utf8_all rest =
    ap encode_utf8_all (begins_gives (chars t) (drop q (chars s)) e) ∙ encodes-append (chars t) rest ∙ ap (λ x. x ++ encode_utf8_all rest) (encodes-chars t ut) in
    h (encode_utf8_all rest) (front_rest s (encode_utf8_all (take q (chars s))) (encode_utf8_all (drop q (chars s))) (halves q s us) ∙ here))

-- the bytes stand behind the front
module _ (s t front back : List ℕ) (us : IsUtf8 s) (uf : IsUtf8 front) (ut : IsUtf8 t) (is : s ≡ front ++ (t ++ back)) where
  pub whole : chars s ≡ chars front ++ (chars t ++ chars back)
  whole = ap chars is ∙ chars-append front (t ++ back) uf ∙ ap (λ x. chars front ++ x) (chars-append t back ut)

  pub begins_there : begins (chars t) (drop (length (chars front)) (chars s)) ≡ true
  begins_there = ap (begins (chars t)) (front_rest (chars s) (chars front) (chars t ++ chars back) whole) ∙ begins_front (chars t) (chars back)

  pub fits : length (chars front) ≤ length (chars s)
  fits = front_fits (chars s) (chars front) (chars t ++ chars back) whole

  pub front_bytes : encode_utf8_all (take (length (chars front)) (chars s)) ≡ front
  front_bytes = ap encode_utf8_all (ap (take (length (chars front))) whole ∙ take-append_seam (chars front) (chars t ++ chars back)) ∙ encodes-chars front uf

-- what is said of the places of bytes, of the places of scalars
pub first_split : (s t front back : List ℕ) (i j : ℕ) → IsUtf8 s → IsUtf8 t → IsUtf8 front → FindsText t s (Some (i, j)) → front ≡ take i s → back ≡ drop j s → length front ≡ i
    → (first_of (chars t) (chars s) ≡ Some (length (chars front))) × (chars s ≡ chars front ++ (chars t ++ chars back))
first_split s t front back i j us ut uf h f b l =
    let is : s ≡ front ++ (t ++ back) = sym (take-append-drop i s) ∙ ap₂ (λ x y. x ++ y) (sym f) (h.1.split ∙ ap (λ y. t ++ y) (sym b)) in
    let n = length (chars front) in
    let le = fits s t front back us uf ut is in (
      first_at (chars t) (chars s) n le (begins_there s t front back us uf ut is) (λ q lt. lacks s t q us ut
          (h.0 (length (encode_utf8_all (take q (chars s)))) (let m = shorter q n (chars s) lt le in let e = ap length (front_bytes s t front back us uf ut is) in omega arith))),
      whole s t front back us uf ut is,
    )

pub last_split : (s t front back : List ℕ) (i j : ℕ) → IsUtf8 s → IsUtf8 t → IsUtf8 front → RFindsText t s (Some (i, j)) → front ≡ take i s → back ≡ drop j s → length front ≡ i
    → (last_of (chars t) (chars s) ≡ Some (length (chars front))) × (chars s ≡ chars front ++ (chars t ++ chars back))
last_split s t front back i j us ut uf h f b l =
    let is : s ≡ front ++ (t ++ back) = sym (take-append-drop i s) ∙ ap₂ (λ x y. x ++ y) (sym f) (h.1.split ∙ ap (λ y. t ++ y) (sym b)) in
    let n = length (chars front) in
    let le = fits s t front back us uf ut is in (
      last_at (chars t) (chars s) n le (begins_there s t front back us uf ut is) (λ q lt le'. lacks s t q us ut
          (h.0 (length (encode_utf8_all (take q (chars s))))
          (let m = shorter n q (chars s) lt le' in let e = ap length (front_bytes s t front back us uf ut is) in omega arith)
          (cut_within q s us))),
      whole s t front back us uf ut is,
    )

pub first_none : (s t : List ℕ) → IsUtf8 s → IsUtf8 t → FindsText t s None → first_of (chars t) (chars s) ≡ None
first_none s t us ut h = first_nowhere (chars t) (chars s) (λ q le. lacks s t q us ut (h (length (encode_utf8_all (take q (chars s)))) (cut_within q s us)))

pub last_none : (s t : List ℕ) → IsUtf8 s → IsUtf8 t → RFindsText t s None → last_of (chars t) (chars s) ≡ None
last_none s t us ut h = last_nowhere (chars t) (chars s) (λ q le. lacks s t q us ut (h (length (encode_utf8_all (take q (chars s)))) (cut_within q s us)))

-- ---- parts round an occurrence

pub before_is : (ts cs front back : List ℕ) → first_of ts cs ≡ Some (length front) → cs ≡ front ++ (ts ++ back) → before ts cs ≡ front
before_is ts cs front back h is = ap (λ r. up_to r cs) h ∙ ap (take (length front)) is ∙ take-append_seam front (ts ++ back)

pub after_is : (ts cs front back : List ℕ) → first_of ts cs ≡ Some (length front) → cs ≡ front ++ (ts ++ back) → after ts cs ≡ back
after_is ts cs front back h is =
    ap (λ r. behind r (length ts) cs) h ∙ ap (drop (length front + length ts)) is ∙ drop-append-add front (ts ++ back) (length ts) ∙ drop-append_seam ts back

-- ---- starts and ends

pub starts : (s t rest : List ℕ) → IsUtf8 t → IsUtf8 rest → s ≡ t ++ rest → (begins (chars t) (chars s) ≡ true) × (rest ≡ encode_utf8_all (drop (length (chars t)) (chars s)))
starts s t rest ut ur is =
    let whole : chars s ≡ chars t ++ chars rest = ap chars is ∙ chars-append t rest ut in (
      ap (begins (chars t)) whole ∙ begins_front (chars t) (chars rest),
      sym (encodes-chars rest ur) ∙ ap encode_utf8_all (sym (front_rest (chars s) (chars t) (chars rest) whole)),
    )

-- what begins with them and is no longer is them
pub all_of : (ts cs : List ℕ) → begins ts cs ≡ true → length cs ≤ length ts → cs ≡ ts
all_of ts cs e le = begins_gives ts cs e ∙ ap (λ x. ts ++ x) (drop_all (length ts) cs le) ∙ append-nil ts

pub ends_not : (s t : List ℕ) → IsUtf8 s → IsUtf8 t → ((front : List ℕ) → s ≡ front ++ t → ⊥) → ends (chars t) (chars s) ≡ false
ends_not s t us ut h = false_from_ne_true (ends (chars t) (chars s)) (λ e.
    let p = and_parts (nat_le (length (chars t)) (length (chars s))) (begins (chars t) (drop (length (chars s) - length (chars t)) (chars s))) e in
    let d = length (chars s) - length (chars t) in
    let le = leb-true (length (chars t)) (length (chars s)) p.0 in
    let l = length-drop d (chars s) in
    let is : drop d (chars s) ≡ chars t = all_of (chars t) (drop d (chars s)) p.1 (omega arith) in
    h (encode_utf8_all (take d (chars s))) (halves d s us ∙ ap (λ x. encode_utf8_all (take d (chars s)) ++ x) (ap encode_utf8_all is ∙ encodes-chars t ut)))

pub ends_so : (s t front : List ℕ) → IsUtf8 t → IsUtf8 front → s ≡ front ++ t → (ends (chars t) (chars s) ≡ true) × (front ≡ encode_utf8_all (take (length (chars s) - length (chars t)) (chars s)))
ends_so s t front ut uf is =
    let whole : chars s ≡ chars front ++ chars t = ap chars is ∙ chars-append front t uf in
    let l = length-append (chars front) (chars t) in
    let n : length (chars s) - length (chars t) ≡ length (chars front) = let e = ap length whole in omega arith in
    let rest : drop (length (chars s) - length (chars t)) (chars s) ≡ chars t ++ [] = ap₂ drop n whole ∙ drop-append_seam (chars front) (chars t) ∙ sym (append-nil (chars t)) in (
      and_from (nat_le (length (chars t)) (length (chars s))) (begins (chars t) (drop (length (chars s) - length (chars t)) (chars s)))
          (le-leb (length (chars t)) (length (chars s)) (let e = ap length whole in omega arith))
          (ap (begins (chars t)) rest ∙ begins_front (chars t) []),
      sym (encodes-chars front uf) ∙ ap encode_utf8_all (sym (ap₂ take n whole ∙ take-append_seam (chars front) (chars t))),
    )

-- what comes before an occurrence from the n-th on ends within the text
pub front_short : (n : ℕ) (cs front more : List ℕ) → drop n cs ≡ front ++ more → n ≤ length cs → n + length front ≤ length cs
front_short n cs front more e le = let a = ap length e in let b = length-append front more in let d = length-drop n cs in omega arith
