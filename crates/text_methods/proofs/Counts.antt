-- Occurrences that don't overlap, one after the other.
use Rattle.std.proofs.Common.{arith, ◌≡◌, ◌<◌, ◌+◌, ◌-◌, ◌*◌, zero, suc, ℕ, Bool, true, false, cond, List, [], ◌∷◌, ◌++◌, length, take, drop, refl, sym, ap, ap₂, ◌∙◌, Option, Some, None, Result, Ok, Err, OkIff, ◌^◌, option_map, append_assoc, suc-mul}
use Rattle.std.specs.Str.{IsUtf8, chars, encode_utf8_all}
use Rattle.std.specs.Result.{result_unwrap_or}
use Rattle.std.specs.Char.{encode_utf8}
use Rattle.std.proofs.lemmas.Str.{encodes-append, encodes-chars}
use Rattle.std.proofs.lemmas.List.{length-append}
use Rattle.std.proofs.Math.Seq.{take-append_seam, drop-append_seam}
use Rattle.text_methods.specs.Texts.{begins, first_of, replaced, replace, counted, matches, capped}
use Rattle.text_methods.proofs.Occurs.{begins_gives}
use Rattle.text_methods.proofs.Walks.{no_chars}

some_same : (a b : ℕ) → Some a ≡ Some b → a ≡ b
some_same a b e = cc

-- ---- counted

counted_skip : (ts : List ℕ) (k : ℕ) (cs : List ℕ) → counted ts k cs ≡ counted ts 0 (drop k cs)
counted_skip ts zero cs = refl
counted_skip ts (suc k) [] = refl
counted_skip ts (suc k) (c ∷ cs) = counted_skip ts k cs

counted_here : (t : ℕ) (ts : List ℕ) (c : ℕ) (cs : List ℕ) (n : ℕ) (b : Bool) (r : Option ℕ) (rest : ℕ) → cond b (Some 0) (option_map suc r) ≡ Some n
    → ((m : ℕ) → r ≡ Some m → rest ≡ suc (counted (t ∷ ts) 0 (drop (suc (length ts)) (drop m cs))))
    → cond b (suc (counted (t ∷ ts) (length ts) cs)) rest ≡ suc (counted (t ∷ ts) 0 (drop (suc (length ts)) (drop n (c ∷ cs))))
counted_here t ts c cs n true r rest e ih =
    ap suc (counted_skip (t ∷ ts) (length ts) cs ∙ ap (λ k. counted (t ∷ ts) 0 (drop (suc (length ts)) (drop k (c ∷ cs)))) (some_same 0 n e))
counted_here t ts c cs n false (Some m) rest e ih =
    ih m refl ∙ ap (λ k. suc (counted (t ∷ ts) 0 (drop (suc (length ts)) (drop k (c ∷ cs))))) (some_same (suc m) n e)
counted_here t ts c cs n false None rest e ih = absurd (cc)

pub counted_found : (t : ℕ) (ts cs : List ℕ) (n : ℕ) → first_of (t ∷ ts) cs ≡ Some n → counted (t ∷ ts) 0 cs ≡ suc (counted (t ∷ ts) 0 (drop (suc (length ts)) (drop n cs)))
counted_found t ts [] n e = absurd (cc)
counted_found t ts (c ∷ cs) n e =
    counted_here t ts c cs n (begins (t ∷ ts) (c ∷ cs)) (first_of (t ∷ ts) cs) (counted (t ∷ ts) 0 cs) e (λ m. counted_found t ts cs m)

counted_not : (t : ℕ) (ts : List ℕ) (b : Bool) (r : Option ℕ) (here rest : ℕ) → cond b (Some 0) (option_map suc r) ≡ None → (r ≡ None → rest ≡ 0) → cond b here rest ≡ 0
counted_not t ts true r here rest e ih = absurd (cc)
counted_not t ts false None here rest e ih = ih refl
counted_not t ts false (Some m) here rest e ih = absurd (cc)

pub counted_none : (t : ℕ) (ts cs : List ℕ) → first_of (t ∷ ts) cs ≡ None → counted (t ∷ ts) 0 cs ≡ 0
counted_none t ts [] e = refl
counted_none t ts (c ∷ cs) e = counted_not t ts (begins (t ∷ ts) (c ∷ cs)) (first_of (t ∷ ts) cs) _ _ e (counted_none t ts cs)

pub matches_more : (ts cs front back : List ℕ) → 0 < length ts → first_of ts cs ≡ Some (length front) → cs ≡ front ++ (ts ++ back) → matches ts cs ≡ suc (matches ts back)
matches_more [] cs front back lt e is = absurd (omega arith)
matches_more (t ∷ ts) cs front back lt e is =
    let rest : drop (suc (length ts)) (drop (length front) cs) ≡ back =
    ap (drop (suc (length ts))) (ap (drop (length front)) is ∙ drop-append_seam front ((t ∷ ts) ++ back)) ∙ drop-append_seam (t ∷ ts) back in
    counted_found t ts cs (length front) e ∙ ap (λ x. suc (counted (t ∷ ts) 0 x)) rest

pub matches_none : (ts cs : List ℕ) → 0 < length ts → first_of ts cs ≡ None → matches ts cs ≡ 0
matches_none [] cs lt e = absurd (omega arith)
matches_none (t ∷ ts) cs lt e = counted_none t ts cs e

-- ---- replaced

module _ (us : List ℕ) where
  replaced_skip : (ts : List ℕ) (k : ℕ) (cs : List ℕ) → replaced ts us k cs ≡ replaced ts us 0 (drop k cs)
  replaced_skip ts zero cs = refl
  replaced_skip ts (suc k) [] = refl
  replaced_skip ts (suc k) (c ∷ cs) = replaced_skip ts k cs

  replaced_here : (t : ℕ) (ts : List ℕ) (c : ℕ) (cs : List ℕ) (n : ℕ) (b : Bool) (r : Option ℕ) (rest : List ℕ) → cond b (Some 0) (option_map suc r) ≡ Some n
      → ((m : ℕ) → r ≡ Some m → rest ≡ take m cs ++ (us ++ replaced (t ∷ ts) us 0 (drop (suc (length ts)) (drop m cs))))
      → cond b (us ++ replaced (t ∷ ts) us (length ts) cs) (c ∷ rest) ≡ take n (c ∷ cs) ++ (us ++ replaced (t ∷ ts) us 0 (drop (suc (length ts)) (drop n (c ∷ cs))))
  replaced_here t ts c cs n true r rest e ih =
      ap (λ x. us ++ x) (replaced_skip (t ∷ ts) (length ts) cs)
      ∙ ap (λ k. take k (c ∷ cs) ++ (us ++ replaced (t ∷ ts) us 0 (drop (suc (length ts)) (drop k (c ∷ cs))))) (some_same 0 n e)
  replaced_here t ts c cs n false (Some m) rest e ih =
      ap (λ x. c ∷ x) (ih m refl) ∙ ap (λ k. take k (c ∷ cs) ++ (us ++ replaced (t ∷ ts) us 0 (drop (suc (length ts)) (drop k (c ∷ cs))))) (some_same (suc m) n e)
  replaced_here t ts c cs n false None rest e ih = absurd (cc)

  replaced_found : (t : ℕ) (ts cs : List ℕ) (n : ℕ) → first_of (t ∷ ts) cs ≡ Some n → replaced (t ∷ ts) us 0 cs ≡ take n cs ++ (us ++ replaced (t ∷ ts) us 0 (drop (suc (length ts)) (drop n cs)))
  replaced_found t ts [] n e = absurd (cc)
  replaced_found t ts (c ∷ cs) n e =
      replaced_here t ts c cs n (begins (t ∷ ts) (c ∷ cs)) (first_of (t ∷ ts) cs) (replaced (t ∷ ts) us 0 cs) e (λ m. replaced_found t ts cs m)

  replaced_not : (c : ℕ) (cs : List ℕ) (b : Bool) (r : Option ℕ) (here rest : List ℕ) → cond b (Some 0) (option_map suc r) ≡ None → (r ≡ None → rest ≡ cs) → cond b here (c ∷ rest) ≡ c ∷ cs
  replaced_not c cs true r here rest e ih = absurd (cc)
  replaced_not c cs false None here rest e ih = ap (λ x. c ∷ x) (ih refl)
  replaced_not c cs false (Some m) here rest e ih = absurd (cc)

  replaced_none : (t : ℕ) (ts cs : List ℕ) → first_of (t ∷ ts) cs ≡ None → replaced (t ∷ ts) us 0 cs ≡ cs
  replaced_none t ts [] e = refl
  replaced_none t ts (c ∷ cs) e = replaced_not c cs (begins (t ∷ ts) (c ∷ cs)) (first_of (t ∷ ts) cs) _ _ e (replaced_none t ts cs)

  pub replace_more : (ts cs front back : List ℕ) → 0 < length ts → first_of ts cs ≡ Some (length front) → cs ≡ front ++ (ts ++ back) → replace ts us cs ≡ front ++ (us ++ replace ts us back)
  replace_more [] cs front back lt e is = absurd (omega arith)
  replace_more (t ∷ ts) cs front back lt e is =
      let rest : drop (suc (length ts)) (drop (length front) cs) ≡ back =
      ap (drop (suc (length ts))) (ap (drop (length front)) is ∙ drop-append_seam front ((t ∷ ts) ++ back)) ∙ drop-append_seam (t ∷ ts) back in
      let before : take (length front) cs ≡ front = ap (take (length front)) is ∙ take-append_seam front ((t ∷ ts) ++ back) in
      replaced_found t ts cs (length front) e ∙ ap₂ (λ x y. x ++ (us ++ replaced (t ∷ ts) us 0 y)) before rest

  pub replace_none : (ts cs : List ℕ) → first_of ts cs ≡ None → 0 < length ts → replace ts us cs ≡ cs
  replace_none [] cs e lt = refl
  replace_none (t ∷ ts) cs e lt = replaced_none t ts cs e

  -- ---- the size of what is replaced

  size_here : (t : ℕ) (ts : List ℕ) (c : ℕ) (cs : List ℕ) (b : Bool) → begins (t ∷ ts) (c ∷ cs) ≡ b
      → length (encode_utf8_all (replaced (t ∷ ts) us (length ts) cs)) + counted (t ∷ ts) (length ts) cs * length (encode_utf8_all (t ∷ ts))
      ≡ length (encode_utf8_all (drop (length ts) cs)) + counted (t ∷ ts) (length ts) cs * length (encode_utf8_all us)
      → length (encode_utf8_all (replaced (t ∷ ts) us 0 cs)) + counted (t ∷ ts) 0 cs * length (encode_utf8_all (t ∷ ts))
      ≡ length (encode_utf8_all cs) + counted (t ∷ ts) 0 cs * length (encode_utf8_all us)
      → length (encode_utf8_all (cond b (us ++ replaced (t ∷ ts) us (length ts) cs) (c ∷ replaced (t ∷ ts) us 0 cs))) + cond b (suc (counted (t ∷ ts) (length ts) cs)) (counted (t ∷ ts) 0 cs) * length (encode_utf8_all (t ∷ ts))
      ≡ length (encode_utf8_all (c ∷ cs)) + cond b (suc (counted (t ∷ ts) (length ts) cs)) (counted (t ∷ ts) 0 cs) * length (encode_utf8_all us)
  size_here t ts c cs true e skip step =
      let m = counted (t ∷ ts) (length ts) cs in
      let p = length (encode_utf8_all (t ∷ ts)) in
      let q = length (encode_utf8_all us) in
      let r = replaced (t ∷ ts) us (length ts) cs in
      let a = ap length (encodes-append us r) ∙ length-append (encode_utf8_all us) (encode_utf8_all r) in
      let d = ap (λ x. length (encode_utf8_all x)) (begins_gives (t ∷ ts) (c ∷ cs) e) ∙ ap length (encodes-append (t ∷ ts) (drop (length ts) cs)) ∙ length-append (encode_utf8_all (t ∷ ts)) (encode_utf8_all (drop (length ts) cs)) in
      let x = suc-mul m p in
      let y = suc-mul m q in
      omega arith
  size_here t ts c cs false e skip step =
      let a = length-append (encode_utf8 c) (encode_utf8_all (replaced (t ∷ ts) us 0 cs)) in
      let d = length-append (encode_utf8 c) (encode_utf8_all cs) in
      omega arith

  size_of : (t : ℕ) (ts : List ℕ) (k : ℕ) (cs : List ℕ) → length (encode_utf8_all (replaced (t ∷ ts) us k cs)) + counted (t ∷ ts) k cs * length (encode_utf8_all (t ∷ ts))
      ≡ length (encode_utf8_all (drop k cs)) + counted (t ∷ ts) k cs * length (encode_utf8_all us)
  size_of t ts zero [] = omega arith
  size_of t ts (suc k) [] = omega arith
  size_of t ts (suc k) (c ∷ cs) = size_of t ts k cs
  size_of t ts zero (c ∷ cs) = size_here t ts c cs (begins (t ∷ ts) (c ∷ cs)) refl (size_of t ts (length ts) cs) (size_of t ts 0 cs)

  pub replace_size : (ts cs : List ℕ) → length (encode_utf8_all (replace ts us cs)) + matches ts cs * length (encode_utf8_all ts) ≡ length (encode_utf8_all cs) + matches ts cs * length (encode_utf8_all us)
  replace_size [] cs = omega arith
  replace_size (t ∷ ts) cs = size_of t ts 0 cs

-- ---- texts

pub matches_nothing : (s t : List ℕ) → length t ≡ 0 → 0 ≡ matches (chars t) (chars s)
matches_nothing s t e = ap (λ ts. matches ts (chars s)) (sym (no_chars t e))

pub replace_nothing : (s t u : List ℕ) → IsUtf8 s → length t ≡ 0 → s ≡ encode_utf8_all (replace (chars t) u (chars s))
replace_nothing s t u us e = sym (encodes-chars s us) ∙ ap (λ ts. encode_utf8_all (replace ts u (chars s))) (sym (no_chars t e))

-- what is behind an occurrence is shorter
pub back_shorter : (ts cs front back : List ℕ) → 0 < length ts → cs ≡ front ++ (ts ++ back) → length back < length cs
back_shorter ts cs front back lt is =
    let a = ap length is in
    let b = length-append front (ts ++ back) in
    let d = length-append ts back in
    omega arith

pub replace_done : (out s t u rest : List ℕ) → IsUtf8 rest → 0 < length (chars t) → first_of (chars t) (chars rest) ≡ None
    → out ++ encode_utf8_all (replace (chars t) u (chars rest)) ≡ encode_utf8_all (replace (chars t) u (chars s)) → out ++ rest ≡ encode_utf8_all (replace (chars t) u (chars s))
replace_done out s t u rest ur lt no' is = ap (λ x. out ++ x) (sym (ap encode_utf8_all (replace_none u (chars t) (chars rest) no' lt) ∙ encodes-chars rest ur)) ∙ is

-- one more occurrence is replaced
pub replace_step : (out s t u rest front back : List ℕ) → IsUtf8 u → IsUtf8 front → 0 < length (chars t) → first_of (chars t) (chars rest) ≡ Some (length (chars front)) → chars rest ≡ chars front ++ (chars t ++ chars back)
    → out ++ encode_utf8_all (replace (chars t) (chars u) (chars rest)) ≡ encode_utf8_all (replace (chars t) (chars u) (chars s))
    → ((out ++ front) ++ u) ++ encode_utf8_all (replace (chars t) (chars u) (chars back)) ≡ encode_utf8_all (replace (chars t) (chars u) (chars s))
replace_step out s t u rest front back uu uf lt e is h =
    let more = replace (chars t) (chars u) (chars back) in
    let step : encode_utf8_all (replace (chars t) (chars u) (chars rest)) ≡ front ++ (u ++ encode_utf8_all more) =
    ap encode_utf8_all (replace_more (chars u) (chars t) (chars rest) (chars front) (chars back) lt e is)
    ∙ encodes-append (chars front) (chars u ++ more) ∙ ap₂ (λ x y. x ++ y) (encodes-chars front uf) (encodes-append (chars u) more ∙ ap (λ x. x ++ encode_utf8_all more) (encodes-chars u uu)) in
    append_assoc (out ++ front) u (encode_utf8_all more) ∙ append_assoc out front (u ++ encode_utf8_all more) ∙ ap (λ x. out ++ x) (sym step) ∙ h

-- the size of a text with its occurrences replaced
pub text_size : (s t u : List ℕ) → IsUtf8 s → IsUtf8 t → IsUtf8 u
    → length (encode_utf8_all (replace (chars t) (chars u) (chars s))) + matches (chars t) (chars s) * length t ≡ length s + matches (chars t) (chars s) * length u
text_size s t u us ut uu =
    let k = matches (chars t) (chars s) in
    let r = length (encode_utf8_all (replace (chars t) (chars u) (chars s))) in
    ap (λ x. r + k * length x) (sym (encodes-chars t ut)) ∙ replace_size (chars u) (chars t) (chars s) ∙ ap₂ (λ x y. length x + k * length y) (encodes-chars s us) (encodes-chars u uu)

pub capped_of : {E : Type 0} (r : Result ℕ E) (n : ℕ) → OkIff r (n < 2 ^ 64) n → result_unwrap_or r (2 ^ 64 - 1) ≡ capped n
capped_of (Ok m) n h = let a = h.0 in let b = h.1 in omega arith
capped_of (Err e) n h = omega (arith, h)
