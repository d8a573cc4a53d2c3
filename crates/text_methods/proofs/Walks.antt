-- A text from its first or its last scalar on.
use Rattle.std.proofs.Common.{arith, suc-mul, ℤ, ◌-◌, ◌*◌, ◌≡◌, ◌<◌, ◌≤◌, ◌+◌, zero, suc, ℕ, le-leb, List, [], ◌∷◌, ◌++◌, length, reverse, refl, sym, ap, ◌∙◌}
use Rattle.std.specs.Str.{IsUtf8, chars, encode_utf8_all}
use Rattle.std.specs.Char.{encode_utf8}
use Rattle.std.proofs.lemmas.Bool.{lt-leb}
use Rattle.std.specs.List.{repeat}
use Rattle.std.proofs.lemmas.Str.{length-le-encodes, chars-nil, length-encode, len_utf8_bounds, encodes-chars, encodes-append, chars_from_encodes}
use Rattle.std.proofs.lemmas.List.{append_assoc, reverse-reverse, length-append, nil_from_length, reverse-append, append-nil}
use Rattle.text_methods.specs.Texts.{first_by, without_low, place, blanks, left_pad, right_pad}

pub no_chars : (s : List ℕ) → length s ≡ 0 → chars s ≡ []
no_chars s e = ap chars (nil_from_length s e) ∙ chars-nil

pub some_chars : (s : List ℕ) → IsUtf8 s → 0 < length s → 0 < length (chars s)
some_chars s u lt = some (chars s) (encodes-chars s u)
  where
    some : (cs : List ℕ) → encode_utf8_all cs ≡ s → 0 < length cs
    some [] e = let l = ap length e in absurd (omega arith)
    some (c ∷ cs) e = omega arith

-- ---- the first scalar

pub none_made : (f : ℕ → ℕ) (s : List ℕ) → length s ≡ 0 → [] ≡ encode_utf8_all (first_by f (chars s))
none_made f s e = ap (λ x. encode_utf8_all (first_by f x)) (sym (no_chars s e))

pub first_made : (f : ℕ → ℕ) (s more : List ℕ) (c : ℕ) → IsUtf8 more → chars s ≡ c ∷ chars more → encode_utf8 (f c) ++ more ≡ encode_utf8_all (first_by f (chars s))
first_made f s more c um is = ap (λ x. encode_utf8 (f c) ++ x) (sym (encodes-chars more um)) ∙ ap (λ x. encode_utf8_all (first_by f x)) (sym is)

-- ---- low scalars

pub low_more : (cs more : List ℕ) (c : ℕ) → cs ≡ c ∷ more → c ≤ 32 → without_low more ≡ without_low cs
low_more cs more c is le = sym (ap without_low is ∙ rw (le-leb c 32 le) refl)

pub low_stop : (cs more : List ℕ) (c : ℕ) → cs ≡ c ∷ more → 32 < c → without_low cs ≡ cs
low_stop cs more c is lt = ap without_low is ∙ rw (lt-leb c 32 lt) refl ∙ sym is

pub low_none : (s : List ℕ) → length s ≡ 0 → without_low (chars s) ≡ chars s
low_none s e = ap without_low (no_chars s e) ∙ sym (no_chars s e)

pub low_back_none : (s : List ℕ) → length s ≡ 0 → without_low (reverse (chars s)) ≡ reverse (chars s)
low_back_none s e = ap (λ x. without_low (reverse x)) (no_chars s e) ∙ ap reverse (sym (no_chars s e))

-- ---- the last scalar

pub last_one : (s more : List ℕ) (c : ℕ) → IsUtf8 s → IsUtf8 more → s ≡ more ++ encode_utf8 c → reverse (chars s) ≡ c ∷ reverse (chars more)
last_one s more c us um is =
    let e : chars s ≡ chars more ++ (c ∷ []) =
    sym (chars_from_encodes (chars more ++ (c ∷ [])) s us (encodes-append (chars more) (c ∷ []) ∙ ap (λ x. x ++ encode_utf8_all (c ∷ [])) (encodes-chars more um) ∙ ap (λ x. more ++ x) (append-nil (encode_utf8 c)) ∙ sym is)) in
    ap reverse e ∙ reverse-append (chars more) (c ∷ [])

pub turned : (out cs more : List ℕ) (c : ℕ) → reverse cs ≡ c ∷ reverse more → (out ++ encode_utf8 c) ++ encode_utf8_all (reverse more) ≡ out ++ encode_utf8_all (reverse cs)
turned out cs more c is = append_assoc out (encode_utf8 c) (encode_utf8_all (reverse more)) ∙ ap (λ x. out ++ encode_utf8_all x) (sym is)

-- a text that ends with a scalar is longer than what comes before that
pub shorter : (s more : List ℕ) (c : ℕ) → s ≡ more ++ encode_utf8 c → length more < length s
shorter s more c is = let a = ap length is in let l = length-append more (encode_utf8 c) in let e = length-encode c in let b = len_utf8_bounds c in omega (arith, b.0)

-- ---- where a walk stops

pub front_done : (rest s : List ℕ) → IsUtf8 rest → without_low (chars rest) ≡ without_low (chars s) → without_low (chars rest) ≡ chars rest → rest ≡ encode_utf8_all (without_low (chars s))
front_done rest s u same stop = sym (encodes-chars rest u) ∙ ap encode_utf8_all (sym stop ∙ same)

pub back_done : (rest s : List ℕ) → IsUtf8 rest → without_low (reverse (chars rest)) ≡ without_low (reverse (chars s)) → without_low (reverse (chars rest)) ≡ reverse (chars rest) → rest ≡ encode_utf8_all (reverse (without_low (reverse (chars s))))
back_done rest s u same stop = sym (encodes-chars rest u) ∙ ap encode_utf8_all (sym (reverse-reverse (chars rest)) ∙ ap reverse (sym stop ∙ same))

pub all_turned : (out s rest : List ℕ) → length rest ≡ 0 → out ++ encode_utf8_all (reverse (chars rest)) ≡ encode_utf8_all (reverse (chars s)) → out ≡ encode_utf8_all (reverse (chars s))
all_turned out s rest e is = sym (append-nil out) ∙ ap (λ x. out ++ encode_utf8_all (reverse x)) (sym (no_chars rest e)) ∙ is

pub length_repeat : (n : ℕ) (x : ℕ) → length (repeat n (x ∷ [])) ≡ n
length_repeat zero x = refl
length_repeat (suc n) x = ap suc (length_repeat n x)

-- how long a text is that is repeated
pub repeat_length : (n : ℕ) (s : List ℕ) → length (repeat n s) ≡ n * length s
repeat_length zero s = omega arith
repeat_length (suc n) s = length-append s (repeat n s) ∙ ap (λ k. length s + k) (repeat_length n s) ∙ (let m = suc-mul n (length s) in omega arith)

pub left_size : (n : ℤ) (s : List ℕ) → length (left_pad n s) ≡ (place n - length (chars s)) + length s
left_size n s = length-append (blanks n s) s ∙ ap (λ k. k + length s) (length_repeat (place n - length (chars s)) 32)

pub right_size : (n : ℤ) (s : List ℕ) → length (right_pad n s) ≡ length s + (place n - length (chars s))
right_size n s = length-append s (blanks n s) ∙ ap (λ k. length s + k) (length_repeat (place n - length (chars s)) 32)

pub length-le-chars : (s : List ℕ) → IsUtf8 s → length (chars s) ≤ length s
length-le-chars s u = let a = length-le-encodes (chars s) in let e = ap length (encodes-chars s u) in omega arith
