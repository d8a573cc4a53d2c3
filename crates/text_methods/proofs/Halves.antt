-- Parts of a text, by scalars and by bytes.
use Rattle.std.proofs.Common.{arith, subst, drop-drop, ◌≡◌, ◌+◌, ◌-◌, ◌<◌, ◌≤◌, zero, suc, ℕ, List, [], ◌∷◌, ◌++◌, length, take, drop, sym, ap, ap₂, ◌∙◌}
use Rattle.std.specs.Str.{IsUtf8, IsAscii, IsCharBoundary, chars, encode_utf8_all}
use Rattle.std.specs.Char.{encode_utf8}
use Rattle.std.proofs.lemmas.Str.{cons_from_encodes, IsCharBoundary-at_seam, encodes-append, encodes-chars, length-le-encodes, chars_from_encodes, chars-IsAscii, encodes-IsAscii, IsAscii-take, IsAscii-drop}
use Rattle.std.proofs.lemmas.List.{take_all, drop_all, take-append-drop, length-append, length-drop}
use Rattle.std.proofs.Math.Seq.{take-append_seam}

-- a text is the text of its first n scalars and that of the others
pub halves : (n : ℕ) (s : List ℕ) → IsUtf8 s → s ≡ encode_utf8_all (take n (chars s)) ++ encode_utf8_all (drop n (chars s))
halves n s u = sym (encodes-chars s u) ∙ ap encode_utf8_all (sym (take-append-drop n (chars s))) ∙ encodes-append (take n (chars s)) (drop n (chars s))

-- fewer scalars are fewer bytes
pub shorter : (q n : ℕ) (cs : List ℕ) → q < n → n ≤ length cs → length (encode_utf8_all (take q cs)) < length (encode_utf8_all (take n cs))
shorter zero (suc n) (c ∷ cs) lt le = let e = length-le-encodes (c ∷ take n cs) in omega arith
shorter (suc q) (suc n) (c ∷ cs) lt le =
    let h = shorter q n cs (omega arith) (omega arith) in
    let a = length-append (encode_utf8_all (c ∷ [])) (encode_utf8_all (take q cs)) in
    let b = length-append (encode_utf8_all (c ∷ [])) (encode_utf8_all (take n cs)) in
    let a' = ap length (encodes-append (c ∷ []) (take q cs)) in
    let b' = ap length (encodes-append (c ∷ []) (take n cs)) in
    omega arith
shorter zero (suc n) [] lt le = absurd (omega arith)
shorter (suc q) (suc n) [] lt le = absurd (omega arith)
shorter q zero cs lt le = absurd (omega arith)

-- the first n scalars end within the text
pub cut_within : (n : ℕ) (s : List ℕ) → IsUtf8 s → length (encode_utf8_all (take n (chars s))) ≤ length s
cut_within n s u = let e = ap length (halves n s u) in let l = length-append (encode_utf8_all (take n (chars s))) (encode_utf8_all (drop n (chars s))) in omega arith

-- the scalars of a text that is made of these
pub read_back : (cs bs : List ℕ) → IsUtf8 bs → bs ≡ encode_utf8_all cs → chars bs ≡ cs
read_back cs bs u e = sym (chars_from_encodes cs bs u (sym e))

-- ---- walking over scalars

-- behind one more scalar
pub passed : (n : ℕ) (cs rest more : List ℕ) (c : ℕ) → encode_utf8_all (drop n cs) ≡ rest → rest ≡ encode_utf8 c ++ more → encode_utf8_all (drop (n + 1) cs) ≡ more
passed n cs rest more c is e =
    let p = cons_from_encodes (drop n cs) more c (is ∙ e) in
    ap encode_utf8_all (sym (drop-drop 1 n cs) ∙ ap (drop 1) p.1) ∙ p.2

-- past the end
pub spent : (n m : ℕ) (cs rest : List ℕ) → encode_utf8_all (drop n cs) ≡ rest → length rest ≡ 0 → n ≤ m → [] ≡ encode_utf8_all (drop m cs)
spent n m cs rest is e le =
    let short = length-le-encodes (drop n cs) in
    let l = length-drop n cs in
    let all = ap length is in
    ap encode_utf8_all (sym (drop_all m cs (omega arith)))

-- ---- a text in two

-- what is left before the second half is the first
pub first_half : (n : ℕ) (s back : List ℕ) → IsUtf8 s → back ≡ encode_utf8_all (drop n (chars s)) → take (length s - length back) s ≡ encode_utf8_all (take n (chars s))
first_half n s back u is =
    let front = encode_utf8_all (take n (chars s)) in
    let h = halves n s u in
    let l = length-append front (encode_utf8_all (drop n (chars s))) in
    let e : length s - length back ≡ length front = let a = ap length h in let b = ap length is in omega arith in
    ap₂ take e h ∙ take-append_seam front (encode_utf8_all (drop n (chars s)))

pub half_fits : (n : ℕ) (s back : List ℕ) → IsUtf8 s → back ≡ encode_utf8_all (drop n (chars s)) → length back ≤ length s
half_fits n s back u is =
    let a = ap length (halves n s u) in
    let l = length-append (encode_utf8_all (take n (chars s))) (encode_utf8_all (drop n (chars s))) in
    let b = ap length is in
    omega arith

pub half_cut : (n : ℕ) (s back : List ℕ) → IsUtf8 s → IsUtf8 back → back ≡ encode_utf8_all (drop n (chars s)) → IsCharBoundary s (length s - length back)
half_cut n s back u ub is =
    let front = encode_utf8_all (take n (chars s)) in
    let h : s ≡ front ++ back = halves n s u ∙ ap (λ x. front ++ x) (sym is) in
    let l = length-append front back in
    let e : length front ≡ length s - length back = let a = ap length h in omega arith in
    subst (IsCharBoundary s) e (IsCharBoundary-at_seam s front back h ub)

-- ---- where each scalar is a byte

pub ascii_cut : (n m : ℕ) (s : List ℕ) → IsAscii s → take m (drop n s) ≡ encode_utf8_all (take m (drop n (chars s)))
ascii_cut n m s ascii =
    sym (encodes-IsAscii (take m (drop n s)) (IsAscii-take (drop n s) m (IsAscii-drop s n ascii))) ∙ ap (λ cs. encode_utf8_all (take m (drop n cs))) (sym (chars-IsAscii s ascii))

-- what is left has no more scalars than the text has bytes
pub rest_of : (n : ℕ) (s : List ℕ) → IsUtf8 s → take (length s) (drop n (chars s)) ≡ drop n (chars s)
rest_of n s u =
    let a = length-drop n (chars s) in
    let b = length-le-encodes (chars s) in
    let e = ap length (encodes-chars s u) in
    take_all (length s) (drop n (chars s)) (omega arith)
