-- The laws of the methods of numbers.
use Rattle.std.proofs.Common.{arith, append-nil, append_assoc, ◌↔◌, ◌≡◌, ◌<◌, ◌≤◌, ◌+◌, ◌-◌, ◌*◌, ◌/◌, ◌%◌, ◌^◌, ℕ, zero, suc, Bool, true, false, cond, ℤ, pos, negsuc, ◌+ℤ◌, ◌-ℤ◌, ◌*ℤ◌, unsigned_abs, int_div, int_rem, List, [], ◌∷◌, ◌++◌, length, take, get_or, refl, sym, ap, ap₂, ◌∙◌, subst, w32, to_z, ltb, ltb-true, ltb-false}
use Rattle.std.proofs.lemmas.Int.{ints, quot-rem, rem_below, SFits-int_wrap}
use Rattle.std.proofs.lemmas.List.{length-append, get_or-append-add}
use Rattle.std.proofs.Math.Seq.{take-append_seam}
use Rattle.std.proofs.Math.Facts.{to_z-neg}
use Rattle.std.specs.Int.{int_wrap, int_rem_euclid, int_div_euclid}
use Rattle.number_methods.specs.Methods.{whole_of}
use Rattle.number_methods.specs.Values.{is_l, without_l}
use Rattle.number_methods.specs.Laws.{WholeOfText, LetterGoes, DecimalOfText, WholeTowardsZero, WrapsBits}
use Rattle.number_methods.proofs.Read.{whole_told, whole_is, decimal_told, decimal_is}

pub whole_of_text : WholeOfText
whole_of_text text z = (whole_is text z, whole_told text z)

pub decimal_of_text : DecimalOfText
decimal_of_text text c = (decimal_is text c, decimal_told text c)

last_one : (text : List ℕ) (letter : ℕ) → get_or (text ++ letter ∷ []) (length text) 0 ≡ letter
last_one text letter = let e : length text + 0 ≡ length text = omega arith in ap (λ n. get_or (text ++ letter ∷ []) n 0) (sym e) ∙ get_or-append-add text (letter ∷ []) 0 0

letter_by : (c : ℕ) (cs : List ℕ) (letter n : ℕ) → n ≡ length (c ∷ cs) → is_l letter ≡ true
    → cond (is_l (get_or ((c ∷ cs) ++ letter ∷ []) n 0)) (take n ((c ∷ cs) ++ letter ∷ [])) ((c ∷ cs) ++ letter ∷ []) ≡ c ∷ cs
letter_by c cs letter n e is =
    ap (λ m. cond (is_l (get_or ((c ∷ cs) ++ letter ∷ []) m 0)) (take m ((c ∷ cs) ++ letter ∷ [])) ((c ∷ cs) ++ letter ∷ [])) e
    ∙ ap (λ b. cond b (take (length (c ∷ cs)) ((c ∷ cs) ++ letter ∷ [])) ((c ∷ cs) ++ letter ∷ [])) (ap is_l (last_one (c ∷ cs) letter) ∙ is)
    ∙ take-append_seam (c ∷ cs) (letter ∷ [])

pub letter_goes : LetterGoes
letter_goes [] letter is = ap (λ b. cond b [] (letter ∷ [])) is
letter_goes (c ∷ cs) letter is = letter_by c cs letter (length (cs ++ letter ∷ [])) (let l = length-append cs (letter ∷ []) in omega arith) is

sizes : (c : ℤ) → unsigned_abs (int_div c (pos 1000000)) * 1000000 + unsigned_abs (int_rem c (pos 1000000)) ≡ unsigned_abs c
sizes (pos n) = omega (arith, ints)
sizes (negsuc n) = omega (arith, ints)

pub whole_towards_zero : WholeTowardsZero
whole_towards_zero c = (int_rem c (pos 1000000), quot-rem c (pos 1000000), rem_below c (pos 1000000) (omega arith), sizes c)

abbrev low : ℤ → ℕ
low n = unsigned_abs (int_rem_euclid n (pos 4294967296))

euclid : (n : ℤ) → (low n < 4294967296) × (n ≡ int_div_euclid n (pos 4294967296) *ℤ pos 4294967296 +ℤ pos (low n))
euclid (pos n) = (omega (arith, ints), omega (arith, ints))
euclid (negsuc n) = (omega (arith, ints), omega (arith, ints))

small : (u : ℕ) → u < 2147483648 → to_z w32 u ≡ pos u
small u h = omega (arith, ints)

great : (u : ℕ) → 2147483648 ≤ u → u < 4294967296 → to_z w32 u +ℤ pos 4294967296 ≡ pos u
great u h k =
    let n = 4294967295 - u in
    let e : u ≡ 4294967296 - suc n = omega arith in
    let below : n < 2147483648 = omega arith in
    let is : to_z w32 u ≡ negsuc n = ap (to_z w32) e ∙ to_z-neg w32 n below in
    omega (arith, ints)

wraps_by : (n q : ℤ) (u : ℕ) (b : Bool) → ltb u 2147483648 ≡ b → u < 4294967296 → n ≡ q *ℤ pos 4294967296 +ℤ pos u → (k : ℤ) × (to_z w32 u +ℤ k *ℤ pos 4294967296 ≡ n)
wraps_by n q u true e h is = let s = small u (ltb-true u 2147483648 e) in (q, omega (arith, ints))
wraps_by n q u false e h is = let s = great u (ltb-false u 2147483648 e) h in (q +ℤ pos 1, omega (arith, ints))

pub wraps_bits : WrapsBits
unfolding int_wrap
wraps_bits n = let e = euclid n in (SFits-int_wrap w32 n, wraps_by n (int_div_euclid n (pos 4294967296)) (low n) (ltb (low n) 2147483648) refl e.0 e.1)
