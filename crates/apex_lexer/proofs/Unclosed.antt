-- Brackets that no bracket closes.
use Rattle.std.proofs.Common.{◌≡◌, ⊎_elim, ℕ, zero, suc, ◌+◌, ◌-◌, ◌<◌, ◌≤◌, ◌&&◌, nat_lt, Bool, true, false, List, [], ◌∷◌, ◌++◌, length, take, drop, get_or, refl, sym, ap, subst, ◌∙◌, arith, length-append, append_assoc}
use Rattle.std.proofs.lemmas.List.{length-take-le, take-append-le, take-append-drop, take_more}
use Rattle.std.proofs.Math.Seq.{take-length, drop-cons}
use Rattle.std.proofs.lemmas.Bool.Decides.{leb_tells}
use Rattle.apex_lexer.specs.declared.brackets.Bracket.{Bracket}
use Rattle.apex_lexer.specs.declared.brackets.Bracket.TheVariants.{Opens, Closes, Neither}
use Rattle.apex_lexer.specs.declared.brackets.Part.{Part}
use Rattle.apex_lexer.specs.declared.brackets.Part.TheVariants.{Code}
use Rattle.apex_lexer.specs.Brackets.{next, bracket, part_after, opened_by, opened, closing_by, closing, inside}
use Rattle.apex_lexer.specs.Unclosed.{noted, unclosed_by, unclosed, IsBelow, HasLooked}

take_all : (n : ℕ) (xs : List ℕ) → length xs ≤ n → take n xs ≡ xs
take_all zero [] le = refl
take_all zero (x ∷ xs) le = absurd (omega arith)
take_all (suc n) [] le = refl
take_all (suc n) (x ∷ xs) le = ap (λ l. x ∷ l) (take_all n xs (omega arith))

take_shorter : (m n : ℕ) (xs : List ℕ) → m ≤ n → take m (take n xs) ≡ take m xs
take_shorter zero n xs le = refl
take_shorter (suc m) zero xs le = absurd (omega arith)
take_shorter (suc m) (suc n) [] le = refl
take_shorter (suc m) (suc n) (x ∷ xs) le = ap (λ l. x ∷ l) (take_shorter m n xs (omega arith))

-- the brackets that stay open in the end, from the places of those that are open
abbrev pub finish : Part → List ℕ → ℕ → List ℕ → List ℕ
finish part places at rest = take (length places - closing part rest) places ++ unclosed part at rest

step : (k : Bracket) (places : List ℕ) (at c : ℕ) (more : List ℕ) → take (length places - closing_by k c) places ++ unclosed_by k c at more ≡ take (length (noted k at places) - c) (noted k at places) ++ more
step Opens places at zero more =
    let whole : length places - 0 ≡ length places = omega arith in
    let longer : length (places ++ at ∷ []) - 0 ≡ length (places ++ at ∷ []) = omega arith in
    ap (λ n. take n places ++ at ∷ more) whole ∙ ap (λ l. l ++ at ∷ more) (take-length places) ∙ sym (append_assoc places (at ∷ []) more)
    ∙ ap (λ l. l ++ more) (sym (take-length (places ++ at ∷ []))) ∙ ap (λ n. take n (places ++ at ∷ []) ++ more) (sym longer)
step Opens places at (suc c) more =
    let n : length (places ++ at ∷ []) ≡ length places + 1 = length-append places (at ∷ []) in
    let m : length (places ++ at ∷ []) - suc c ≡ length places - c = omega arith in
    let k : length places - (suc c - 1) ≡ length places - c = omega arith in
    ap (λ j. take j places ++ more) k ∙ ap (λ l. l ++ more) (sym (take-append-le (length places - c) places (at ∷ []) (omega arith)) ∙ ap (λ j. take j (places ++ at ∷ [])) (sym m))
step Closes places at c more =
    let n : length (take (length places - 1) places) ≡ length places - 1 = length-take-le (length places - 1) places (omega arith) in
    let m : length (take (length places - 1) places) - c ≡ length places - suc c = omega arith in
    ap (λ l. l ++ more) (sym (take_shorter (length places - suc c) (length places - 1) places (omega arith)) ∙ ap (λ j. take j (take (length places - 1) places)) (sym m))
step Neither places at c more = refl

pub finish_step : (part : Part) (places : List ℕ) (at b : ℕ) (bs : List ℕ) → finish part places at (b ∷ bs) ≡ finish (next part b) (noted (bracket part b) at places) (suc at) bs
finish_step part places at b bs = step (bracket part b) places at (closing (next part b) bs) (unclosed (next part b) (suc at) bs)

-- the places of the open brackets behind bytes
abbrev walk : Part → List ℕ → ℕ → List ℕ → List ℕ
walk part places at [] = places
walk part places at (b ∷ bs) = walk (next part b) (noted (bracket part b) at places) (suc at) bs

finish_walk : (part : Part) (places : List ℕ) (at : ℕ) (w t : List ℕ) → finish part places at (w ++ t) ≡ finish (part_after part w) (walk part places at w) (at + length w) t
finish_walk part places at [] t = ap (λ n. finish part places n t) (omega arith)
finish_walk part places at (b ∷ w) t =
    finish_step part places at b (w ++ t) ∙ finish_walk (next part b) (noted (bracket part b) at places) (suc at) w t
    ∙ ap (λ n. finish (part_after (next part b) w) (walk (next part b) (noted (bracket part b) at places) (suc at) w) n t) (omega arith)

noted_depth : (k : Bracket) (at : ℕ) (places : List ℕ) → length (noted k at places) ≡ opened_by k (length places)
noted_depth Opens at places = length-append places (at ∷ []) ∙ omega arith
noted_depth Closes at places = length-take-le (length places - 1) places (omega arith)
noted_depth Neither at places = refl

walk_depth : (part : Part) (places : List ℕ) (at : ℕ) (w : List ℕ) → length (walk part places at w) ≡ opened part (length places) w
walk_depth part places at [] = refl
walk_depth part places at (b ∷ w) =
    walk_depth (next part b) (noted (bracket part b) at places) (suc at) w ∙ ap (λ n. opened (next part b) n w) (noted_depth (bracket part b) at places)

abbrev AllBelow : ℕ → List ℕ → Type 0
AllBelow at [] = Unit {0}
AllBelow at (x ∷ xs) = (x < at) × AllBelow at xs

abbrev AllFrom : ℕ → List ℕ → Type 0
AllFrom at [] = Unit {0}
AllFrom at (x ∷ xs) = (at ≤ x) × AllFrom at xs

below_more : (a b : ℕ) (xs : List ℕ) → a ≤ b → AllBelow a xs → AllBelow b xs
below_more a b [] le h = tt
below_more a b (x ∷ xs) le h = (let l = h.0 in omega arith, below_more a b xs le h.1)

below_take : (at n : ℕ) (xs : List ℕ) → AllBelow at xs → AllBelow at (take n xs)
below_take at zero xs h = tt
below_take at (suc n) [] h = tt
below_take at (suc n) (x ∷ xs) h = (h.0, below_take at n xs h.1)

below_end : (at x : ℕ) (xs : List ℕ) → x < at → AllBelow at xs → AllBelow at (xs ++ x ∷ [])
below_end at x [] lt h = (lt, tt)
below_end at x (y ∷ xs) lt h = (h.0, below_end at x xs lt h.1)

noted_below : (k : Bracket) (at : ℕ) (places : List ℕ) → AllBelow at places → AllBelow (suc at) (noted k at places)
noted_below Opens at places h = below_end (suc at) at places (omega arith) (below_more at (suc at) places (omega arith) h)
noted_below Closes at places h = below_take (suc at) (length places - 1) places (below_more at (suc at) places (omega arith) h)
noted_below Neither at places h = below_more at (suc at) places (omega arith) h

walk_below : (part : Part) (places : List ℕ) (at : ℕ) (w : List ℕ) → AllBelow at places → AllBelow (at + length w) (walk part places at w)
walk_below part places at [] h = subst (λ n. AllBelow n places) (omega arith) h
walk_below part places at (b ∷ w) h =
    subst (λ n. AllBelow n (walk (next part b) (noted (bracket part b) at places) (suc at) w)) (omega arith)
    (walk_below (next part b) (noted (bracket part b) at places) (suc at) w (noted_below (bracket part b) at places h))

from_more : (a b : ℕ) (xs : List ℕ) → a ≤ b → AllFrom b xs → AllFrom a xs
from_more a b [] le h = tt
from_more a b (x ∷ xs) le h = (let l = h.0 in omega arith, from_more a b xs le h.1)

by_from : (k : Bracket) (c at : ℕ) (more : List ℕ) → AllFrom at more → AllFrom at (unclosed_by k c at more)
by_from Opens zero at more h = (omega arith, h)
by_from Opens (suc c) at more h = h
by_from Closes c at more h = h
by_from Neither c at more h = h

unclosed_from : (part : Part) (at : ℕ) (bs : List ℕ) → AllFrom at (unclosed part at bs)
unclosed_from part at [] = tt
unclosed_from part at (b ∷ bs) =
    by_from (bracket part b) (closing (next part b) bs) at (unclosed (next part b) (suc at) bs) (from_more at (suc at) (unclosed (next part b) (suc at) bs) (omega arith) (unclosed_from (next part b) (suc at) bs))

-- where the places below one end
split : (xs ys : List ℕ) (k at : ℕ) → AllBelow at xs → AllFrom at ys → k ≤ length (xs ++ ys) → ((i : ℕ) → i < k → get_or (xs ++ ys) i 0 < at) → (k < length (xs ++ ys) → at ≤ get_or (xs ++ ys) k 0) → k ≡ length xs
split [] [] k at hx hy le low high = omega arith
split [] (y ∷ ys) zero at hx hy le low high = refl
split [] (y ∷ ys) (suc k) at hx hy le low high = absurd (let a = low 0 (omega arith) in let b = hy.0 in omega arith)
split (x ∷ xs) ys zero at hx hy le low high = absurd (let a = high (omega arith) in let b = hx.0 in omega arith)
split (x ∷ xs) ys (suc k) at hx hy le low high =
    ap suc (split xs ys k at hx.1 hy (omega arith) (λ i lt. low (suc i) (omega arith)) (λ lt. high (omega arith)))

not_less : (n : ℕ) → nat_lt n n ≡ false
not_less n = ⊎_elim (λ h. absurd (let l = h.1 in omega arith)) (λ h. h.0) (leb_tells (suc n) n)

positive : (n : ℕ) → nat_lt 0 (suc n) ≡ true
positive n = ⊎_elim (λ h. h.0) (λ h. absurd (let l = h.1 in omega arith)) (leb_tells 1 (suc n))

both_pos : (m n : ℕ) → (nat_lt 0 (suc m) && nat_lt 0 (suc n)) ≡ true
both_pos m n = ap (λ t. t && nat_lt 0 (suc n)) (positive m) ∙ positive n

between : (passed depth c : ℕ) → passed ≡ depth - c → nat_lt passed depth ≡ (nat_lt 0 depth && nat_lt 0 c)
between passed zero c e = let z : passed ≡ 0 = omega arith in ap (λ n. nat_lt n 0) z
between passed (suc d) zero e =
    let z : passed ≡ suc d = omega arith in ap (λ n. nat_lt n (suc d)) z ∙ not_less (suc d) ∙ sym (ap (λ t. t && nat_lt 0 0) (positive d))
between passed (suc d) (suc c) e =
    ⊎_elim (λ h. h.0 ∙ sym (both_pos d c)) (λ h. absurd (let l = h.1 in omega arith)) (leb_tells (suc passed) (suc d))

take_none : (n : ℕ) → take {A = ℕ} n [] ≡ []
take_none zero = refl
take_none (suc n) = refl

pub at_start : (bs : List ℕ) → finish Code [] 0 bs ≡ unclosed Code 0 bs
at_start bs = ap (λ l. l ++ unclosed Code 0 bs) (take_none (0 - closing Code bs))

-- what the cursor's numbers say of a place
pub is_inside : (text : List ℕ) (at passed depth : ℕ) (part : Part) (places : List ℕ) → at ≤ length text → part ≡ part_after Code (take at text) → depth ≡ opened Code 0 (take at text) → places ≡ unclosed Code 0 text
    → IsBelow places passed at → (passed < length places → at ≤ get_or places passed 0) → nat_lt passed depth ≡ inside text at
is_inside text at passed depth part places within part_is depth_is places_are low high =
    let w = take at text in
    let t = drop at text in
    let zn : 0 + length w ≡ at = let n : length w ≡ at = length-take-le at text within in omega arith in
    let stack = walk Code [] 0 w in
    let deep : length stack ≡ depth = walk_depth Code [] 0 w ∙ sym depth_is in
    let c = closing (part_after Code w) t in
    let front = take (length stack - c) stack in
    let behind = unclosed (part_after Code w) at t in
    let whole : places ≡ front ++ behind =
    places_are ∙ ap (unclosed Code 0) (sym (take-append-drop at text)) ∙ sym (at_start (w ++ t)) ∙ finish_walk Code [] 0 w t ∙ ap (λ m. finish (part_after Code w) stack m t) zn in
    let small : AllBelow at front = below_take at (length stack - c) stack (subst (λ m. AllBelow m stack) zn (walk_below Code [] 0 w tt)) in
    let long : length front ≡ length stack - c = length-take-le (length stack - c) stack (omega arith) in
    let low' : IsBelow (front ++ behind) passed at = subst (λ l. IsBelow l passed at) whole low in
    let high' : passed < length (front ++ behind) → at ≤ get_or (front ++ behind) passed 0 = subst (λ l. passed < length l → at ≤ get_or l passed 0) whole high in
    let is : passed ≡ length front = split front behind passed at small (unclosed_from (part_after Code w) at t) low'.0 low'.1 high' in
    between passed depth c (is ∙ long ∙ ap (λ m. m - c) deep) ∙ ap (λ m. nat_lt 0 depth && nat_lt 0 c) part_is ∙ ap (λ m. nat_lt 0 m && nat_lt 0 c) depth_is

-- ---- one byte more

part_end : (part : Part) (w : List ℕ) (b : ℕ) → part_after part (w ++ b ∷ []) ≡ next (part_after part w) b
part_end part [] b = refl
part_end part (x ∷ w) b = part_end (next part x) w b

opened_end : (part : Part) (depth : ℕ) (w : List ℕ) (b : ℕ) → opened part depth (w ++ b ∷ []) ≡ opened_by (bracket (part_after part w) b) (opened part depth w)
opened_end part depth [] b = refl
opened_end part depth (x ∷ w) b = opened_end (next part x) (opened_by (bracket part x) depth) w b

by_most : (k : Bracket) (depth : ℕ) → opened_by k depth ≤ suc depth
by_most Opens depth = omega arith
by_most Closes depth = omega arith
by_most Neither depth = omega arith

pub opened_most : (part : Part) (depth : ℕ) (w : List ℕ) → opened part depth w ≤ depth + length w
opened_most part depth [] = omega arith
opened_most part depth (b ∷ w) = let m = by_most (bracket part b) depth in let n = opened_most (next part b) (opened_by (bracket part b) depth) w in omega arith

pub part_more : (text : List ℕ) (i : ℕ) (part p : Part) (b : ℕ) → i < length text → b ≡ get_or text i 0 → part ≡ part_after Code (take i text) → p ≡ next part b → p ≡ part_after Code (take (i + 1) text)
part_more text i part p b lt is before e =
    e ∙ ap (λ q. next q b) before ∙ sym (part_end Code (take i text) b) ∙ ap (λ x. part_after Code (take i text ++ x ∷ [])) is ∙ ap (part_after Code) (sym (take_more text i 0 lt))

pub opened_more : (text : List ℕ) (i : ℕ) (part : Part) (depth d : ℕ) (b : ℕ) → i < length text → b ≡ get_or text i 0 → part ≡ part_after Code (take i text) → depth ≡ opened Code 0 (take i text) → d ≡ opened_by (bracket part b) depth
    → d ≡ opened Code 0 (take (i + 1) text)
opened_more text i part depth d b lt is before was e =
    e ∙ ap (λ q. opened_by (bracket q b) depth) before ∙ ap (opened_by (bracket (part_after Code (take i text)) b)) was ∙ sym (opened_end Code 0 (take i text) b)
    ∙ ap (λ x. opened Code 0 (take i text ++ x ∷ [])) is ∙ ap (opened Code 0) (sym (take_more text i 0 lt))

pub unclosed_preserved : (text : List ℕ) (i : ℕ) (part : Part) (places : List ℕ) (k : Bracket) (more : List ℕ) (p : Part) → i < length text → finish part places i (drop i text) ≡ unclosed Code 0 text
    → k ≡ bracket part (get_or text i 0) → more ≡ noted k i places → p ≡ next part (get_or text i 0) → finish p more (i + 1) (drop (i + 1) text) ≡ unclosed Code 0 text
unclosed_preserved text i part places k more p lt same ke me pe =
    let b = get_or text i 0 in
    let one : i + 1 ≡ suc i = omega arith in
    ap (λ q. finish q more (i + 1) (drop (i + 1) text)) pe ∙ ap (λ l. finish (next part b) l (i + 1) (drop (i + 1) text)) (me ∙ ap (λ j. noted j i places) ke)
    ∙ ap (λ n. finish (next part b) (noted (bracket part b) i places) n (drop n text)) one
    ∙ sym (finish_step part places i b (drop (suc i) text)) ∙ ap (finish part places i) (sym (drop-cons text i 0 lt)) ∙ same

pub looked_places : (b : Bool) (places text : List ℕ) → b ≡ true → HasLooked b places text → places ≡ unclosed Code 0 text
looked_places true places text e h = h
looked_places false places text e h = cc
