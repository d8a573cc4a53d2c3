-- The laws of the methods of String that say where nothing is changed or found, and what is done at the first occurrence.
use Rattle.std.proofs.Common.{arith, nat_le, le-leb, leb-true, ◌≡◌, ◌+◌, ◌-◌, ◌<◌, ◌≤◌, ◌&&◌, MatchOption, zero, suc, ℕ, Bool, true, false, cond, List, [], ◌∷◌, ◌++◌, length, take, drop, refl, sym, ap, ◌∙◌, Some, None, option_map, pos, negsuc, inl, inr, ◌⊎◌, ⊎_elim, chars}
use Rattle.std.specs.Char.{to_ascii_lowercase, to_ascii_uppercase}
use Rattle.std.specs.Int.{IsInRange}
use Rattle.std.proofs.lemmas.Bool.{and_parts, and_from, false_from_ne_true, cases_lt, lt-leb}
use Rattle.std.proofs.lemmas.Int.{ints}
use Rattle.std.proofs.lemmas.Str.Ascii.{uppercase_is, lowercase_is}
use Rattle.std.proofs.lemmas.List.{drop_all, take-append-drop, length-drop, length-take}
use Rattle.std.proofs.Math.Seq.{drop-append_seam}
use Rattle.text_methods.specs.Texts.{place, begins, first_of, ends}
use Rattle.text_methods.specs.Laws.{AreWithin, PartExactly, LeftIsFront, RightIsBack, MidIsLeft, FirstFromEnds, StartStays, EndStays, ReplacedFromFirst, CountedFromFirst, FirstIsLarge, FirstIsSmall, PadsItsSide}
use Rattle.text_methods.proofs.Occurs.{begins_gives, all_of}
use Rattle.text_methods.proofs.Counts.{matches_more, replace_more}

-- ---- parts

within_or_not : (i j : ℕ) (cs : List ℕ) (b : Bool) → (nat_le i j && nat_le j (length cs)) ≡ b → MatchOption (cond b (Some (take (j - i) (drop i cs))) None) (AreWithin (pos i) (pos j) cs → ⊥) (λ r. AreWithin (pos i) (pos j) cs)
within_or_not i j cs true e = let p = and_parts (nat_le i j) (nat_le j (length cs)) e in (i, j, refl, refl, leb-true i j p.0, leb-true j (length cs) p.1)
within_or_not i j cs false e = λ (a, b, n, m, le, fits).
    absurd (cc (sym e ∙ and_from (nat_le i j) (nat_le j (length cs)) (le-leb i j (omega (arith, ints))) (le-leb j (length cs) (omega (arith, ints)))))

pub part_exactly : PartExactly
part_exactly (pos i) (pos j) cs = within_or_not i j cs (nat_le i j && nat_le j (length cs)) refl
part_exactly (negsuc i) m cs = λ (a, b, n, m, le, fits). absurd (cc)
part_exactly (pos i) (negsuc j) cs = λ (a, b, n, m, le, fits). absurd (cc)

pub left_is_front : LeftIsFront
left_is_front n cs = ((drop n cs, sym (take-append-drop n cs)), length-take n cs, refl)

pub right_is_back : RightIsBack
right_is_back n cs =
    let k = length cs - n in
    let l = length-drop k cs in
    ((take k cs, sym (take-append-drop k cs)), omega arith, drop_all (length cs - 0) cs (omega arith))

nothing_taken : (k : ℕ) (cs : List ℕ) → cs ≡ [] → take k cs ≡ []
nothing_taken zero cs e = refl
nothing_taken (suc k) [] e = refl
nothing_taken (suc k) (c ∷ cs) e = absurd (cc)

pub mid_is_left : MidIsLeft
mid_is_left m front back = (
  ap (take (place m)) (drop-append_seam front back),
  λ n. nothing_taken (place m) (drop (length front + n) front) (drop_all (length front + n) front (omega arith)),
  λ n. refl,
)

-- ---- where a text occurs

pub first_from_ends : FirstFromEnds
first_from_ends n ts cs lt = ap (λ b. cond b (option_map (λ k. n + k) (first_of ts (drop n cs))) None) (lt-leb n (length cs) lt)

pub start_stays : StartStays
start_stays ts cs h =
    ap (λ b. cond b (drop (length ts) cs) cs) (false_from_ne_true (begins ts cs) (λ e. h (drop (length ts) cs) (begins_gives ts cs e)))

pub end_stays : EndStays
end_stays ts cs h =
    let d = length cs - length ts in
    ap (λ b. cond b (take d cs) cs) (false_from_ne_true (ends ts cs) (λ e.
    let p = and_parts (nat_le (length ts) (length cs)) (begins ts (drop d cs)) e in
    let le = leb-true (length ts) (length cs) p.0 in
    let l = length-drop d cs in
    h (take d cs) (sym (take-append-drop d cs) ∙ ap (λ x. take d cs ++ x) (all_of ts (drop d cs) p.1 (omega arith)))))

-- ---- all occurrences

pub replaced_from_first : ReplacedFromFirst
replaced_from_first t ts us cs front back is e = replace_more us (t ∷ ts) cs front back (omega arith) e is

pub counted_from_first : CountedFromFirst
counted_from_first t ts cs front back is e = matches_more (t ∷ ts) cs front back (omega arith) e is ∙ (omega arith)

-- ---- letters

not_small : (c : ℕ) → (IsInRange 97 122 c → ⊥) → (c < 97) ⊎ (97 ≤ c) → to_ascii_uppercase c ≡ c
not_small c h (inl lt) = (uppercase_is c).1 lt
not_small c h (inr le) = ⊎_elim (λ lt. (uppercase_is c).2 lt) (λ le'. absurd (h (le, le'))) (cases_lt 122 c)

pub first_is_large : FirstIsLarge
first_is_large c cs = (
  λ r. ap (λ x. x ∷ cs) (let e = (uppercase_is c).0 r in omega arith),
  λ h. ap (λ x. x ∷ cs) (not_small c h (cases_lt c 97)),
)

not_large : (c : ℕ) → (IsInRange 65 90 c → ⊥) → (c < 65) ⊎ (65 ≤ c) → to_ascii_lowercase c ≡ c
not_large c h (inl lt) = (lowercase_is c).1 lt
not_large c h (inr le) = ⊎_elim (λ lt. (lowercase_is c).2 lt) (λ le'. absurd (h (le, le'))) (cases_lt 90 c)

pub first_is_small : FirstIsSmall
first_is_small c cs = (λ r. ap (λ x. x ∷ cs) ((lowercase_is c).0 r), λ h. ap (λ x. x ∷ cs) (not_large c h (cases_lt c 65)))

-- ---- blanks

pub pads_its_side : PadsItsSide
pads_its_side n bs = (n - length (chars bs), refl, refl)
