-- The laws of the methods of String.
use Rattle.std.proofs.Common.{arith, nat_le, max, le-leb, leb-true, append-nil, ◌≡◌, ◌+◌, ◌-◌, ◌<◌, ◌≤◌, ◌&&◌, ◌↔◌, MatchOption, is_some, zero, suc, ℕ, Bool, true, false, eqb, cond, List, [], ◌∷◌, ◌++◌, length, take, drop, map, reverse, chars, codes, get_or, EachIndex, refl, sym, ap, ap₂, ◌∙◌, Option, Some, None, option_map, not, inl, inr, ◌⊎◌}
use Rattle.std.specs.List.{list_all, repeat}
use Rattle.std.specs.Char.{to_ascii_lowercase, to_ascii_uppercase, is_ascii_digit, is_whitespace}
use Rattle.std.proofs.lemmas.Bool.{and_parts, and_from}
use Rattle.std.proofs.lemmas.Bool.Decides.{nat_tests}
use Rattle.std.proofs.lemmas.Str.{chars-append, chars-IsAscii, IsUtf8-from_ascii}
use Rattle.std.proofs.lemmas.Str.Ascii.{lowercase-uppercase, lowercase-lowercase}
use Rattle.std.proofs.lemmas.List.{drop_all, drop-drop, take-append-drop, length-append, length-drop, length-take, reverse-append, reverse-reverse}
use Rattle.std.proofs.lemmas.List.Folds.{list_all-append}
use Rattle.std.proofs.lemmas.List.Prefix.{front_rest, front_fits}
use Rattle.std.proofs.Math.Seq.{take-append_seam, drop-append_seam}
use Rattle.text_methods.specs.Texts.{begins, first_of, last_of, later, up_to, behind, ends, replaced, counted, without_low, trimmed}
use Rattle.text_methods.specs.Laws.{LengthAdds, PartFits, Splits, ContainsSplits, StartSplits, EndSplits, IsFirst, FirstSplits, IsLast, LastSplits, BeforeAndAfter, StartGoes, EndGoes, ReplacedByItself, ReplacedNowhere, CountedNowhere, RemovedSize, CaseFolds, AllLow, TrimsBothEnds, PadsTo, RepeatedSize, NumericIsDigits, BlankIsWhite}
use Rattle.text_methods.proofs.Occurs.{begins_front, begins_gives, all_of}
use Rattle.text_methods.proofs.Counts.{counted_found, counted_none, replace_none, replace_size}
use Rattle.text_methods.proofs.Walks.{length_repeat, repeat_length}

-- ---- parts

pub length_adds : LengthAdds
length_adds s t u = ap length (chars-append s t u) ∙ length-append (chars s) (chars t)

pub part_fits : PartFits
part_fits n m cs le within =
    let r = take (m - n) (drop n cs) in
    let rest : drop m cs ≡ drop (m - n) (drop n cs) = sym (drop-drop (m - n) n cs ∙ ap (λ k. drop k cs) (omega arith)) in
    (r, rw (le-leb n m le, le-leb m (length cs) within) refl, ap (λ l. take n cs ++ (r ++ l)) rest ∙ ap (λ l. take n cs ++ l) (take-append-drop (m - n) (drop n cs)) ∙ take-append-drop n cs)

-- ---- where a text occurs

abbrev Nowhere : List ℕ → List ℕ → Type 0
Nowhere ts cs = (q : ℕ) → q ≤ length cs → begins ts (drop q cs) ≡ false

record FirstAt (ts cs : List ℕ) (n : ℕ) : Type 0 where
  within : n ≤ length cs
  here : begins ts (drop n cs) ≡ true
  earlier : (q : ℕ) → q < n → begins ts (drop q cs) ≡ false

record LastAt (ts cs : List ℕ) (n : ℕ) : Type 0 where
  within : n ≤ length cs
  here : begins ts (drop n cs) ≡ true
  later_not : (q : ℕ) → n < q → q ≤ length cs → begins ts (drop q cs) ≡ false

nowhere_more : (ts cs : List ℕ) (c : ℕ) → begins ts (c ∷ cs) ≡ false → Nowhere ts cs → Nowhere ts (c ∷ cs)
nowhere_more ts cs c e h zero le = e
nowhere_more ts cs c e h (suc q) le = h q (omega arith)

earlier_more : (ts cs : List ℕ) (c n : ℕ) → begins ts (c ∷ cs) ≡ false → ((q : ℕ) → q < n → begins ts (drop q cs) ≡ false) → (q : ℕ) → q < suc n → begins ts (drop q (c ∷ cs)) ≡ false
earlier_more ts cs c n e h zero lt = e
earlier_more ts cs c n e h (suc q) lt = h q (omega arith)

first_step : (ts cs : List ℕ) (c : ℕ) (b : Bool) → begins ts (c ∷ cs) ≡ b → (r : Option ℕ) → MatchOption r (Nowhere ts cs) (FirstAt ts cs) → MatchOption (cond b (Some 0) (option_map suc r)) (Nowhere ts (c ∷ cs)) (FirstAt ts (c ∷ cs))
first_step ts cs c true e r h = record { within = omega arith; here = e; earlier = λ q lt. absurd (omega arith) }
first_step ts cs c false e None h = nowhere_more ts cs c e h
first_step ts cs c false e (Some n) h = record { within = let w = h.within in omega arith; here = h.here; earlier = earlier_more ts cs c n e h.earlier }

nowhere_nil : (ts : List ℕ) → begins ts [] ≡ false → Nowhere ts []
nowhere_nil ts e q le = ap (λ l. begins ts l) (drop_all q [] (omega arith)) ∙ e

first_nil : (ts : List ℕ) (b : Bool) → begins ts [] ≡ b → MatchOption (cond b (Some 0) None) (Nowhere ts []) (FirstAt ts [])
first_nil ts true e = record { within = omega arith; here = e; earlier = λ q lt. absurd (omega arith) }
first_nil ts false e = nowhere_nil ts e

first_means : (ts cs : List ℕ) → MatchOption (first_of ts cs) (Nowhere ts cs) (FirstAt ts cs)
first_means ts [] = first_nil ts (begins ts []) refl
first_means ts (c ∷ cs) = first_step ts cs c (begins ts (c ∷ cs)) refl (first_of ts cs) (first_means ts cs)

last_here : (ts cs : List ℕ) (c : ℕ) (b : Bool) → begins ts (c ∷ cs) ≡ b → Nowhere ts cs → MatchOption (cond b (Some 0) None) (Nowhere ts (c ∷ cs)) (LastAt ts (c ∷ cs))
last_here ts cs c true e h = record { within = omega arith; here = e; later_not = behind_it } where
  behind_it : (q : ℕ) → 0 < q → q ≤ length (c ∷ cs) → begins ts (drop q (c ∷ cs)) ≡ false
  behind_it zero lt le = absurd (omega arith)
  behind_it (suc q) lt le = h q (omega arith)
last_here ts cs c false e h = nowhere_more ts cs c e h

last_step : (ts cs : List ℕ) (c : ℕ) (r : Option ℕ) → MatchOption r (Nowhere ts cs) (LastAt ts cs) → MatchOption (later r (begins ts (c ∷ cs))) (Nowhere ts (c ∷ cs)) (LastAt ts (c ∷ cs))
last_step ts cs c None h = last_here ts cs c (begins ts (c ∷ cs)) refl h
last_step ts cs c (Some n) h = record { within = let w = h.within in omega arith; here = h.here; later_not = behind_it } where
  behind_it : (q : ℕ) → suc n < q → q ≤ length (c ∷ cs) → begins ts (drop q (c ∷ cs)) ≡ false
  behind_it zero lt le = absurd (omega arith)
  behind_it (suc q) lt le = h.later_not q (omega arith) (omega arith)

last_nil : (ts : List ℕ) (b : Bool) → begins ts [] ≡ b → MatchOption (cond b (Some 0) None) (Nowhere ts []) (LastAt ts [])
last_nil ts true e = record { within = omega arith; here = e; later_not = λ q lt le. absurd (omega arith) }
last_nil ts false e = nowhere_nil ts e

last_means : (ts cs : List ℕ) → MatchOption (last_of ts cs) (Nowhere ts cs) (LastAt ts cs)
last_means ts [] = last_nil ts (begins ts []) refl
last_means ts (c ∷ cs) = last_step ts cs c (last_of ts cs) (last_means ts cs)

-- a place where it begins, and a text in three
split_at : (ts cs : List ℕ) (n : ℕ) → begins ts (drop n cs) ≡ true → Splits cs (take n cs) ts (drop (length ts) (drop n cs))
split_at ts cs n e = sym (take-append-drop n cs) ∙ ap (λ l. take n cs ++ l) (begins_gives ts (drop n cs) e)

begins_at : (ts cs front back : List ℕ) → Splits cs front ts back → (length front ≤ length cs) × (begins ts (drop (length front) cs) ≡ true)
begins_at ts cs front back is = (front_fits cs front (ts ++ back) is, ap (λ l. begins ts l) (front_rest cs front (ts ++ back) is) ∙ begins_front ts back)

taken : (cs : List ℕ) (n : ℕ) → n ≤ length cs → length (take n cs) ≡ n
taken cs n le = let l = length-take n cs in omega arith

lt_or : (n m : ℕ) → (n ≤ m) ⊎ (m < n)
lt_or zero m = inl (omega arith)
lt_or (suc n) zero = inr (omega arith)
lt_or (suc n) (suc m) = elim (lt_or n m) [
  | inl le ↦ inl (omega arith)
  | inr lt ↦ inr (omega arith)
]

no_split : (ts cs : List ℕ) → Nowhere ts cs → (front back : List ℕ) → Splits cs front ts back → ⊥
no_split ts cs h front back is = let b = begins_at ts cs front back is in let e = h (length front) b.0 in absurd (cc (sym b.1 ∙ e))

first_by_cases : (ts cs : List ℕ) (r : Option ℕ) → MatchOption r (Nowhere ts cs) (FirstAt ts cs) → MatchOption r ((front back : List ℕ) → Splits cs front ts back → ⊥) (IsFirst ts cs)
first_by_cases ts cs None h = no_split ts cs h
first_by_cases ts cs (Some n) h = ((take n cs, drop (length ts) (drop n cs), split_at ts cs n h.here, taken cs n h.within), λ front back is. not_before front back is (lt_or n (length front))) where
  not_before : (front back : List ℕ) → Splits cs front ts back → (n ≤ length front) ⊎ (length front < n) → n ≤ length front
  not_before front back is (inl le) = le
  not_before front back is (inr lt) = let b = begins_at ts cs front back is in absurd (cc (sym b.1 ∙ h.earlier (length front) lt))

pub first_splits : FirstSplits
first_splits ts cs = first_by_cases ts cs (first_of ts cs) (first_means ts cs)

last_by_cases : (ts cs : List ℕ) (r : Option ℕ) → MatchOption r (Nowhere ts cs) (LastAt ts cs) → MatchOption r ((front back : List ℕ) → Splits cs front ts back → ⊥) (IsLast ts cs)
last_by_cases ts cs None h = no_split ts cs h
last_by_cases ts cs (Some n) h = ((take n cs, drop (length ts) (drop n cs), split_at ts cs n h.here, taken cs n h.within), λ front back is. not_behind front back is (lt_or (length front) n)) where
  not_behind : (front back : List ℕ) → Splits cs front ts back → (length front ≤ n) ⊎ (n < length front) → length front ≤ n
  not_behind front back is (inl le) = le
  not_behind front back is (inr lt) = let b = begins_at ts cs front back is in absurd (cc (sym b.1 ∙ h.later_not (length front) lt b.0))

pub last_splits : LastSplits
last_splits ts cs = last_by_cases ts cs (last_of ts cs) (last_means ts cs)

contains_by : (ts cs : List ℕ) (r : Option ℕ) → MatchOption r ((front back : List ℕ) → Splits cs front ts back → ⊥) (IsFirst ts cs) → (is_some r ≡ true) ↔ ((front : List ℕ) × (back : List ℕ) × Splits cs front ts back)
contains_by ts cs None h = (λ e. absurd (cc), λ s. absurd (h s.0 s.1 s.2))
contains_by ts cs (Some n) h = (λ e. (h.0.0, h.0.1, h.0.2), λ s. refl)

pub contains_splits : ContainsSplits
contains_splits ts cs = contains_by ts cs (first_of ts cs) (first_splits ts cs)

pub start_splits : StartSplits
start_splits ts cs = (λ e. (drop (length ts) cs, begins_gives ts cs e), λ s. ap (begins ts) s.1 ∙ begins_front ts s.0)

ends_with : (ts front : List ℕ) → (ends ts (front ++ ts) ≡ true) × (length (front ++ ts) - length ts ≡ length front)
ends_with ts front =
    let l = length-append front ts in
    let n : length (front ++ ts) - length ts ≡ length front = omega arith in
    let rest : drop (length (front ++ ts) - length ts) (front ++ ts) ≡ ts ++ [] = ap (λ k. drop k (front ++ ts)) n ∙ drop-append_seam front ts ∙ sym (append-nil ts) in (
      and_from (nat_le (length ts) (length (front ++ ts))) (begins ts (drop (length (front ++ ts) - length ts) (front ++ ts)))
          (le-leb (length ts) (length (front ++ ts)) (omega arith)) (ap (begins ts) rest ∙ begins_front ts []),
      n,
    )

pub end_splits : EndSplits
end_splits ts cs = (
  λ e.
      let p = and_parts (nat_le (length ts) (length cs)) (begins ts (drop (length cs - length ts) cs)) e in
      let d = length cs - length ts in
      let le = leb-true (length ts) (length cs) p.0 in
      let l = length-drop d cs in
      (take d cs, sym (take-append-drop d cs) ∙ ap (λ x. take d cs ++ x) (all_of ts (drop d cs) p.1 (omega arith))),
  λ s. ap (ends ts) s.1 ∙ (ends_with ts s.0).0,
)

round_by : (ts cs : List ℕ) (r : Option ℕ) → MatchOption r (Nowhere ts cs) (FirstAt ts cs) → MatchOption r ((up_to r cs ≡ cs) × (behind r (length ts) cs ≡ [])) (λ n. Splits cs (up_to r cs) ts (behind r (length ts) cs) × (length (up_to r cs) ≡ n))
round_by ts cs None h = (refl, refl)
round_by ts cs (Some n) h = (split_at ts cs n h.here ∙ ap (λ l. take n cs ++ (ts ++ l)) (drop-drop (length ts) n cs), taken cs n h.within)

pub before_and_after : BeforeAndAfter
before_and_after ts cs = round_by ts cs (first_of ts cs) (first_means ts cs)

pub start_goes : StartGoes
start_goes ts cs = ap (λ b. cond b (drop (length ts) (ts ++ cs)) (ts ++ cs)) (begins_front ts cs) ∙ drop-append_seam ts cs

pub end_goes : EndGoes
end_goes ts cs =
    let e = ends_with ts cs in
    ap (λ b. cond b (take (length (cs ++ ts) - length ts) (cs ++ ts)) (cs ++ ts)) e.0 ∙ ap (λ n. take n (cs ++ ts)) e.1 ∙ take-append_seam cs ts

-- ---- all occurrences

same_step : (t : ℕ) (ts : List ℕ) (c : ℕ) (cs inside rest : List ℕ) (b : Bool) → begins (t ∷ ts) (c ∷ cs) ≡ b → inside ≡ drop (length ts) cs → rest ≡ cs → cond b ((t ∷ ts) ++ inside) (c ∷ rest) ≡ c ∷ cs
same_step t ts c cs inside rest true e i r = ap (λ l. (t ∷ ts) ++ l) i ∙ sym (begins_gives (t ∷ ts) (c ∷ cs) e)
same_step t ts c cs inside rest false e i r = ap (λ l. c ∷ l) r

replaced_same : (t : ℕ) (ts : List ℕ) (k : ℕ) (cs : List ℕ) → replaced (t ∷ ts) (t ∷ ts) k cs ≡ drop k cs
replaced_same t ts zero [] = refl
replaced_same t ts (suc k) [] = refl
replaced_same t ts (suc k) (c ∷ cs) = replaced_same t ts k cs
replaced_same t ts zero (c ∷ cs) =
    same_step t ts c cs (replaced (t ∷ ts) (t ∷ ts) (length ts) cs) (replaced (t ∷ ts) (t ∷ ts) 0 cs) (begins (t ∷ ts) (c ∷ cs)) refl (replaced_same t ts (length ts) cs) (replaced_same t ts 0 cs)

pub replaced_by_itself : ReplacedByItself
replaced_by_itself [] cs = refl
replaced_by_itself (t ∷ ts) cs = replaced_same t ts 0 cs

pub replaced_nowhere : ReplacedNowhere
replaced_nowhere [] us cs e = refl
replaced_nowhere (t ∷ ts) us cs e = replace_none us (t ∷ ts) cs e (omega arith)

counted_by : (t : ℕ) (ts cs : List ℕ) (r : Option ℕ) → first_of (t ∷ ts) cs ≡ r → (counted (t ∷ ts) 0 cs ≡ 0) ↔ (r ≡ None)
counted_by t ts cs None e = (λ z. refl, λ n. counted_none t ts cs e)
counted_by t ts cs (Some n) e = (λ z. absurd (let h = counted_found t ts cs n e in omega arith), λ n. absurd (cc))

pub counted_nowhere : CountedNowhere
counted_nowhere t ts cs = counted_by t ts cs (first_of (t ∷ ts) cs) refl

pub removed_size : RemovedSize
removed_size ts cs = replace_size [] ts cs ∙ (omega arith)

-- ---- letters

lower_twice : (bs : List ℕ) → map to_ascii_lowercase (map to_ascii_lowercase bs) ≡ map to_ascii_lowercase bs
lower_twice [] = refl
lower_twice (b ∷ bs) = ap₂ (λ x xs. x ∷ xs) (lowercase-lowercase b) (lower_twice bs)

lower_upper : (bs : List ℕ) → map to_ascii_lowercase (map to_ascii_uppercase bs) ≡ map to_ascii_lowercase bs
lower_upper [] = refl
lower_upper (b ∷ bs) = ap₂ (λ x xs. x ∷ xs) (lowercase-uppercase b) (lower_upper bs)

pub case_folds : CaseFolds
case_folds bs = (lower_twice bs, lower_upper bs)

-- ---- blanks

low_front : (cs : List ℕ) → (front : List ℕ) × (cs ≡ front ++ without_low cs) × AllLow front
low_front [] = ([], refl, refl)
low_front (c ∷ cs) = low_step (nat_le c 32) refl (low_front cs) where
  low_step : (b : Bool) → nat_le c 32 ≡ b → (front : List ℕ) × (cs ≡ front ++ without_low cs) × AllLow front → (front : List ℕ) × (c ∷ cs ≡ front ++ cond b (without_low cs) (c ∷ cs)) × AllLow front
  low_step true e (front, is, low) = (c ∷ front, ap (λ l. c ∷ l) is, ap (λ b. b && list_all (λ x. nat_le x 32) front) e ∙ low)
  low_step false e h = ([], refl, refl)

low_reversed : (cs : List ℕ) → AllLow cs → AllLow (reverse cs)
low_reversed [] h = refl
low_reversed (c ∷ cs) h =
    let p = and_parts (nat_le c 32) (list_all (λ x. nat_le x 32) cs) h in
    ap (list_all (λ x. nat_le x 32)) (reverse-append (c ∷ []) cs) ∙ list_all-append (λ x. nat_le x 32) (reverse cs) (c ∷ []) ∙ ap₂ (λ a b. a && (b && true)) (low_reversed cs p.1) p.0

-- what begins with no low scalar still does without the low ones at its end
low_kept : (c : ℕ) → nat_le c 32 ≡ false → (cs : List ℕ) → without_low (cs ++ c ∷ []) ≡ without_low cs ++ c ∷ []
low_kept c e [] = ap (λ b. cond b [] (c ∷ [])) e
low_kept c e (d ∷ cs) = kept (nat_le d 32) (low_kept c e cs) where
  kept : (b : Bool) → without_low (cs ++ c ∷ []) ≡ without_low cs ++ c ∷ [] → cond b (without_low (cs ++ c ∷ [])) (d ∷ (cs ++ c ∷ [])) ≡ cond b (without_low cs) (d ∷ cs) ++ c ∷ []
  kept true h = h
  kept false h = refl

low_twice : (cs : List ℕ) → without_low (without_low cs) ≡ without_low cs
low_twice [] = refl
low_twice (c ∷ cs) = again (nat_le c 32) refl (low_twice cs) where
  again : (b : Bool) → nat_le c 32 ≡ b → without_low (without_low cs) ≡ without_low cs → without_low (cond b (without_low cs) (c ∷ cs)) ≡ cond b (without_low cs) (c ∷ cs)
  again true e h = h
  again false e h = ap (λ b. cond b (without_low cs) (c ∷ cs)) e

-- a text that begins with no low scalar
front_kept : (cs : List ℕ) → without_low cs ≡ cs → without_low (reverse (without_low (reverse cs))) ≡ reverse (without_low (reverse cs))
front_kept [] h = refl
front_kept (c ∷ cs) h = by (nat_le c 32) refl where
  by : (b : Bool) → nat_le c 32 ≡ b → without_low (reverse (without_low (reverse (c ∷ cs)))) ≡ reverse (without_low (reverse (c ∷ cs)))
  by true e =
      let shorter : without_low cs ≡ c ∷ cs = ap (λ b. cond b (without_low cs) (c ∷ cs)) (sym e) ∙ h in
      let f = low_front cs in
      let a = ap length f.1 in let l = length-append f.0 (without_low cs) in let d = ap length shorter in absurd (omega arith)
  by false e =
      let turned : reverse (without_low (reverse (c ∷ cs))) ≡ c ∷ reverse (without_low (reverse cs)) =
      ap (λ l. reverse (without_low l)) (reverse-append (c ∷ []) cs) ∙ ap reverse (low_kept c e (reverse cs)) ∙ reverse-append (without_low (reverse cs)) (c ∷ []) in
      ap without_low turned ∙ ap (λ b. cond b (without_low (reverse (without_low (reverse cs)))) (c ∷ reverse (without_low (reverse cs)))) e ∙ sym turned

pub trims_both_ends : TrimsBothEnds
trims_both_ends cs =
    let t = without_low cs in
    let front = low_front cs in
    let back = low_front (reverse t) in
    let rest : t ≡ trimmed cs ++ reverse back.0 = sym (reverse-reverse t) ∙ ap reverse back.1 ∙ reverse-append back.0 (without_low (reverse t)) in (
      (front.0, reverse back.0, front.1 ∙ ap (λ l. front.0 ++ l) rest, front.2, low_reversed back.0 back.2),
      front_kept t (low_twice cs),
      (
          ap without_low (reverse-reverse (without_low (reverse t))) ∙ low_twice (reverse t) ∙ sym (reverse-reverse (without_low (reverse t)))),
    )

blank_small : (n i : ℕ) → get_or (repeat n (codes " ")) i 0 < 128
blank_small zero i = omega arith
blank_small (suc n) zero = omega arith
blank_small (suc n) (suc i) = blank_small n i

blanks_are : (n : ℕ) → chars (repeat n (codes " ")) ≡ repeat n (codes " ")
blanks_are n = chars-IsAscii (repeat n (codes " ")) (blank_small n)

more : (n k : ℕ) → (n - k) + k ≡ max n k
more n k = omega arith

pub pads_to : PadsTo
pads_to n bs u =
    let k = n - length (chars bs) in
    let pad = repeat k (codes " ") in
    let long : length (chars pad) ≡ k = ap length (blanks_are k) ∙ length_repeat k 32 in
    let left = ap length (chars-append pad bs (IsUtf8-from_ascii pad (blank_small k))) ∙ length-append (chars pad) (chars bs) in
    let right = ap length (chars-append bs pad u) ∙ length-append (chars bs) (chars pad) in
    let most = more n (length (chars bs)) in
    (left ∙ (omega arith) ∙ most, right ∙ (omega arith) ∙ most)

pub repeated_size : RepeatedSize
repeated_size n bs = (repeat_length n bs, refl)

-- each of them, by places
each_all : (p : ℕ → Bool) (cs : List ℕ) → (list_all p cs ≡ true) ↔ EachIndex cs (λ k. p (get_or cs k 0) ≡ true)
each_all p [] = (λ e k lt. absurd (omega arith), λ h. refl)
each_all p (c ∷ cs) = (
  λ e. let q = and_parts (p c) (list_all p cs) e in at q.0 ((each_all p cs).0 q.1),
  λ h. and_from (p c) (list_all p cs) (h 0 (omega arith)) ((each_all p cs).1 (λ k lt. h (suc k) (omega arith))),
) where
  at : p c ≡ true → EachIndex cs (λ k. p (get_or cs k 0) ≡ true) → (k : ℕ) → k < length (c ∷ cs) → p (get_or (c ∷ cs) k 0) ≡ true
  at e h zero lt = e
  at e h (suc k) lt = h k (omega arith)

some_there : (cs : List ℕ) → (not (eqb (length cs) 0) ≡ true) ↔ (0 < length cs)
some_there [] = (λ e. absurd (cc), λ lt. absurd (omega arith))
some_there (c ∷ cs) = (λ e. omega arith, λ lt. grind (arith, nat_tests))

pub numeric_is_digits : NumericIsDigits
numeric_is_digits cs = (
  λ e. let p = and_parts (not (eqb (length cs) 0)) (list_all is_ascii_digit cs) e in ((some_there cs).0 p.0, (each_all is_ascii_digit cs).0 p.1),
  λ h. and_from (not (eqb (length cs) 0)) (list_all is_ascii_digit cs) ((some_there cs).1 h.0) ((each_all is_ascii_digit cs).1 h.1),
)

pub blank_is_white : BlankIsWhite
blank_is_white cs = each_all is_whitespace cs
