-- A sorted list is the only one of its elements, where elements that aren't before each other are the same.
use Rattle.std.proofs.Common.{◌≡◌, ℕ, suc, ◌+◌, ◌<◌, ◌≤◌, Bool, true, false, cond, List, [], ◌∷◌, length, get_or, refl, sym, ap, ◌∙◌, true≢false, arith, IsPermutation}
use Rattle.std.specs.Cmp.{IsStrictWeakOrder}
use Rattle.std.specs.List.{AllByRecursion, fold}
use Rattle.std.specs.List.Sorted.{IsSortedBy}
use Rattle.std.proofs.lemmas.List.Sorted.{sorted_far, sum_by-IsPermutation}

module _ {X : Type 0} (lt : X → X → Bool) (o : IsStrictWeakOrder lt) where
  -- 1 where neither is before the other
  abbrev pub hit : X → X → ℕ
  hit z y = cond (lt z y) 0 (cond (lt y z) 0 1)

  abbrev pub times : X → List X → ℕ
  times z [] = 0
  times z (y ∷ ys) = hit z y + times z ys

  abbrev pub Rises : List X → Type 0
  Rises [] = Unit {0}
  Rises (x ∷ xs) = AllByRecursion (λ y. lt y x ≡ false) xs × Rises xs

  -- ---- how often an element is there

  summed : (z : X) (n : ℕ) (xs : List X) → fold (λ a x. a + hit z x) n xs ≡ n + times z xs
  summed z n [] = omega arith
  summed z n (x ∷ xs) = let h = summed z (n + hit z x) xs in omega (arith, h)

  pub times_kept : (z : X) (xs ys : List X) → IsPermutation xs ys → times z ys ≡ times z xs
  times_kept z xs ys h = let p = sum_by-IsPermutation (hit z) xs ys h in let a = summed z 0 xs in let b = summed z 0 ys in omega (arith, p, a, b)

  self : (x : X) → lt x x ≡ false
  self x = go (lt x x) refl
    where
      go : (b : Bool) → lt x x ≡ b → lt x x ≡ false
      go true e = o.one_way x x e
      go false e = e

  hit_self : (x : X) → hit x x ≡ 1
  hit_self x = (λ i. cond (self x i) 0 (cond (self x i) 0 1))

  -- what is before y is before all that y isn't behind
  before : (x y w : X) → lt x y ≡ true → lt w y ≡ false → lt x w ≡ true
  before x y w h g = go (lt x w) refl
    where
      go : (b : Bool) → lt x w ≡ b → lt x w ≡ true
      go true e = e
      go false e = absurd (true≢false (sym h ∙ o.chain x w y e g))

  none_of : (x y : X) → lt x y ≡ true → (ys : List X) → AllByRecursion (λ w. lt w y ≡ false) ys → times x ys ≡ 0
  none_of x y h [] all = refl
  none_of x y h (w ∷ ws) all =
      let a : hit x w ≡ 0 = ap (λ b. cond b 0 (cond (lt w x) 0 1)) (before x y w h all.0) in
      let b = none_of x y h ws all.1 in
      omega (arith, a, b)

  apart : (x y : X) (xs ys : List X) → lt x y ≡ true → Rises (y ∷ ys) → times x (x ∷ xs) ≡ times x (y ∷ ys) → ⊥
  apart x y xs ys h up e =
      let none : times x (y ∷ ys) ≡ 0 = none_of x y h (y ∷ ys) (self y, up.0) in
      let one = hit_self x in
      omega (arith, none, one, e)

  module _ (exact : (x y : X) → lt x y ≡ false → lt y x ≡ false → x ≡ y) where
    heads : (x y : X) (xs ys : List X) → Rises (x ∷ xs) → Rises (y ∷ ys) → ((z : X) → times z (x ∷ xs) ≡ times z (y ∷ ys)) → x ≡ y
    heads x y xs ys up up' e = go (lt x y) (lt y x) refl refl
      where
        go : (b d : Bool) → lt x y ≡ b → lt y x ≡ d → x ≡ y
        go true d p q = absurd (apart x y xs ys p up' (e x))
        go false true p q = absurd (apart y x ys xs q up (sym (e y)))
        go false false p q = exact x y p q

    pub only_sorted : (xs ys : List X) → Rises xs → Rises ys → ((z : X) → times z xs ≡ times z ys) → xs ≡ ys
    only_sorted [] [] up up' e = refl
    only_sorted [] (y ∷ ys) up up' e = let one = hit_self y in let h = e y in absurd (omega (arith, one, h))
    only_sorted (x ∷ xs) [] up up' e = let one = hit_self x in let h = e x in absurd (omega (arith, one, h))
    only_sorted (x ∷ xs) (y ∷ ys) up up' e =
        let same = heads x y xs ys up up' e in
        let rest : (z : X) → times z xs ≡ times z ys = λ z. (let h = e z in let k : hit z x ≡ hit z y = ap (hit z) same in omega (arith, h, k)) in
        (λ i. same i ∷ only_sorted xs ys up.1 up'.1 rest i)

  -- ---- from places

  all_from : (P : X → Type 0) (xs : List X) → ((j : ℕ) (d : X) → j < length xs → P (get_or xs j d)) → AllByRecursion P xs
  all_from P [] h = tt
  all_from P (x ∷ xs) h = (h 0 x (omega arith), all_from P xs (λ j d l. h (suc j) d (omega arith)))

  rises_from : (xs : List X) → ((i j : ℕ) (d : X) → i ≤ j → j < length xs → lt (get_or xs j d) (get_or xs i d) ≡ false) → Rises xs
  rises_from [] far = tt
  rises_from (x ∷ xs) far = (all_from (λ y. lt y x ≡ false) xs (λ j d l. far 0 (suc j) d (omega arith) (omega arith)), rises_from xs (λ i j d h l. far (suc i) (suc j) d (omega arith) (omega arith)))

  pub rises : (xs : List X) → IsSortedBy lt xs → Rises xs
  rises xs up = rises_from xs (sorted_far lt o xs up)
