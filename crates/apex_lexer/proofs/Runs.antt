-- Runs of bytes of one kind.
use Rattle.std.proofs.Common.{◌≡◌, ℕ, zero, suc, ◌+◌, ◌<◌, ◌≤◌, ◌&&◌, Bool, true, false, cond, List, [], ◌∷◌, length, take, drop, get_or, refl, sym, ap, ◌∙◌, arith, drop-cons}
use Rattle.std.specs.List.{list_all}
use Rattle.apex_lexer.specs.Lexemes.{front}
use Rattle.apex_lexer.specs.Scans.{begins}

module _ (test : ℕ → Bool) where
  on_first : (b : ℕ) (bs : List ℕ) → test b ≡ true → front test (b ∷ bs) ≡ suc (front test bs)
  on_first b bs e = ap (λ t. cond t (suc (front test bs)) 0) e

  off_first : (b : ℕ) (bs : List ℕ) → test b ≡ false → front test (b ∷ bs) ≡ 0
  off_first b bs e = ap (λ t. cond t (suc (front test bs)) 0) e

  and_true : (a b : Bool) → a ≡ true → b ≡ true → (a && b) ≡ true
  and_true a b e f = ap (λ t. t && b) e ∙ f

  pub front_most : (text : List ℕ) → front test text ≤ length text
  front_most [] = omega arith
  front_most (b ∷ bs) = by (test b) refl (front_most bs)
    where
      by : (v : Bool) → test b ≡ v → front test bs ≤ length bs → front test (b ∷ bs) ≤ length (b ∷ bs)
      by true e le = let n = on_first b bs e in omega arith
      by false e le = let n = off_first b bs e in omega arith

  pub front_some : (text : List ℕ) → begins test text ≡ true → 0 < front test text
  front_some [] e = cc
  front_some (b ∷ bs) e = let n = on_first b bs e in omega arith

  pub run_all : (text : List ℕ) → list_all test (take (front test text) text) ≡ true
  run_all [] = refl
  run_all (b ∷ bs) = by (test b) refl (run_all bs)
    where
      by : (v : Bool) → test b ≡ v → list_all test (take (front test bs) bs) ≡ true → list_all test (take (front test (b ∷ bs)) (b ∷ bs)) ≡ true
      by true e all = ap (λ n. list_all test (take n (b ∷ bs))) (on_first b bs e) ∙ and_true (test b) (list_all test (take (front test bs) bs)) e all
      by false e all = ap (λ n. list_all test (take n (b ∷ bs))) (off_first b bs e)

  pub run_more : (text : List ℕ) (m : ℕ) → front test text < m → m ≤ length text → list_all test (take m text) ≡ false
  run_more [] m lt le = absurd (omega arith)
  run_more (b ∷ bs) zero lt le = absurd (omega arith)
  run_more (b ∷ bs) (suc m) lt le = by (test b) refl (run_more bs m)
    where
      by : (v : Bool) → test b ≡ v → (front test bs < m → m ≤ length bs → list_all test (take m bs) ≡ false) → (test b && list_all test (take m bs)) ≡ false
      by true e more = let n = on_first b bs e in ap (λ t. t && list_all test (take m bs)) e ∙ more (omega arith) (omega arith)
      by false e more = ap (λ t. t && list_all test (take m bs)) e

  pub front_take : (text : List ℕ) (m : ℕ) → front test text ≤ m → front test (take m text) ≡ front test text
  front_take [] zero le = refl
  front_take [] (suc m) le = refl
  front_take (b ∷ bs) zero le = omega arith
  front_take (b ∷ bs) (suc m) le = by (test b) refl (front_take bs m)
    where
      by : (v : Bool) → test b ≡ v → (front test bs ≤ m → front test (take m bs) ≡ front test bs) → front test (b ∷ take m bs) ≡ front test (b ∷ bs)
      by true e more = let n = on_first b bs e in on_first b (take m bs) e ∙ ap suc (more (omega arith)) ∙ sym n
      by false e more = off_first b (take m bs) e ∙ sym (off_first b bs e)

  pub run_stops : (text : List ℕ) → begins test (drop (front test text) text) ≡ false
  run_stops [] = refl
  run_stops (b ∷ bs) = by (test b) refl (run_stops bs)
    where
      by : (v : Bool) → test b ≡ v → begins test (drop (front test bs) bs) ≡ false → begins test (drop (front test (b ∷ bs)) (b ∷ bs)) ≡ false
      by true e stops = ap (λ n. begins test (drop n (b ∷ bs))) (on_first b bs e) ∙ stops
      by false e stops = ap (λ n. begins test (drop n (b ∷ bs))) (off_first b bs e) ∙ e

  -- one byte further in a run
  pub front_step : (text : List ℕ) (i : ℕ) → i < length text → test (get_or text i 0) ≡ true → front test (drop i text) + i ≡ front test text → front test (drop (i + 1) text) + (i + 1) ≡ front test text
  front_step text i lt e same =
      let here : front test (drop i text) ≡ suc (front test (drop (suc i) text)) = ap (front test) (drop-cons text i 0 lt) ∙ on_first (get_or text i 0) (drop (suc i) text) e in
      let one : front test (drop (i + 1) text) ≡ front test (drop (suc i) text) = let e : i + 1 ≡ suc i = omega arith in ap (λ n. front test (drop n text)) e in
      omega arith

  pub front_here : (text : List ℕ) (i : ℕ) → i < length text → test (get_or text i 0) ≡ false → front test (drop i text) + i ≡ front test text → i ≡ front test text
  front_here text i lt e same =
      let here : front test (drop i text) ≡ 0 = ap (front test) (drop-cons text i 0 lt) ∙ off_first (get_or text i 0) (drop (suc i) text) e in
      omega arith
