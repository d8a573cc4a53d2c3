-- Digits of numbers, and Ids of their parts.
use Rattle.std.proofs.Common.{arith, ◌≡◌, ◌<◌, inl, inr, ℕ, zero, suc, cond, nat_lt, ◌+◌, ◌-◌, ◌*◌, ◌/◌, ◌%◌, List, [], ◌∷◌, ◌++◌, length, Some, codes, take, drop, get_or, All, refl, sym, ap, ap₂, ◌∙◌, subst}
use Rattle.std.proofs.lemmas.List.{length-append, take-append-drop, length-drop}
use Rattle.std.proofs.lemmas.List.Elements.{All-append, All-drop}
use Rattle.apex_num.specs.Ids.{IsAlphanumeric, IsId, Names, checks}
use Rattle.row_meaning.specs.Users.{digit, four}
use Rattle.record_ids.specs.Ids.{minted_id, most, IsUserNumber}

pub all_four : (P : ℕ → Type 0) (a b c d : ℕ) → P a → P b → P c → P d → All P (a ∷ b ∷ c ∷ d ∷ [])
all_four P a b c d pa pb pc pd zero e lt = pa
all_four P a b c d pa pb pc pd (suc zero) e lt = pb
all_four P a b c d pa pb pc pd (suc (suc zero)) e lt = pc
all_four P a b c d pa pb pc pd (suc (suc (suc zero))) e lt = pd
all_four P a b c d pa pb pc pd (suc (suc (suc (suc k)))) e lt = absurd (omega arith)

-- ---- lists of three and four

three : (xs : List ℕ) → length xs ≡ 3 → xs ≡ get_or xs 0 0 ∷ get_or xs 1 0 ∷ get_or xs 2 0 ∷ []
three [] e = absurd (omega arith)
three (a ∷ []) e = absurd (omega arith)
three (a ∷ b ∷ []) e = absurd (omega arith)
three (a ∷ b ∷ c ∷ []) e = refl
three (a ∷ b ∷ c ∷ d ∷ xs) e = absurd (omega arith)

four_at : (xs : List ℕ) → length xs ≡ 4 → xs ≡ get_or xs 0 0 ∷ get_or xs 1 0 ∷ get_or xs 2 0 ∷ get_or xs 3 0 ∷ []
four_at [] e = absurd (omega arith)
four_at (a ∷ xs) e = ap (λ l. a ∷ l) (three xs (omega arith))

-- ---- digits

four_of : (a b c d n : ℕ) → a < 62 → b < 62 → c < 62 → d < 62 → n ≡ 238328 * a + 3844 * b + 62 * c + d → four n ≡ digit a ∷ digit b ∷ digit c ∷ digit d ∷ []
four_of a b c d n la lb lc ld e =
    let first : n / 238328 % 62 ≡ a = omega arith in
    let second : n / 3844 % 62 ≡ b = omega arith in
    let third : n / 62 % 62 ≡ c = omega arith in
    let fourth : n % 62 ≡ d = omega arith in
    ap₂ (λ x y. digit x ∷ digit y ∷ digit (n / 62 % 62) ∷ digit (n % 62) ∷ []) first second ∙ ap₂ (λ x y. digit a ∷ digit b ∷ digit x ∷ digit y ∷ []) third fourth

pub number_is : (xs : List ℕ) (a b c d : ℕ) → length xs ≡ 4 → a < 62 → b < 62 → c < 62 → d < 62 → get_or xs 0 0 ≡ digit a → get_or xs 1 0 ≡ digit b → get_or xs 2 0 ≡ digit c → get_or xs 3 0 ≡ digit d → xs ≡ four (238328 * a + 3844 * b + 62 * c + d)
number_is xs a b c d l la lb lc ld ea eb ec ed =
    four_at xs l ∙ ap₂ (λ x y. x ∷ y ∷ get_or xs 2 0 ∷ get_or xs 3 0 ∷ []) ea eb ∙ ap₂ (λ x y. digit a ∷ digit b ∷ x ∷ y ∷ []) ec ed
    ∙ sym (four_of a b c d (238328 * a + 3844 * b + 62 * c + d) la lb lc ld refl)

-- ---- Ids of parts

module _ (p s r c : List ℕ) where
  abbrev pub text : List ℕ
  text =
      get_or p 0 0 ∷ get_or p 1 0 ∷ get_or p 2 0 ∷ get_or s 0 0 ∷ get_or s 1 0 ∷ get_or s 2 0 ∷ get_or s 3 0 ∷ get_or r 0 0 ∷ get_or r 1 0 ∷ get_or r 2 0 ∷ get_or r 3 0 ∷
      get_or c 0 0 ∷ get_or c 1 0 ∷ get_or c 2 0 ∷ get_or c 3 0 ∷ []

  module _ (lp : length p ≡ 3) (ls : length s ≡ 4) (lr : length r ≡ 4) (lc : length c ≡ 4) where
    text_is : text ≡ p ++ s ++ r ++ c
    text_is = sym (ap₂ (λ x y. x ++ y) (ap₂ (λ x y. x ++ y) (ap₂ (λ x y. x ++ y) (three p lp) (four_at s ls)) (four_at r lr)) (four_at c lc))

    pub named_is : (id : List ℕ) → Names text id → id ≡ p ++ s ++ r ++ c
    named_is id (is, inl e) = sym e ∙ text_is
    named_is id (is, inr e) = let l = ap length e in let m = length-append id (checks id) in absurd (omega (arith, is.0))

    pub has_name : All IsAlphanumeric p → All IsAlphanumeric s → All IsAlphanumeric r → All IsAlphanumeric c → ((id : List ℕ) → Names text id → ⊥) → ⊥
    has_name hp hs hr hc none =
        let all : All IsAlphanumeric (p ++ s ++ r ++ c) = All-append IsAlphanumeric (p ++ s ++ r) c (All-append IsAlphanumeric (p ++ s) r (All-append IsAlphanumeric p s hp hs) hr) hc in
        none text ((refl, subst (All IsAlphanumeric) (sym text_is) all), inl refl)

pub minted : (p s r c : List ℕ) (a b d : ℕ) → s ≡ four (a + 1) → r ≡ four b → c ≡ four d → p ++ s ++ r ++ c ≡ minted_id p a b d
minted p s r c a b d es er ec = ap₂ (λ x y. x ++ y) (ap₂ (λ x y. p ++ x ++ y) es er) ec

-- ---- users

pub last_four : (id digits : List ℕ) → IsId id → digits ≡ drop 11 id → (length digits ≡ 4) × All IsAlphanumeric digits
last_four id digits is e =
    let l = ap length e ∙ length-drop 11 id in
    (omega (arith, is.0), subst (All IsAlphanumeric) (sym e) (All-drop IsAlphanumeric 11 id is.1))

-- the number of a digit, and of four of them
undigit : ℕ → ℕ
undigit b = cond (nat_lt b 58) (b - 48) (cond (nat_lt b 91) (b - 55) (b - 61))

undigit_digit : (n : ℕ) → n < 62 → undigit (digit n) ≡ n
unfolding undigit
undigit_digit n lt = grind arith

unfour : List ℕ → ℕ
unfour (a ∷ b ∷ c ∷ d ∷ xs) = 238328 * undigit a + 3844 * undigit b + 62 * undigit c + undigit d
unfour xs = 0

unfour_four : (n : ℕ) → n < most → unfour (four n) ≡ n
unfolding unfour
unfour_four n lt =
    let a : undigit (digit (n / 238328 % 62)) ≡ n / 238328 % 62 = undigit_digit (n / 238328 % 62) (omega arith) in
    let b : undigit (digit (n / 3844 % 62)) ≡ n / 3844 % 62 = undigit_digit (n / 3844 % 62) (omega arith) in
    let c : undigit (digit (n / 62 % 62)) ≡ n / 62 % 62 = undigit_digit (n / 62 % 62) (omega arith) in
    let d : undigit (digit (n % 62)) ≡ n % 62 = undigit_digit (n % 62) (omega arith) in
    omega arith

one_four : (n m : ℕ) → n < most → m < most → four n ≡ four m → n ≡ m
one_four n m ln lm e = sym (unfour_four n ln) ∙ ap unfour e ∙ unfour_four m lm

pub user_is : (id front digits : List ℕ) (n : ℕ) → front ≡ take 11 id → digits ≡ drop 11 id → front ≡ codes "00500000000" → digits ≡ four n → (n ≡ 0 → ⊥) → n < most → IsUserNumber id (Some (n - 1))
user_is id front digits n ef ed is four_n some lt =
    let next : suc (n - 1) ≡ n = omega arith in
    let whole : id ≡ codes "00500000000" ++ four n = sym (take-append-drop 11 id) ∙ ap₂ (λ x y. x ++ y) (sym ef ∙ is) (sym ed ∙ four_n) in (
      whole ∙ ap (λ m. codes "00500000000" ++ four m) (sym next),
      subst (λ m. m < most) (sym next) lt,
      λ other l e.
          let same : four n ≡ four (suc other) = sym four_n ∙ ed ∙ ap (drop 11) e in
          let one : n ≡ suc other = one_four n (suc other) lt l same in
          omega arith,
    )
