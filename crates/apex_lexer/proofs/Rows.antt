-- Rows of the tables, and what is found in them.
use Rattle.std.proofs.Common.{◌≡◌, ⊎_elim, ◌+◌, ◌<◌, ◌≤◌, ℕ, zero, suc, leb, List, [], ◌∷◌, length, Bool, true, false, cond, bytes_eq, Option, Some, None, is_lt, ◌&&◌, Ordering, IfSome, IfNone, MatchOption, map, refl, sym, ap, subst, ◌∙◌, arith}
use Rattle.std.specs.Prelude.{slice_index_or}
use Rattle.std.specs.declared.cmp.Ordering.TheVariants.{Less, Equal, Greater}
use Rattle.std.proofs.lemmas.Bool.{false≢true}
use Rattle.std.specs.Bool.{Decides}
use Rattle.std.proofs.lemmas.Bool.Decides.{leb_tells}
use Rattle.std.proofs.lemmas.Slice.Eq.{bytes_eq-Decides}
use Rattle.std.specs.Borrow.{Bor}
use Rattle.case_tables.specs.Tables.{bytes_cmp, Rises, HasKey, LacksKey}
use Rattle.apex_lexer.specs.Words.{value_of}

-- whether each word is below the next
abbrev pub rises : {V : Type 0} → List (List ℕ × V) → Bool
rises [] = true
rises (w ∷ []) = true
rises (v ∷ w ∷ ws) = is_lt (bytes_cmp v.0 w.0) && rises (w ∷ ws)

less : (o : Ordering) → is_lt o ≡ true → o ≡ Less
less Less e = refl
less Equal e = absurd (false≢true e)
less Greater e = absurd (false≢true e)

first : (a b : Bool) → (a && b) ≡ true → a ≡ true
first true b e = refl
first false b e = e

second : (a b : Bool) → (a && b) ≡ true → b ≡ true
second true b e = e
second false b e = absurd (false≢true e)

module _ {R V : Type 0} (key : R → List ℕ) (value : R → V) where
  abbrev pub pair : R → List ℕ × V
  pair r = (key r, value r)

  pub rising : (rows : List R) → rises (map pair rows) ≡ true → Rises key rows
  rising [] e = λ i d h. absurd (omega arith)
  rising (r ∷ []) e = λ i d h. absurd (omega arith)
  rising (q ∷ r ∷ rs) e =
      two (less (bytes_cmp (key q) (key r)) (first (is_lt (bytes_cmp (key q) (key r))) (rises (map pair (r ∷ rs))) e))
      (rising (r ∷ rs) (second (is_lt (bytes_cmp (key q) (key r))) (rises (map pair (r ∷ rs))) e))
    where
      two : bytes_cmp (key q) (key r) ≡ Less → Rises key (r ∷ rs) → Rises key (q ∷ r ∷ rs)
      two low rest zero d h = low
      two low rest (suc i) d h =
          let e : suc (i + 1) ≡ suc i + 1 = omega arith in
          subst (λ n. bytes_cmp (key (slice_index_or (r ∷ rs) i d)) (key (slice_index_or (q ∷ r ∷ rs) n d)) ≡ Less) e (rest i d (omega arith))

  -- what a look-up by the rows in their order answers
  pub record Looked (rows : List R) (k : List ℕ) (row : R) : Type 0 where
    pub has : HasKey key rows k row
    pub is : value_of (map pair rows) k ≡ Some (value row)

  later : (r : R) (rs : List R) (k : List ℕ) (row : R) → HasKey key rs k row → HasKey key (r ∷ rs) k row
  later r rs k row h = (h.0, (suc h.1.0, let l = h.1.1 in omega arith, h.1.2))

  lacking : (r : R) (rs : List R) (k : List ℕ) → (key r ≡ k → ⊥) → LacksKey key rs k → LacksKey key (r ∷ rs) k
  lacking r rs k not lacks zero x lt = not
  lacking r rs k not lacks (suc i) x lt = lacks i x (omega arith)

  step : (r : R) (rs : List R) (k : List ℕ) (P : Type 0) → ((row : R) → Looked (r ∷ rs) k row → P) → (LacksKey key (r ∷ rs) k → value_of (map pair (r ∷ rs)) k ≡ None → P)
      → (b : Bool) → bytes_eq (key r) k ≡ b → Decides b (key r ≡ k) → (((row : R) → Looked rs k row → P) → (LacksKey key rs k → value_of (map pair rs) k ≡ None → P) → P) → P
  step r rs k P some none true e d go = some r (record { has = (d.0 refl, (0, omega arith, λ x. refl)); is = ap (λ t. cond t (Some (value r)) (value_of (map pair rs) k)) e })
  step r rs k P some none false e d go =
      let behind : value_of (map pair (r ∷ rs)) k ≡ value_of (map pair rs) k = ap (λ t. cond t (Some (value r)) (value_of (map pair rs) k)) e in
      go (λ row l. some row (record { has = later r rs k row l.has; is = behind ∙ l.is }))
      (λ lacks n. none (lacking r rs k (λ same. false≢true (d.1 same)) lacks) (behind ∙ n))

  pub look : (rows : List R) (k : List ℕ) (P : Type 0) → ((row : R) → Looked rows k row → P) → (LacksKey key rows k → value_of (map pair rows) k ≡ None → P) → P
  look [] k P some none = none (λ i d lt. absurd (omega arith)) refl
  look (r ∷ rs) k P some none = step r rs k P some none (bytes_eq (key r) k) refl (bytes_eq-Decides (key r) k) (look rs k P)

  -- the answer of a search is that of a look-up
  pub answer : (rows : List R) (k : List ℕ) (o : Option (Bor R)) → IfSome o (λ row. HasKey key rows k row.now) → IfSome o (λ row. (other : R) → HasKey key rows k other → other ≡ row.now) → IfNone o (LacksKey key rows k)
      → MatchOption o (value_of (map pair rows) k ≡ None) (λ row. value_of (map pair rows) k ≡ Some (value row.now))
  answer rows k (Some row) found only none =
      look rows k (value_of (map pair rows) k ≡ Some (value row.now))
      (λ r l. l.is ∙ ap (λ x. Some (value x)) (only r l.has))
      (λ lacks n. absurd (lacks found.1.0 row.now found.1.1 (ap key (found.1.2 row.now) ∙ found.0)))
  answer rows k None found only none =
      look rows k (value_of (map pair rows) k ≡ None)
      (λ r l. let h = l.has in absurd (none h.1.0 r h.1.1 (ap key (h.1.2 r) ∙ h.0)))
      (λ lacks n. n)

-- what is longer than all words is none of them
abbrev pub short : {V : Type 0} → ℕ → List (List ℕ × V) → Bool
short n [] = true
short n (w ∷ ws) = leb (length w.0) n && short n ws

first_short : (a n : ℕ) (b : Bool) → (leb a n && b) ≡ true → a ≤ n
first_short a n b e = ⊎_elim (λ h. h.1) (λ h. let f : false ≡ true = sym (ap (λ t. t && b) h.0) ∙ e in cc) (leb_tells a n)

not_equal : (a b : List ℕ) → length a < length b → bytes_eq a b ≡ false
not_equal a b lt = by (bytes_eq a b) (bytes_eq-Decides a b)
  where
    by : (t : Bool) → Decides t (a ≡ b) → t ≡ false
    by false d = refl
    by true d = let e = ap length (d.0 refl) in absurd (omega arith)

pub too_long : {V : Type 0} (n : ℕ) (rows : List (List ℕ × V)) (k : List ℕ) → short n rows ≡ true → n < length k → value_of rows k ≡ None
too_long n [] k e lt = refl
too_long n (w ∷ ws) k e lt =
    let le = first_short (length w.0) n (short n ws) e in
    ap (λ t. cond t (Some w.1) (value_of ws k)) (not_equal w.0 k (omega arith)) ∙ too_long n ws k (second (leb (length w.0) n) (short n ws) e) lt
