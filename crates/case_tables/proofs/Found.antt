-- What a search by halves finds in a table.
use Rattle.std.proofs.Common.{◌≡◌, ⊎_elim, ℕ, zero, suc, ◌+◌, ◌-◌, ◌<◌, ◌≤◌, true, false, List, length, refl, sym, ap, ◌∙◌, subst, arith}
use Rattle.std.specs.Prelude.{slice_index_or}
use Rattle.std.specs.Ordering.{is_eq, ordering_reverse}
use Rattle.std.specs.declared.cmp.Ordering.{Ordering}
use Rattle.std.specs.declared.cmp.Ordering.TheVariants.{Less, Equal, Greater}
use Rattle.std.specs.Cmp.Lexicographic.{bytes_decides, texts_ties, nat_list_cmp_total}
use Rattle.std.proofs.lemmas.List.{get_or_default}
use Rattle.std.proofs.lemmas.Bool.Decides.{leb_tells}
use Rattle.case_tables.specs.Tables.{bytes_cmp, Rises, HasKey, LacksKey}

is_equal : (o : Ordering) → is_eq o ≡ true → o ≡ Equal
is_equal Less e = let f : false ≡ true = e in cc
is_equal Equal e = refl
is_equal Greater e = let f : false ≡ true = e in cc

same : (a b : List ℕ) → bytes_cmp a b ≡ Equal → a ≡ b
same a b e = (bytes_decides a b).0 (texts_ties a b ∙ ap is_eq e)

ties : (a b : List ℕ) → a ≡ b → bytes_cmp a b ≡ Equal
ties a b e = is_equal (bytes_cmp a b) (sym (texts_ties a b) ∙ (bytes_decides a b).1 e)

module _ {R : Type 0} (key : R → List ℕ) (rows : List R) (k : List ℕ) where
  pub found : (i : ℕ) (row : R) → i < length rows → row ≡ slice_index_or rows i row → ((d : R) → bytes_cmp (key (slice_index_or rows i d)) k ≡ Equal) → HasKey key rows k row
  found i row lt is eq =
      (same (key row) k (ap (λ x. bytes_cmp (key x) k) is ∙ eq row), (i, lt, λ d. get_or_default rows i d row lt ∙ sym is))

  abbrev pub at : ℕ → R → List ℕ
  at i d = key (slice_index_or rows i d)

  -- what a comparison at one row says
  pub here : (i : ℕ) (row : R) (r o : Ordering) (x : List ℕ) → i < length rows → row ≡ slice_index_or rows i row → x ≡ key row → r ≡ bytes_cmp x k → r ≡ o → (d : R) → bytes_cmp (at i d) k ≡ o
  here i row r o x lt is kx e f d = ap (λ y. bytes_cmp (key y) k) (get_or_default rows i d row lt ∙ sym is) ∙ ap (λ y. bytes_cmp y k) (sym kx) ∙ sym e ∙ f

  -- each key is below those of all later rows
  far : Rises key rows → (i n : ℕ) (d : R) → i + suc n < length rows → bytes_cmp (at i d) (at (i + suc n) d) ≡ Less
  far up i zero d lt = up i d lt
  far up i (suc n) d lt =
      nat_list_cmp_total.trans (at i d) (at (i + suc n) d) (at (i + suc (suc n)) d) (far up i n d (omega arith))
      (subst (λ m. bytes_cmp (at (i + suc n) d) (at m d) ≡ Less) (omega arith) (up (i + suc n) d (omega arith)))

  below : Rises key rows → (i j : ℕ) (d : R) → i < j → j < length rows → bytes_cmp (at i d) (at j d) ≡ Less
  below up i j d lt within = subst (λ m. bytes_cmp (at i d) (at m d) ≡ Less) (omega arith) (far up i (j - i - 1) d (omega arith))

  greater_than : (a b : List ℕ) → bytes_cmp a b ≡ Greater → bytes_cmp b a ≡ Less
  greater_than a b e = nat_list_cmp_total.antisymm b a ∙ ap ordering_reverse e

  less_than : (a b : List ℕ) → bytes_cmp a b ≡ Less → bytes_cmp b a ≡ Greater
  less_than a b e = nat_list_cmp_total.antisymm b a ∙ ap ordering_reverse e

  -- the rows before `low` are below the key, and those from `high` on are above it
  pub record Parts (low high : ℕ) : Type 0 where
    pub within : high ≤ length rows
    pub small : (i : ℕ) (d : R) → i < low → bytes_cmp (at i d) k ≡ Less
    pub large : (i : ℕ) (d : R) → high ≤ i → i < length rows → bytes_cmp (at i d) k ≡ Greater

  pub first : Parts 0 (length rows)
  first = record { within = omega arith; small = λ i d lt. absurd (omega arith); large = λ i d le lt. absurd (omega arith) }

  pub up_to : (low high mid : ℕ) → Rises key rows → Parts low high → mid < high → ((d : R) → bytes_cmp (at mid d) k ≡ Less) → Parts (mid + 1) high
  up_to low high mid up p lt e = record {
    within = p.within;
    small = λ i d b. ⊎_elim
        (λ h. nat_list_cmp_total.trans (at i d) (at mid d) k (below up i mid d (omega (arith, h.1)) (let w = p.within in omega arith)) (e d))
        (λ h. subst (λ m. bytes_cmp (at m d) k ≡ Less) (omega (arith, h.1)) (e d))
        (leb_tells (suc i) mid);
    large = p.large;
  }

  pub down_to : (low high mid : ℕ) → Rises key rows → Parts low high → mid < high → ((d : R) → bytes_cmp (at mid d) k ≡ Greater) → Parts low mid
  down_to low high mid up p lt e = record {
    within = let w = p.within in omega arith;
    small = p.small;
    large = λ i d le w. ⊎_elim
        (λ h. less_than k (at i d) (nat_list_cmp_total.trans k (at mid d) (at i d) (greater_than (at mid d) k (e d)) (below up mid i d (omega (arith, h.1)) w)))
        (λ h. subst (λ m. bytes_cmp (at m d) k ≡ Greater) (omega (arith, h.1)) (e d))
        (leb_tells (suc mid) i);
  }

  pub absent : (low high : ℕ) → Parts low high → high ≤ low → LacksKey key rows k
  absent low high p le i d lt e =
      let t : bytes_cmp (at i d) k ≡ Equal = ties (at i d) k e in
      ⊎_elim
      (λ h. let g : Less ≡ Equal = sym (p.small i d (omega (arith, h.1))) ∙ t in cc)
      (λ h. let g : Greater ≡ Equal = sym (p.large i d (omega (arith, h.1)) lt) ∙ t in cc)
      (leb_tells (suc i) low)

  -- no two rows have one key
  pub only_one : Rises key rows → (a b : R) → HasKey key rows k a → HasKey key rows k b → a ≡ b
  only_one up a b h g =
      let i = h.1.0 in
      let j = g.1.0 in
      let same_key : (m n : ℕ) → m < n → n < length rows → key (slice_index_or rows m a) ≡ k → key (slice_index_or rows n a) ≡ k → ⊥ =
      λ m n lt within e f. let t : Less ≡ Equal = sym (below up m n a lt within) ∙ ties (at m a) (at n a) (e ∙ sym f) in cc in
      let ki : key (slice_index_or rows i a) ≡ k = ap key (h.1.2 a) ∙ h.0 in
      let kj : key (slice_index_or rows j a) ≡ k = ap key (g.1.2 a) ∙ g.0 in
      ⊎_elim
      (λ t. absurd (same_key i j (omega (arith, t.1)) g.1.1 ki kj))
      (λ t. ⊎_elim
      (λ u. absurd (same_key j i (omega (arith, u.1)) h.1.1 kj ki))
      (λ u. sym (h.1.2 a) ∙ ap (λ n. slice_index_or rows n a) (omega (arith, t.1, u.1)) ∙ g.1.2 a)
      (leb_tells (suc j) i))
      (leb_tells (suc i) j)
