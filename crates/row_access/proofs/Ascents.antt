-- Going up from role to role.
use Rattle.std.proofs.Common.{◌≡◌, ℕ, zero, suc, ◌+◌, ◌-◌, ◌<◌, ◌≤◌, Bool, true, false, List, [], ◌∷◌, length, Option, Some, None, refl, sym, ap, ◌∙◌, subst, arith, ⊎_elim, inl, inr, ltb-true, ltb-false, cond}
use Rattle.std.specs.Prelude.{nat_lt, eqb, leb, ◌||◌, ◌⊎◌, slice_get, slice_set}
use Rattle.std.proofs.lemmas.Bool.Decides.{leb_tells, eqb_tells}
use Rattle.apex_schema.specs.declared.schema.Role.{Role}
use Rattle.row_meaning.specs.Accesses.{is_above, parent_of, reached}
use Rattle.row_access.specs.declared.ranks.Rank.{Rank}
use Rattle.row_access.specs.declared.ranks.Rank.TheVariants.{After, Never, Far}
use Rattle.row_access.specs.Ranks.{AllTell, Stands, Tells, TellsIf, known_at, later, lowered, rank_above}

unequal : (a b : ℕ) → (a ≡ b → ⊥) → eqb a b ≡ false
unequal a b ne = ⊎_elim (λ e. absurd (ne e.1)) (λ e. e.0) (eqb_tells a b)

same : (a b : ℕ) → a ≡ b → eqb a b ≡ true
same a b eq = ⊎_elim (λ e. e.0) (λ e. absurd (e.1 eq)) (eqb_tells a b)

module _ (roles : List Role) (wanted : ℕ) where
  abbrev above : ℕ → ℕ → Bool
  above n at = is_above n roles at wanted

  one_up : (at p n : ℕ) → parent_of (slice_get roles at) ≡ Some p → above (suc n) at ≡ (eqb p wanted || above n p)
  one_up at p n e = ap (λ o. reached wanted o (λ a. above n a)) e

  passed : (at p n : ℕ) → parent_of (slice_get roles at) ≡ Some p → (p ≡ wanted → ⊥) → above (suc n) at ≡ above n p
  passed at p n e ne = one_up at p n e ∙ ap (λ b. b || above n p) (unequal p wanted ne)

  ended : (at n : ℕ) → parent_of (slice_get roles at) ≡ None → above n at ≡ false
  ended at zero e = refl
  ended at (suc n) e = ap (λ o. reached wanted o (λ a. above n a)) e

  met : (at p n : ℕ) → parent_of (slice_get roles at) ≡ Some p → p ≡ wanted → above (suc n) at ≡ true
  met at p n e eq = one_up at p n e ∙ ap (λ b. b || above n p) (same p wanted eq)

  module _ (from : ℕ) where
    -- the wanted role is none of so many above, and behind these stands this one
    pub record Climbed (steps at : ℕ) : Type 0 where
      pub within : steps ≤ length roles
      pub before : (n : ℕ) → n ≤ steps → above n from ≡ false
      pub behind : (n : ℕ) → above (steps + n) from ≡ above n at

    pub begin : Climbed 0 from
    begin = record {
      within = omega arith;
      before = λ n le. let z : n ≡ 0 = omega arith in ap (λ k. above k from) z;
      behind = λ n. let z : 0 + n ≡ n = omega arith in ap (λ k. above k from) z;
    }

    -- what holds of up to so many steps and of each more holds of all
    all : (P : ℕ → Type 0) (steps : ℕ) → ((n : ℕ) → n ≤ steps → P n) → ((m : ℕ) → P (steps + m)) → (n : ℕ) → P n
    all P steps few many n = ⊎_elim (λ e. few n e.1) (λ e. let s : steps + (n - steps) ≡ n = omega arith in subst P s (many (n - steps))) (leb_tells n steps)

    pub climb : (steps at p : ℕ) → Climbed steps at → steps < length roles → parent_of (slice_get roles at) ≡ Some p → (p ≡ wanted → ⊥) → Climbed (steps + 1) p
    climb steps at p c lt e ne = record {
      within = omega arith;
      before = λ n le. ⊎_elim
          (λ l. c.before n l.1)
          (λ l.
          let s : n ≡ steps + 1 = omega arith in
          ap (λ k. above k from) s ∙ c.behind 1 ∙ passed at p 0 e ne)
          (leb_tells n steps);
      behind = λ n. let s : steps + 1 + n ≡ steps + suc n = omega arith in ap (λ k. above k from) s ∙ c.behind (suc n) ∙ passed at p n e ne;
    }

    -- ---- where going up ends

    pub no_more : (steps at : ℕ) → Climbed steps at → parent_of (slice_get roles at) ≡ None → Tells roles wanted Never from
    no_more steps at c e = all (λ n. above n from ≡ false) steps c.before (λ m. c.behind m ∙ ended at m e)

    pub arrived : (steps at p : ℕ) → Climbed steps at → steps < length roles → parent_of (slice_get roles at) ≡ Some p → p ≡ wanted → Tells roles wanted (After (steps + 1)) from
    arrived steps at p c lt e eq = record {
      within = omega arith;
      before = λ n l. c.before n (omega arith);
      behind = λ n. let s : steps + 1 + n ≡ steps + suc n = omega arith in ap (λ k. above k from) s ∙ c.behind (suc n) ∙ met at p n e eq;
    }

    pub too_far : (steps at : ℕ) → Climbed steps at → length roles ≤ steps → Tells roles wanted Far from
    too_far steps at c le = c.before (length roles) le

    pub known_never : (steps at : ℕ) → Climbed steps at → Tells roles wanted Never at → Tells roles wanted Never from
    known_never steps at c h = all (λ n. above n from ≡ false) steps c.before (λ m. c.behind m ∙ h m)

    short : (steps at more : ℕ) → Climbed steps at → Stands roles wanted more at → (n : ℕ) → n < steps + more → ((leb n steps ≡ true) × (n ≤ steps)) ⊎ ((leb n steps ≡ false) × (steps < n)) → above n from ≡ false
    short steps at more c h n lt (inl e) = c.before n e.1
    short steps at more c h n lt (inr e) =
        let l = e.1 in
        let s : n ≡ steps + (n - steps) = omega arith in
        ap (λ k. above k from) s ∙ c.behind (n - steps) ∙ h.before (n - steps) (omega arith)

    pub known_after : (steps at more : ℕ) → Climbed steps at → Tells roles wanted (After more) at → Tells roles wanted (later (length roles) steps more) from
    known_after steps at more c h = by (nat_lt (length roles - steps) more) refl where
      by : (b : Bool) → nat_lt (length roles - steps) more ≡ b → Tells roles wanted (cond b Far (After (steps + more))) from
      by true e =
          let l = ltb-true (length roles - steps) more e in
          let s : steps + (length roles - steps) ≡ length roles = (let w = c.within in omega arith) in
          ap (λ k. above k from) (sym s) ∙ c.behind (length roles - steps) ∙ h.before (length roles - steps) l
      by false e =
          let l = ltb-false (length roles - steps) more e in
          let w = c.within in
          record {
            within = omega arith;
            before = λ n lt. short steps at more c h n lt (leb_tells n steps);
            behind = λ n. let s : steps + more + n ≡ steps + (more + n) = omega arith in ap (λ k. above k from) s ∙ c.behind (more + n) ∙ h.behind n;
          }

  -- ---- the role above one whose rank is known

  lowered_is : (k at p : ℕ) → Stands roles wanted k at → parent_of (slice_get roles at) ≡ Some p → (p ≡ wanted → ⊥) → TellsIf roles wanted (lowered k) p
  lowered_is zero at p h e ne = tt
  lowered_is (suc k) at p h e ne = record {
    within = (let w = h.within in omega arith);
    before = λ n l. sym (passed at p n e ne) ∙ h.before (suc n) (omega arith);
    behind = λ n. let s : suc k + n ≡ suc (k + n) = omega arith in sym (passed at p (k + n) e ne) ∙ ap (λ m. above m at) (sym s) ∙ h.behind n;
  }

  pub above_is : (rank : Rank) (at p : ℕ) → Tells roles wanted rank at → parent_of (slice_get roles at) ≡ Some p → (p ≡ wanted → ⊥) → TellsIf roles wanted (rank_above rank) p
  above_is (After k) at p h e ne = lowered_is k at p h e ne
  above_is Never at p h e ne = λ n. sym (passed at p n e ne) ∙ h (suc n)
  above_is Far at p h e ne = tt

  -- ---- what a rank says of the whole

  pub stands_above : (k from : ℕ) → Tells roles wanted (After k) from → is_above (length roles) roles from wanted ≡ true
  stands_above k from h =
      let s : k + (length roles - k) ≡ length roles = (let w = h.within in omega arith) in ap (λ n. above n from) (sym s) ∙ h.behind (length roles - k)

  -- ---- tables of ranks

  -- with one more rank that is right
  pub told : (ranks : List (Option Rank)) (at : ℕ) (rank : Rank) → AllTell roles wanted ranks → Tells roles wanted rank at → AllTell roles wanted (slice_set ranks at (Some rank))
  told ranks at rank h t = go (λ n r. TellsIf roles wanted r n) ranks at rank h t where
    go : (P : ℕ → Option Rank → Type 0) (ranks : List (Option Rank)) (at : ℕ) (rank : Rank) → ((n : ℕ) → P n (known_at ranks n)) → P at (Some rank) → (n : ℕ) → P n (known_at (slice_set ranks at (Some rank)) n)
    go P [] at rank h t n = h n
    go P (r ∷ rs) zero rank h t zero = t
    go P (r ∷ rs) zero rank h t (suc n) = h (suc n)
    go P (r ∷ rs) (suc at) rank h t zero = h zero
    go P (r ∷ rs) (suc at) rank h t (suc n) = go (λ m. P (suc m)) rs at rank (λ m. h (suc m)) t n
