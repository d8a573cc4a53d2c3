-- What holds of the views is kept where one changes, comes, or is taken in.
use Rattle.std.proofs.Common.{◌≡◌, ◌≢◌, ℕ, ◌<◌, ◌≤◌, ◌⊎◌, inl, inr, ⊎_elim, List, [], ◌∷◌, ◌++◌, length, set, slice_get, Option, Some, None, Contains, refl, sym, ap, ◌∙◌, arith}
use mathlib.Core.Option.{none, some, some-ne-none, some-injective}
use mathlib.Core.Logic.{dite}
use native.Mathlib.Decide.{dec_lt}
use mathlib.Core.List.{IsPrefix}
use lib.ListN.{get_elem?}
use Rattle.std.proofs.lemmas.List.Elements.{Contains-append_cases}
use Rattle.atomic_table.proofs.Lists.{at_longer, set_else}
use Rattle.turn_lock.specs.declared.view.View.{View}
use Rattle.turn_lock.specs.Turns.{Each, Apart, OwnWithin, IsLiving, Views, Free, Taken, spent, split_off, joined}
use Rattle.turn_lock.proofs.Lists.{each_set, pairs_set, each_push, pairs_push, none_is, in_beginning, begins_further, longer_is, shorter_is, sizes, no_number}

module _ {T E : Type 0} (entries : T → List E) (Same : T → T → Type 0) (number_of : E → ℕ) (passes : ℕ) (opened : T) where
  abbrev Good : ℕ → List E → List (View T E) → Type 0
  Good given log views = Views entries Same number_of passes opened given log views

  -- the view v at id becomes w: its numbers are v's or new ones, and the log got entries of v's numbers
  pub record Change (given given' : ℕ) (log log' : List E) (v w : View T E) : Type 0 where
    pub living : IsLiving passes opened w
    pub up : given ≤ given'
    pub grown : IsPrefix log log'
    pub by : (k : ℕ) (e : E) → slice_get log' k ≡ Some e → length log ≤ k → Contains v.numbers (number_of e)
    pub seen : IsPrefix w.seen log'
    pub also : IsPrefix w.also log'
    pub numbers : (n : ℕ) → Contains w.numbers n → Contains v.numbers n ⊎ ((given ≤ n) × (n < given'))
    pub within : OwnWithin number_of w.numbers log' (length w.seen)

  pub changed : (given given' : ℕ) (log log' : List E) (views : List (View T E)) (id : ℕ) (v w : View T E) → Good given log views → get_elem? views id ≡ some v → Change given given' log log' v w → Good given' log' (set views id w)
  changed given given' log log' views id v w r at c =
      let up = c.up in record {
        living = each_set (λ _ d. (d ≡ spent) ⊎ IsLiving passes opened d) views id w (inr c.living) (λ j d _ e. r.living j d e);
        seen = each_set (λ _ d. IsPrefix d.seen log') views id w c.seen (λ j d _ e. begins_further d.seen log log' (r.seen j d e) c.grown);
        also = each_set (λ _ d. IsPrefix d.also log') views id w c.also (λ j d _ e. begins_further d.also log log' (r.also j d e) c.grown);
        given_before = each_set (λ _ d. (n : ℕ) → Contains d.numbers n → n < given') views id w
            (λ n h. ⊎_elim (λ old. let lt = r.given_before id v at n old in omega arith) (λ new. new.1) (c.numbers n h))
            (λ j d _ e n h. let lt = r.given_before j d e n h in omega arith);
        apart = pairs_set Apart views id w (λ n _ _. refl)
            (λ j d ne e. (
              λ n h g. ⊎_elim (λ old. r.apart id v at j d e n old g) (λ new. absurd (let lt = r.given_before j d e n g in let low = new.0 in omega arith)) (c.numbers n h),
              λ n g h. ⊎_elim (λ old. r.apart j d e id v at n g old) (λ new. absurd (let lt = r.given_before j d e n g in let low = new.0 in omega arith)) (c.numbers n h),
            ))
            (λ i b j d _ _ here there. r.apart i b here j d there);
        within = each_set (λ _ d. OwnWithin number_of d.numbers log' (length d.seen)) views id w c.within
            (λ j d ne e k en h mine. dite (dec_lt k (length log))
            (λ lt. r.within j d e k en (in_beginning log log' c.grown k en h lt) mine)
            (λ past. absurd (ne (r.apart j d e id v at (number_of en) mine (c.by k en h (omega (arith, past)))))));
      }

  -- a pass without numbers is split off
  pub came : (given : ℕ) (log : List E) (views : List (View T E)) (id : ℕ) (v : View T E) → Good given log views → get_elem? views id ≡ some v → Good given log (views ++ split_off v ∷ [])
  came given log views id v r at =
      let w : View T E = split_off v in record {
        living = each_push (λ _ d. (d ≡ spent) ⊎ IsLiving passes opened d) views w (λ _. ⊎_elim (λ h. inl (ap split_off h)) (λ h. inr h) (r.living id v at)) r.living;
        seen = each_push (λ _ d. IsPrefix d.seen log) views w (λ _. r.seen id v at) r.seen;
        also = each_push (λ _ d. IsPrefix d.also log) views w (λ _. (log, refl)) r.also;
        given_before = each_push (λ _ d. (n : ℕ) → Contains d.numbers n → n < given) views w (λ _ n h. absurd (no_number n h)) r.given_before;
        apart = pairs_push Apart views w (λ i j n h _. absurd (no_number n h)) (λ i j d. ((λ n h _. absurd (no_number n h)), (λ n _ h. absurd (no_number n h)))) r.apart;
        within = each_push (λ _ d. OwnWithin number_of d.numbers log (length d.seen)) views w (λ _ k en _ h. absurd (no_number (number_of en) h)) r.within;
      }

  -- the pass other is taken in by the pass id
  pub met : (given : ℕ) (log : List E) (views : List (View T E)) (id other : ℕ) (v w : View T E) → Good given log views → get_elem? views id ≡ some v → get_elem? views other ≡ some w → other ≢ id → IsLiving passes opened v
      → Good given log (set (set views id (joined v w)) other spent)
  met given log views id other v w r at at' differs living =
      let b : View T E = joined v w in
      let size = sizes v.seen w.seen in record {
        living = twice (λ _ d. (d ≡ spent) ⊎ IsLiving passes opened d) (inr living) (inl refl) (λ j d _ _ e. r.living j d e);
        seen = twice (λ _ d. IsPrefix d.seen log) (longer_is (λ z. IsPrefix z log) v.seen w.seen (r.seen id v at) (r.seen other w at')) (log, refl) (λ j d _ _ e. r.seen j d e);
        also = twice (λ _ d. IsPrefix d.also log) (shorter_is (λ z. IsPrefix z log) v.seen w.seen (r.seen id v at) (r.seen other w at')) (log, refl) (λ j d _ _ e. r.also j d e);
        given_before = twice (λ _ d. (n : ℕ) → Contains d.numbers n → n < given)
            (λ n h. ⊎_elim (λ g. r.given_before id v at n g) (λ g. r.given_before other w at' n g) (Contains-append_cases v.numbers w.numbers n h)) (λ n h. absurd (no_number n h)) (λ j d _ _ e. r.given_before j d e);
        apart = pairs_set Apart (set views id b) other spent (λ n _ _. refl)
            (λ j d _ e. ((λ n h _. absurd (no_number n h)), (λ n _ h. absurd (no_number n h))))
            (λ i c j d ni nj here there. pair i j c d ni nj here there);
        within = twice (λ _ d. OwnWithin number_of d.numbers log (length d.seen))
            (λ k en h mine. ⊎_elim (λ g. let lt = r.within id v at k en h g in let le = size.0 in omega arith) (λ g. let lt = r.within other w at' k en h g in let le = size.1 in omega arith) (Contains-append_cases v.numbers w.numbers (number_of en) mine))
            (λ k en _ h. absurd (no_number (number_of en) h)) (λ j d _ _ e. r.within j d e);
      }
    where
      twice : (P : ℕ → View T E → Type 0) → P id (joined v w) → P other spent → ((j : ℕ) (d : View T E) → j ≢ id → j ≢ other → get_elem? views j ≡ some d → P j d) → Each P (set (set views id (joined v w)) other spent)
      twice P mine theirs others = each_set P (set views id (joined v w)) other spent theirs
          (λ j d no e. each_set (λ k x. k ≢ other → P k x) views id (joined v w) (λ _. mine) (λ k x ni ex nx. others k x ni nx ex) j d e no)

      pair : (i j : ℕ) (c d : View T E) → i ≢ other → j ≢ other → get_elem? (set views id (joined v w)) i ≡ some c → get_elem? (set views id (joined v w)) j ≡ some d → Apart i c j d
      pair i j c d ni nj here there = pairs_set (λ i c j d. i ≢ other → j ≢ other → Apart i c j d) views id (joined v w) (λ _ _ n _ _. refl)
          (λ j d nid e. (
            λ _ nj n h g. ⊎_elim (λ old. r.apart id v at j d e n old g) (λ new. absurd (nj (sym (r.apart other w at' j d e n new g)))) (Contains-append_cases v.numbers w.numbers n h),
            λ nj _ n g h. ⊎_elim (λ old. r.apart j d e id v at n g old) (λ new. absurd (nj (r.apart j d e other w at' n g new))) (Contains-append_cases v.numbers w.numbers n h),
          ))
          (λ i c j d _ _ hi hj _ _. r.apart i c hi j d hj) i c here j d there ni nj

  -- ---- who has the turn

  abbrev Phase : ℕ → List E → List (mathlib.Core.Option.Option (Option T)) → List (View T E) → Type 0
  Phase gate log homes views = Free entries Same number_of gate log opened homes views ⊎ Taken entries Same number_of gate log homes views

  pub not_by : (gate : ℕ) (log : List E) (homes : List (mathlib.Core.Option.Option (Option T))) (views : List (View T E)) (t : Taken entries Same number_of gate log homes views) (id : ℕ) (v : View T E)
      → get_elem? views id ≡ some v → v.turn ≡ None → t.by ≢ id
  not_by gate log homes views t id v at idle e =
      let same : v ≡ t.holder = some-injective v t.holder (sym at ∙ (ap (get_elem? views) (sym e) ∙ t.there)) in
      none_is log (sym idle ∙ (ap (λ z. z.turn) same ∙ t.turn))

  -- a pass without the turn changes its view
  pub phase_set : (gate : ℕ) (log : List E) (homes : List (mathlib.Core.Option.Option (Option T))) (views : List (View T E)) (id : ℕ) (v w : View T E) → get_elem? views id ≡ some v → v.turn ≡ None → w.turn ≡ None
      → Phase gate log homes views → Phase gate log homes (set views id w)
  phase_set gate log homes views id v w at idle still (inl f) = inl record {
    even = f.even;
    value = f.value;
    home = f.home;
    stands = f.stands;
    basis = f.basis;
    nobody = each_set (λ _ d. d.turn ≡ None) views id w still (λ j d _ e. f.nobody j d e);
  }
  phase_set gate log homes views id v w at idle still (inr t) = inr record {
    odd = t.odd;
    away = t.away;
    by = t.by;
    holder = t.holder;
    there = set_else views id t.by w (not_by gate log homes views t id v at idle) ∙ t.there;
    turn = t.turn;
    numbered = t.numbered;
    alone = each_set (λ j d. j ≢ t.by → d.turn ≡ None) views id w (λ _. still) (λ j d _ e. t.alone j d e);
  }

  pub phase_push : (gate : ℕ) (log : List E) (homes : List (mathlib.Core.Option.Option (Option T))) (views : List (View T E)) (w : View T E) → w.turn ≡ None → Phase gate log homes views → Phase gate log homes (views ++ w ∷ [])
  phase_push gate log homes views w still (inl f) = inl record {
    even = f.even;
    value = f.value;
    home = f.home;
    stands = f.stands;
    basis = f.basis;
    nobody = each_push (λ _ d. d.turn ≡ None) views w (λ _. still) f.nobody;
  }
  phase_push gate log homes views w still (inr t) = inr record {
    odd = t.odd;
    away = t.away;
    by = t.by;
    holder = t.holder;
    there = at_longer views (w ∷ []) t.by t.holder t.there;
    turn = t.turn;
    numbered = t.numbered;
    alone = each_push (λ j d. j ≢ t.by → d.turn ≡ None) views w (λ _ _. still) t.alone;
  }
