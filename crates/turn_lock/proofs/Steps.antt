-- Each kind of step keeps the rule of the turn lock, and tells what it tells.
use Rattle.std.proofs.Common.{◌≡◌, ◌≢◌, ℕ, eqb, ◌+◌, ◌*◌, ◌%◌, ◌^◌, ◌<◌, inl, inr, ⊎_elim, List, [], ◌∷◌, ◌++◌, length, get_or, set, slice_get, Option, Some, None, Contains, refl, sym, ap, subst, ◌∙◌, append-nil, arith}
use mathlib.Core.Option.{none, some, some-injective}
use mathlib.Core.Logic.{dite}
use native.Mathlib.Decide.{dec_lt, ℕ_discrete}
use mathlib.Core.List.{IsPrefix}
use lib.ListN.{get_elem?}
use lib.Seq.{set-get_or}
use prog.Atomic.{either}
use Rattle.std.proofs.lemmas.Option.{slice_get_within}
use Rattle.atomic_table.specs.Table.{State, Me, step, Act, keeps, takes, gives, stepped, Allows, Valid, carried_after, rest, Splits, Joins, Final, Seen, opening}
use Rattle.atomic_table.proofs.Lists.{set_again, set_here, set_else, exchanged}
use Rattle.turn_lock.specs.declared.view.View.{View}
use Rattle.turn_lock.specs.Turns.{OwnWithin, OwnAfter, IsLiving, Free, Taken, Stands, Looks, Compares, Claims, Releases, Numbers, spent, first_view, split_off, joined, with_turn, with_number, after_turn}
use Rattle.turn_lock.proofs.Lists.{each_set, inside, some_is, none_is, in_beginning, begins_itself, of_two, at_seam, one_number, some_number, no_number, only_one}
use Rattle.turn_lock.proofs.Seats.{changed, came, met, not_by, phase_set, phase_push}

module _ {T E : Type 0} (entries : T → List E) (Same : T → T → Type 0) (number_of : E → ℕ) (passes : ℕ) (opened : T) where
  abbrev TheState : Type 0
  TheState = State (Option T) (View T E)

  abbrev Rule : TheState → Type 0
  Rule = Stands entries Same number_of passes opened

  -- ---- loads

  unmoved : (s : TheState) (i id : ℕ) (c : List (ℕ × Option T)) (v : View T E) → Rule s → get_elem? s.views id ≡ some v → Rule (stepped s i (get_or s.words i 0) id c v keeps)
  unmoved s i id c v r at = subst (λ (p : List ℕ × List (View T E)). Rule record { words = p.0; homes = s.homes; views = p.1 }) (λ k. (sym (set-get_or s.words i 0) k, sym (set_again s.views id v at) k)) r

  pub looks : (slots id : ℕ) (me : Me (Option T) (View T E)) (i : ℕ) → Allows Rule slots id me i (λ n. n) (Looks entries Same number_of (step slots i 0 0 none) me)
  looks slots id me i = λ s r homes at fits. (me.0, keeps, tt, unmoved s i id me.1 me.0 r at, refl)

  pub compares : (slots id : ℕ) (me : Me (Option T) (View T E)) (i : ℕ) → Allows Rule slots id me i (λ n. n) (Compares entries Same number_of (step slots i 0 0 none) me)
  compares slots id me i = λ s r homes at fits. (
    me.0,
    keeps,
    tt,
    unmoved s i id me.1 me.0 r at,
    (refl, λ h. of_two me.0.also me.0.seen r.log (r.views.also id me.0 at) (r.views.seen id me.0 at) h),
  )

  -- ---- the turn is taken

  took : (s : TheState) (r : Rule s) (old id : ℕ) (v : View T E) → get_or s.words 0 0 ≡ old → get_elem? s.views id ≡ some v → v.numbers ≢ [] → IsLiving passes opened v
      → (f : Free entries Same number_of r.gate r.log opened s.homes s.views)
      → Rule (stepped s 0 (old + 1) id [] (with_turn v (entries f.value)) (takes 0 (Some f.value)))
  took s r old id v now at numbered living f =
      let w : View T E = with_turn v (entries f.value) in
      let gate : r.gate ≡ old = sym (ap (λ ws. get_or ws 0 0) r.words) ∙ now in
      let even = f.even in record {
        gate = old + 1;
        given = r.given;
        log = r.log;
        words = ap (λ ws. set ws 0 (old + 1)) r.words;
        phase = inr record {
          odd = omega arith;
          away = ap (λ hs. set hs 0 none) f.home;
          by = id;
          holder = w;
          there = set_here s.views id w (inside s.views id v at);
          turn = ap Some f.stands;
          numbered = numbered;
          alone = each_set (λ j d. j ≢ id → d.turn ≡ None) s.views id w (λ ne. absurd (ne refl)) (λ j d _ e _. f.nobody j d e);
        };
        short = r.short;
        enough = r.enough;
        entered = r.entered;
        views = changed entries Same number_of passes opened r.given r.given r.log r.log s.views id v w r.views at record {
          living = living;
          up = omega arith;
          grown = begins_itself r.log;
          by = λ k e h past. absurd (let lt = slice_get_within r.log k e h in omega arith);
          seen = r.views.seen id v at;
          also = (r.log, refl);
          numbers = λ n h. inl h;
          within = r.views.within id v at;
        };
      }

  not_odd : (n k : ℕ) → n % 2 ≡ 0 → n ≡ 2 * k + 1 → ⊥
  not_odd n k even odd = omega arith

  pub claims : (slots id : ℕ) (v : View T E) (old : ℕ) → old % 2 ≡ 0 → v.numbers ≢ [] → IsLiving passes opened v
      → Allows Rule slots id (v, []) 0 (λ n. either (eqb n old) (old + 1) n) (Claims entries Same number_of (step slots 0 old (old + 1) none) (v, []))
  claims slots id v old even numbered living = λ s r homes at fits.
      exchanged (get_or s.words 0 0) old (old + 1)
      (λ n. (w : View T E) × (a : Act (Option T)) × Valid s.homes [] a × Rule (stepped s 0 n id [] w a) × Claims entries Same number_of (step slots 0 old (old + 1) none) (v, []) (get_or s.words 0 0) (w, carried_after [] a))
      (λ now. ⊎_elim
      (λ (f : Free entries Same number_of r.gate r.log opened s.homes s.views). (
        with_turn v (entries f.value),
        takes 0 (Some f.value),
        ap (λ hs. get_elem? hs 0) f.home,
        took s r old id v now at numbered living f,
        (
          λ ne. absurd (ne now),
          λ _. record {
            value = f.value;
            view = refl;
            slot = refl;
            basis = λ o e. subst (λ x. Same x f.value) (some_is opened o (sym living.1 ∙ e)) f.basis;
            begins = subst (IsPrefix v.seen) (sym f.stands) (r.views.seen id v at);
            own = subst (λ l. OwnWithin number_of v.numbers l (length v.seen)) (sym f.stands) (r.views.within id v at);
          },
        ),
      ))
      (λ (t : Taken entries Same number_of r.gate r.log s.homes s.views). absurd (not_odd old (length r.log) even (sym now ∙ (ap (λ ws. get_or ws 0 0) r.words ∙ t.odd))))
      r.phase)
      (λ ne. (v, keeps, tt, unmoved s 0 id [] v r at, (λ _. refl, λ is. absurd (ne is))))

  pub claims_from : (slots id : ℕ) (me : Me (Option T) (View T E)) (old : ℕ) → me.1 ≡ [] → old % 2 ≡ 0 → me.0.numbers ≢ [] → IsLiving passes opened me.0
      → Allows Rule slots id me 0 (λ n. either (eqb n old) (old + 1) n) (Claims entries Same number_of (step slots 0 old (old + 1) none) me)
  claims_from slots id me old free even numbered living =
      subst (λ (c : List (ℕ × Option T)). Allows Rule slots id (me.0, c) 0 (λ n. either (eqb n old) (old + 1) n) (Claims entries Same number_of (step slots 0 old (old + 1) none) (me.0, c))) (sym free)
      (claims slots id me.0 old even numbered living)

  -- ---- the turn is given back

  gave : (s : TheState) (r : Rule s) (id : ℕ) (v : View T E) (x : T) → get_elem? s.views id ≡ some v → IsLiving passes opened v → Same opened x → length (entries x) < 2 ^ 62
      → IsPrefix r.log (entries x) → OwnAfter number_of v.numbers (entries x) (length r.log) → (t : Taken entries Same number_of r.gate r.log s.homes s.views) → id ≡ t.by
      → Rule (stepped s 0 (2 * length (entries x)) id ((0, Some x) ∷ []) (after_turn v (entries x)) gives)
  gave s r id v x at living basis short grown own t me =
      let w : View T E = after_turn v (entries x) in record {
        gate = 2 * length (entries x);
        given = r.given;
        log = entries x;
        words = ap (λ ws. set ws 0 (2 * length (entries x))) r.words;
        phase = inl record {
          even = refl;
          value = x;
          home = ap (λ hs. set hs 0 (some (Some x))) t.away;
          stands = refl;
          basis = basis;
          nobody = each_set (λ _ d. d.turn ≡ None) s.views id w refl (λ j d ne e. t.alone j d e (λ is. ne (is ∙ sym me)));
        };
        short = short;
        enough = r.enough;
        entered = λ k e h. dite (dec_lt k (length r.log)) (λ lt. r.entered k e (in_beginning r.log (entries x) grown k e h lt)) (λ past. r.views.given_before id v at (number_of e) (own k e h (omega (arith, past))));
        views = changed entries Same number_of passes opened r.given r.given r.log (entries x) s.views id v w r.views at record {
          living = living;
          up = omega arith;
          grown = grown;
          by = own;
          seen = begins_itself (entries x);
          also = (entries x, refl);
          numbers = λ n h. inl h;
          within = λ k e h _. slice_get_within (entries x) k e h;
        };
      }

  abbrev first_of : List (ℕ × Option T) → Option T
  first_of [] = None
  first_of (x ∷ xs) = x.1

  releases : (slots id : ℕ) (me : Me (Option T) (View T E)) (x : T) (log : List E) → me.1 ≡ (0, Some x) ∷ [] → me.0.turn ≡ Some log → IsLiving passes opened me.0 → Same opened x
      → length (entries x) < 2 ^ 62 → IsPrefix log (entries x) → OwnAfter number_of me.0.numbers (entries x) (length log)
      → Allows Rule slots id me 0 (λ _. 2 * length (entries x)) (λ _. Releases entries Same number_of (step slots 0 (2 * length (entries x)) 0 none) me (2 * length (entries x)))
  releases slots id me x log slot turn living basis short grown own = λ s r homes at fits. ⊎_elim
      (λ (f : Free entries Same number_of r.gate r.log opened s.homes s.views). absurd (none_is log (sym (f.nobody id me.0 at) ∙ turn)))
      (λ (t : Taken entries Same number_of r.gate r.log s.homes s.views).
      let mine : id ≡ t.by = dite (ℕ_discrete id t.by) (λ e. e) (λ ne. absurd (none_is log (sym (t.alone id me.0 at ne) ∙ turn))) in
      let same : me.0 ≡ t.holder = some-injective me.0 t.holder (sym at ∙ (ap (get_elem? s.views) mine ∙ t.there)) in
      let now : log ≡ r.log = some_is log r.log (sym turn ∙ (ap (λ z. z.turn) same ∙ t.turn)) in (
        after_turn me.0 (entries x),
        gives,
        tt,
        subst (λ (c : List (ℕ × Option T)). Rule (stepped s 0 (2 * length (entries x)) id c (after_turn me.0 (entries x)) gives)) (sym slot)
            (gave s r id me.0 x at living basis short (subst (λ l. IsPrefix l (entries x)) now grown) (subst (λ l. OwnAfter number_of me.0.numbers (entries x) (length l)) now own) t mine),
        λ y e. let is : x ≡ y = some_is x y (ap first_of (sym slot ∙ e)) in λ i. (after_turn me.0 (entries (is i)), ap rest slot i),
      ))
      r.phase

  pub releases_at : (slots id n : ℕ) (me : Me (Option T) (View T E)) (v : View T E) (x : T) (log : List E) → n ≡ 2 * length (entries x) → me ≡ (v, (0, Some x) ∷ []) → v.turn ≡ Some log
      → IsLiving passes opened v → Same opened x → length (entries x) < 2 ^ 62 → IsPrefix log (entries x) → OwnAfter number_of v.numbers (entries x) (length log)
      → Allows Rule slots id me 0 (λ _. n) (λ _. Releases entries Same number_of (step slots 0 n 0 none) me n)
  releases_at slots id n me v x log is has turn living basis short grown own =
      subst (λ (k : ℕ). Allows Rule slots id me 0 (λ _. k) (λ _. Releases entries Same number_of (step slots 0 k 0 none) me k)) (sym is)
      (subst (λ (m : Me (Option T) (View T E)). Allows Rule slots id m 0 (λ _. 2 * length (entries x)) (λ _. Releases entries Same number_of (step slots 0 (2 * length (entries x)) 0 none) m (2 * length (entries x)))) (sym has)
      (releases slots id (v, (0, Some x) ∷ []) x log refl turn living basis short grown own))

  -- ---- a pass is split off, or taken in

  pub splits : (id : ℕ) (v : View T E) → Splits Rule id v v (split_off v)
  splits id v = λ s r at. subst (λ (vs : List (View T E)). Rule record { words = s.words; homes = s.homes; views = vs ++ split_off v ∷ [] }) (sym (set_again s.views id v at)) record {
    gate = r.gate;
    given = r.given;
    log = r.log;
    words = r.words;
    phase = phase_push entries Same number_of passes opened r.gate r.log s.homes s.views (split_off v) refl r.phase;
    short = r.short;
    enough = r.enough;
    entered = r.entered;
    views = came entries Same number_of passes opened r.given r.log s.views id v r.views at;
  }

  pub joins : (id other : ℕ) (v w : View T E) → v.turn ≡ None → w.turn ≡ None → IsLiving passes opened v → Joins Rule id v other w (joined v w) spent
  joins id other v w idle idle' living = λ s r at differs at'.
      let there : get_elem? s.views other ≡ some w = sym (set_else s.views id other (joined v w) differs) ∙ at' in record {
        gate = r.gate;
        given = r.given;
        log = r.log;
        words = r.words;
        phase = phase_set entries Same number_of passes opened r.gate r.log s.homes (set s.views id (joined v w)) other w spent at' idle' refl
            (phase_set entries Same number_of passes opened r.gate r.log s.homes s.views id v (joined v w) at idle refl r.phase);
        short = r.short;
        enough = r.enough;
        entered = r.entered;
        views = met entries Same number_of passes opened r.given r.log s.views id other v w r.views at there differs living;
      }

  -- ---- a pass gets its number

  numbered : (s : TheState) (r : Rule s) (k id : ℕ) (c : List (ℕ × Option T)) (v : View T E) → get_or s.words 1 0 ≡ k → k < passes → get_elem? s.views id ≡ some v → v.turn ≡ None → IsLiving passes opened v
      → Rule (stepped s 1 (k + 1) id c (with_number v k) keeps)
  numbered s r k id c v now few at idle living =
      let w : View T E = with_number v k in
      let is : r.given ≡ k = sym (ap (λ ws. get_or ws 1 0) r.words) ∙ now in record {
        gate = r.gate;
        given = k + 1;
        log = r.log;
        words = ap (λ ws. set ws 1 (k + 1)) r.words;
        phase = phase_set entries Same number_of passes opened r.gate r.log s.homes s.views id v w at idle refl r.phase;
        short = r.short;
        enough = omega arith;
        entered = λ i e h. let lt = r.entered i e h in omega arith;
        views = changed entries Same number_of passes opened r.given (k + 1) r.log r.log s.views id v w r.views at record {
          living = living;
          up = omega arith;
          grown = begins_itself r.log;
          by = λ i e h past. absurd (let lt = slice_get_within r.log i e h in omega arith);
          seen = r.views.seen id v at;
          also = (r.log, refl);
          numbers = λ n h. let one = one_number n k h in inr (omega arith, omega arith);
          within = λ i e h mine. absurd (let one = one_number (number_of e) k mine in let lt = r.entered i e h in omega arith);
        };
      }

  pub numbers : (slots id : ℕ) (me : Me (Option T) (View T E)) (k : ℕ) → k < passes → me.0.turn ≡ None → IsLiving passes opened me.0
      → Allows Rule slots id me 1 (λ n. either (eqb n k) (k + 1) n) (Numbers entries Same number_of (step slots 1 k (k + 1) none) me)
  numbers slots id me k few idle living = λ s r homes at fits.
      exchanged (get_or s.words 1 0) k (k + 1)
      (λ n. (w : View T E) × (a : Act (Option T)) × Valid s.homes me.1 a × Rule (stepped s 1 n id me.1 w a) × Numbers entries Same number_of (step slots 1 k (k + 1) none) me (get_or s.words 1 0) (w, carried_after me.1 a))
      (λ now. (with_number me.0 k, keeps, tt, numbered s r k id me.1 me.0 now few at idle living, (λ ne. absurd (ne now), λ is. λ i. (with_number me.0 (sym now i), me.1))))
      (λ ne. (me.0, keeps, tt, unmoved s 1 id me.1 me.0 r at, (λ _. refl, λ is. absurd (ne is))))

  -- ---- the beginning

  pub opens : entries opened ≡ [] → Same opened opened → Rule (opening (0 ∷ 0 ∷ []) (Some opened ∷ []) (first_view passes opened))
  opens empty same =
      let w : View T E = first_view passes opened in record {
        gate = 0;
        given = 0;
        log = [];
        words = refl;
        phase = inl record { even = refl; value = opened; home = refl; stands = empty; basis = same; nobody = λ j d e. ap (λ z. z.turn) (sym (only_one w d j e).0) };
        short = omega arith;
        enough = omega arith;
        entered = λ k e h. absurd (none_is e h);
        views = record {
          living = λ j d e. inr (subst (IsLiving passes opened) (only_one w d j e).0 (refl, refl));
          seen = λ j d e. subst (λ z. IsPrefix z.seen []) (only_one w d j e).0 (begins_itself []);
          also = λ j d e. subst (λ z. IsPrefix z.also []) (only_one w d j e).0 (begins_itself []);
          given_before = λ j d e n h. absurd (no_number n (subst (λ z. Contains z.numbers n) (sym (only_one w d j e).0) h));
          apart = λ i c here j d there _ _ _. (only_one w c i here).1 ∙ sym (only_one w d j there).1;
          within = λ j d e k en h _. absurd (none_is en h);
        };
      }

  -- ---- the end

  -- what is left where a pass has every number
  pub record Left (v : View T E) (s : TheState) : Type 0 where
    pub value : T
    pub home : s.homes ≡ some (Some value) ∷ []
    pub stands : entries value ≡ v.seen
    pub basis : Same opened value

  whole : (s : TheState) (r : Rule s) (id : ℕ) (v : View T E) → get_elem? s.views id ≡ some v → ((n : ℕ) → n < passes → Contains v.numbers n) → (more : List E) → v.seen ++ more ≡ r.log → r.log ≡ v.seen
  whole s r id v at all [] e = sym e ∙ append-nil v.seen
  whole s r id v at all (y ∷ more) e =
      let there : slice_get r.log (length v.seen) ≡ Some y = ap (λ l. slice_get l (length v.seen)) (sym e) ∙ at_seam v.seen y more in
      let low = r.entered (length v.seen) y there in
      let enough = r.enough in
      absurd (let lt = r.views.within id v at (length v.seen) y there (all (number_of y) (omega arith)) in omega arith)

  left : (s : TheState) (id : ℕ) (v : View T E) → Rule s → get_elem? s.views id ≡ some v → v.turn ≡ None → ((n : ℕ) → n < passes → Contains v.numbers n) → Left v s
  left s id v r at idle all = ⊎_elim
      (λ (f : Free entries Same number_of r.gate r.log opened s.homes s.views). record {
        value = f.value;
        home = f.home;
        stands = f.stands ∙ whole s r id v at all (r.views.seen id v at).0 (r.views.seen id v at).1;
        basis = f.basis;
      })
      (λ (t : Taken entries Same number_of r.gate r.log s.homes s.views).
      let one = some_number t.holder.numbers t.numbered in
      let low = r.views.given_before t.by t.holder t.there one.0 one.1 in
      let enough = r.enough in
      absurd (not_by entries Same number_of passes opened r.gate r.log s.homes s.views t id v at idle (r.views.apart t.by t.holder t.there id v at one.0 one.1 (all one.0 (omega arith)))))
      r.phase

  pub closed : (id : ℕ) (v : View T E) (ws : List ℕ) (xs : List (Option T)) → Final (Seen Rule id v) ws xs → v.turn ≡ None → ((n : ℕ) → n < passes → Contains v.numbers n)
      → (q : Option T) → get_elem? xs 0 ≡ some q → (x : T) × (q ≡ Some x) × (entries x ≡ v.seen) × Same opened x
  closed id v ws xs end idle all q there =
      let l = left end.0 id v end.1.0 end.1.1 idle all in
      let home : get_elem? xs 0 ≡ some (Some l.value) = end.4 0 (Some l.value) (ap (λ hs. get_elem? hs 0) l.home) in
      (l.value, some-injective q (Some l.value) (sym there ∙ home), l.stands, l.basis)
