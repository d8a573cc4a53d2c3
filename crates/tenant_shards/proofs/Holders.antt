-- Who holds a tenant's rows.
use Rattle.std.proofs.Common.{◌≡◌, refl, sym, ap, subst, ◌∙◌, ℕ, eqb, Bool, true, false, List, [], ◌∷◌, Option, None, Some}
use Rattle.std.specs.Prelude.{cond, bytes_eq, ◌&&◌}
use Rattle.std.proofs.lemmas.Slice.Eq.{bytes_eq-Decides}
use Rattle.row_locks.specs.Holders.{FirstHeld, Holders, NoneHeld, but, first_here}
use Rattle.row_locks.specs.Locks.{Locked, holder_of}
use Rattle.legal_trails.specs.Legal.{Held, holder}

-- the rows of a tenant that are held
abbrev pub held_in : ℕ → Locked → Held
held_in tenant [] = []
held_in tenant (l ∷ locks) = cond (eqb tenant l.0.tenant) ((l.0.id, l.1) ∷ held_in tenant locks) (held_in tenant locks)

bytes_sym : (xs ys : List ℕ) → bytes_eq xs ys ≡ bytes_eq ys xs
bytes_sym xs ys = by (bytes_eq xs ys) refl (bytes_eq ys xs) refl where
  by : (a : Bool) → bytes_eq xs ys ≡ a → (b : Bool) → bytes_eq ys xs ≡ b → bytes_eq xs ys ≡ bytes_eq ys xs
  by true e true f = e ∙ sym f
  by true e false f = e ∙ sym ((bytes_eq-Decides ys xs).1 (sym ((bytes_eq-Decides xs ys).0 e)))
  by false e true f = (bytes_eq-Decides xs ys).1 (sym ((bytes_eq-Decides ys xs).0 f)) ∙ sym f
  by false e false f = e ∙ sym f

one : (b c : Bool) (h : List ℕ × ℕ) (id : List ℕ) (hs : Held) (o : Option ℕ) → c ≡ bytes_eq h.0 id → holder hs id ≡ o → holder (cond b (h ∷ hs) hs) id ≡ cond (b && c) (Some h.1) o
one true c h id hs o e f = ap (λ x. cond (bytes_eq h.0 id) (Some h.1) x) f ∙ ap (λ x. cond x (Some h.1) o) (sym e)
one false c h id hs o e f = f

pub held_is : (tenant : ℕ) (locks : Locked) (id : List ℕ) → holder (held_in tenant locks) id ≡ holder_of tenant locks id
held_is tenant [] id = refl
held_is tenant (l ∷ locks) id = one (eqb tenant l.0.tenant) (bytes_eq id l.0.id) (l.0.id, l.1) id (held_in tenant locks) (holder_of tenant locks id) (bytes_sym id l.0.id) (held_is tenant locks id)

module _ (f g : Holders) (same : (id : List ℕ) → g id ≡ f id) (s : ℕ) where
  pub none_as : (ids : List (List ℕ)) → NoneHeld f s ids → NoneHeld g s ids
  none_as [] h = tt
  none_as (i ∷ ids) h = (ap (but s) (same i) ∙ h.0, none_as ids h.1)

  pub first_as : (ids : List (List ℕ)) (row : List ℕ) (by : ℕ) → FirstHeld f s ids row by → FirstHeld g s ids row by
  first_as [] row by h = h
  first_as (i ∷ ids) row by h = go (but s (f i)) (ap (but s) (same i)) h (λ x. first_as ids row by x) where
    go : (o : Option ℕ) → but s (g i) ≡ o → first_here o i row by (FirstHeld f s ids row by) → (FirstHeld f s ids row by → FirstHeld g s ids row by) → first_here (but s (g i)) i row by (FirstHeld g s ids row by)
    go (Some other) e h on = subst (λ o. first_here o i row by (FirstHeld g s ids row by)) (sym e) h
    go None e h on = subst (λ o. first_here o i row by (FirstHeld g s ids row by)) (sym e) (on h)
