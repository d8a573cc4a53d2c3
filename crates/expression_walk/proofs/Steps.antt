-- Steps of walks.
use Rattle.std.proofs.Common.{◌≡◌, ℕ, ◌+◌, ◌<◌, List, [], ◌∷◌, ◌++◌, length, drop, get_or, map, Result, sym, ap, ◌∙◌, subst}
use Rattle.std.proofs.lemmas.List.{drop_more}
use Rattle.type_names.specs.declared.fault.WalkFault.{WalkFault}
use Rattle.type_names.specs.declared.fault.WalkFault.TheVariants as Fault
use Rattle.type_names.specs.Walks.{Walk, Gives, Comes, Fails, onward, all}
use Rattle.type_names.proofs.WalkSteps.{behind, one_done}

module _ {A B : Type 0} where
  -- behind a part that comes to something
  pub goes : (w : Walk A) (go : A → Walk B) (a : A) (r : Result B WalkFault) → w ≡ Gives a → Comes (go a) r → Comes (onward w go) r
  goes w go a r e h = subst (λ v. Comes (onward v go) r) (sym e) h

  pub goes_to : (w : Walk A) (go : A → Walk B) (a : A) (b : B) → w ≡ Gives a → go a ≡ Gives b → onward w go ≡ Gives b
  goes_to w go a b e h = ap (λ v. onward v go) e ∙ h

  -- behind one that doesn't
  pub halts : (w : Walk A) (go : A → Walk B) (e : WalkFault) → Fails w e → Fails (onward w go) e
  halts w go (Fault.Wrong fault) h = ap (λ v. onward v go) h
  halts w go Fault.NoMemory h = h

module _ {B : Type 0} where
  pub same : (v w : Walk B) (r : Result B WalkFault) → v ≡ w → Comes w r → Comes v r
  same v w r e h = subst (λ x. Comes x r) (sym e) h

-- ---- loops

-- what is left begins with its item
pub left : {T : Type 0} (ts : List T) (i : ℕ) (t : T) → i < length ts → t ≡ get_or ts i t → drop i ts ≡ t ∷ drop (i + 1) ts
left ts i t lt is = drop_more ts i t lt ∙ ap (λ x. x ∷ drop (i + 1) ts) (sym is)

module _ {A S T : Type 0} (g : S → Walk A) (f : T → S) where
  pub one_more_of : (ts : List T) (i : ℕ) (t : T) → i < length ts → t ≡ get_or ts i t → (whole : Walk (List A)) (done more : List A) (a : A)
      → whole ≡ behind done (all (map g (map f (drop i ts)))) → g (f t) ≡ Gives a → more ≡ done ++ a ∷ []
      → whole ≡ behind more (all (map g (map f (drop (i + 1) ts))))
  one_more_of ts i t lt is whole done more a inv e m =
      inv ∙ ap (λ l. behind done (all (map g (map f l)))) (left ts i t lt is)
      ∙ ap (λ w. behind done (all (w ∷ map g (map f (drop (i + 1) ts))))) e
      ∙ one_done done a (map g (map f (drop (i + 1) ts)))
      ∙ ap (λ l. behind l (all (map g (map f (drop (i + 1) ts))))) (sym m)

module _ {A T : Type 0} (f : T → Walk A) where
  pub one_more : (ts : List T) (i : ℕ) (t : T) → i < length ts → t ≡ get_or ts i t → (whole : Walk (List A)) (done more : List A) (a : A)
      → whole ≡ behind done (all (map f (drop i ts))) → f t ≡ Gives a → more ≡ done ++ a ∷ []
      → whole ≡ behind more (all (map f (drop (i + 1) ts)))
  one_more ts i t lt is whole done more a inv e m =
      inv ∙ ap (λ l. behind done (all (map f l))) (left ts i t lt is)
      ∙ ap (λ w. behind done (all (w ∷ map f (drop (i + 1) ts)))) e
      ∙ one_done done a (map f (drop (i + 1) ts))
      ∙ ap (λ l. behind l (all (map f (drop (i + 1) ts)))) (sym m)

-- a walk that hands something along, from its parts on the left to those that are left
module _ {P S T : Type 0} (from : List P → S → Walk S) (uses : P → S → Walk S) (f : T → P)
    (step : (p : P) (ps : List P) (so_far : S) → from (p ∷ ps) so_far ≡ onward (uses p so_far) (from ps)) where
  pub next : (ts : List T) (i : ℕ) (t : T) → i < length ts → t ≡ get_or ts i t → (so_far more : S) → uses (f t) so_far ≡ Gives more
      → from (map f (drop i ts)) so_far ≡ from (map f (drop (i + 1) ts)) more
  next ts i t lt is so_far more e =
      ap (λ l. from (map f l) so_far) (left ts i t lt is)
      ∙ step (f t) (map f (drop (i + 1) ts)) so_far
      ∙ ap (λ w. onward w (from (map f (drop (i + 1) ts)))) e
