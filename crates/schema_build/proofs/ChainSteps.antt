-- What steps along a chain tell.
use Rattle.std.specs.Prelude.{◌≡◌, ◌≤◌, ◌<◌, ◌+◌, ℕ, zero, suc, true, false, List, slice_get, Option, None, Some}
use Rattle.std.proofs.Common.{refl, sym, ap, ◌∙◌, subst, arith}
use Rattle.schema_plans.specs.Plans.{bind, parent_at, ends_within, none_or, is_none}
use Rattle.schema_build.specs.Chains.{Path, EndsIn, Known}

module _ (ps : List (Option ℕ)) where
  pub stretched : (k from to next : ℕ) → Path ps k from to → parent_at ps to ≡ Some next → Path ps (suc k) from next
  stretched zero from to next e h = (next, ap (parent_at ps) e ∙ h, refl)
  stretched (suc k) from to next (p, e, rest) h = (p, e, stretched k p to next rest h)

  pub path_ends : (k d from to n : ℕ) → n ≡ k + d → Path ps k from to → EndsIn ps d to → EndsIn ps n from
  path_ends zero d from to n e w h = subst (λ m. EndsIn ps m from) (let g : d ≡ n = omega arith in g) (subst (EndsIn ps d) (sym w) h)
  path_ends (suc k) d from to zero e w h = absurd (omega arith)
  path_ends (suc k) d from to (suc n) e (p, q, rest) h = (p, q, path_ends k d p to n (omega arith) rest h)

  pub is_within : (n d r : ℕ) → d ≤ n → EndsIn ps d r → ends_within ps n r ≡ true
  is_within zero zero r l h = ap is_none h
  is_within zero (suc d) r l h = absurd (omega arith)
  is_within (suc n) zero r l h = ap (none_or (ends_within ps n)) h
  is_within (suc n) (suc d) r l (p, e, h) = ap (none_or (ends_within ps n)) e ∙ is_within n d p (omega arith) h

  pub is_beyond : (n d r : ℕ) → n < d → EndsIn ps d r → ends_within ps n r ≡ false
  is_beyond n zero r l h = absurd (omega arith)
  is_beyond zero (suc d) r l (p, e, h) = ap is_none e
  is_beyond (suc n) (suc d) r l (p, e, h) = ap (none_or (ends_within ps n)) e ∙ is_beyond n d p (omega arith) h

  pub is_long : (n from to : ℕ) → Path ps (suc n) from to → ends_within ps n from ≡ false
  is_long zero from to (p, e, rest) = ap is_none e
  is_long (suc n) from to (p, e, rest) = ap (none_or (ends_within ps n)) e ∙ is_long n p to rest

  pub one_further : (k from to next : ℕ) → Path ps k from to → parent_at ps to ≡ Some next → Path ps (k + 1) from next
  one_further k from to next w h = subst (λ m. Path ps m from next) (let g : suc k ≡ k + 1 = omega arith in g) (stretched k from to next w h)

  pub too_long : (n k from to : ℕ) → k ≡ n + 1 → Path ps k from to → ends_within ps n from ≡ false
  too_long n k from to e w = is_long n from to (subst (λ m. Path ps m from to) (let g : k ≡ suc n = omega arith in g) w)

of_note : (o : Option (Option ℕ)) (m : ℕ) → bind o (λ p. p) ≡ Some m → o ≡ Some (Some m)
of_note None m e = cc
of_note (Some None) m e = cc
of_note (Some (Some x)) m e = ap (λ y. Some y) e

pub noted : (ps notes : List (Option ℕ)) → Known ps notes → (r m : ℕ) → parent_at notes r ≡ Some m → EndsIn ps m r
noted ps notes k r m e = k.by r m (of_note (slice_get notes r) m e)
