-- Users for all sessions, or a first session without.
use Rattle.std.proofs.Common.{◌≡◌, refl, sym, ap, ◌∙◌, ℕ, suc, List, [], ◌∷◌, map, Option, None, Some, ◌⊎◌, inl, inr}
use Rattle.std.specs.Prelude.{option_map}
use Rattle.fault_words.specs.declared.fault.Fault.{Fault}
use Rattle.tenant_sessions.specs.Users.{each_user, first_none, unknown}
use Rattle.tenant_sessions.specs.Laws.{UsersOrFault, NotBoth, UsersAreOnly, FaultIsOnly}

none_is : (all : List ℕ) → first_none (map Some all) ≡ None
none_is [] = refl
none_is (n ∷ all) = ap (option_map suc) (none_is all)

same_all : (all other : List ℕ) → map Some all ≡ map Some other → other ≡ all
same_all [] [] e = refl
same_all [] (m ∷ other) e = absurd (cc)
same_all (n ∷ all) [] e = absurd (cc)
same_all (n ∷ all) (m ∷ other) e =
    let first : m ≡ n = cc in
    let rest : map Some all ≡ map Some other = cc in
    ap (λ k. k ∷ other) first ∙ ap (λ l. n ∷ l) (same_all all other rest)

clash : (o : Option ℕ) (k : ℕ) → o ≡ None → o ≡ Some k → ⊥
clash o k e h = cc

one_place : (o : Option ℕ) (j k : ℕ) → o ≡ Some j → o ≡ Some k → k ≡ j
one_place o j k e h = cc

settled : (os : List (Option ℕ)) → ((all : List ℕ) × (os ≡ map Some all)) ⊎ ((k : ℕ) × (first_none os ≡ Some k))
settled [] = inl ([], refl)
settled (None ∷ os) = inr (0, refl)
settled (Some n ∷ os) = next (settled os) where
  next : ((all : List ℕ) × (os ≡ map Some all)) ⊎ ((k : ℕ) × (first_none os ≡ Some k)) → ((all : List ℕ) × (Some n ∷ os ≡ map Some all)) ⊎ ((k : ℕ) × (option_map suc (first_none os) ≡ Some k))
  next (inl (all, e)) = inl (n ∷ all, ap (λ l. Some n ∷ l) e)
  next (inr (k, e)) = inr (suc k, ap (option_map suc) e)

pub users_or_fault : UsersOrFault
users_or_fault users sessions = told (settled (each_user users sessions)) where
  told : ((all : List ℕ) × (each_user users sessions ≡ map Some all)) ⊎ ((k : ℕ) × (first_none (each_user users sessions) ≡ Some k))
      → ((all : List ℕ) × (each_user users sessions ≡ map Some all)) ⊎ ((fault : Fault) × ((k : ℕ) × (first_none (each_user users sessions) ≡ Some k) × (fault ≡ unknown k)))
  told (inl all) = inl all
  told (inr (k, e)) = inr (unknown k, (k, e, refl))

pub not_both : NotBoth
not_both users sessions all fault e (k, h, is) = clash (first_none (each_user users sessions)) k (ap first_none e ∙ none_is all) h

pub users_once : UsersAreOnly
users_once users sessions all other e h = same_all all other (sym e ∙ h)

pub fault_once : FaultIsOnly
fault_once users sessions fault other (j, e, is) (k, h, at) = at ∙ ap unknown (one_place (first_none (each_user users sessions)) j k e h) ∙ sym is
