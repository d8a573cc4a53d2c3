-- Users that are found one after the other.
use Rattle.std.proofs.Common.{arith, ◌≡◌, ◌<◌, ◌+◌, ℕ, zero, suc, List, [], ◌∷◌, ◌++◌, length, map, take, get_or, Option, None, Some, option_map, sym, ap, ◌∙◌}
use Rattle.std.proofs.lemmas.List.{take_more, map_push}
use Rattle.schema_plans.specs.declared.plan.UserPlan.{UserPlan}
use Rattle.bundle_read.specs.declared.entries.SessionEntry.{SessionEntry}
use Rattle.tenant_sessions.specs.declared.users.SessionFault.{SessionFault}
use Rattle.tenant_sessions.specs.declared.users.SessionFault.TheVariants.{Wrong, NoMemory}
use Rattle.tenant_sessions.specs.Users.{names, user_of, each_user, first_none, IsUnknownUser, IsFirstFault}

-- those before a place are there, and the one at the place isn't
none_at : (f : SessionEntry → Option ℕ) (ss : List SessionEntry) (i : ℕ) (s : SessionEntry) (all : List ℕ) → i < length ss → map f (take i ss) ≡ map Some all → f (get_or ss i s) ≡ None → first_none (map f ss) ≡ Some i
none_at f [] i s all lt h e = absurd (omega arith)
none_at f (t ∷ ss) zero s all lt h e = ap (λ o. first_none (o ∷ map f ss)) e
none_at f (t ∷ ss) (suc i) s [] lt h e = absurd (cc)
none_at f (t ∷ ss) (suc i) s (n ∷ all) lt h e =
    let here : f t ≡ Some n = cc in
    let rest : map f (take i ss) ≡ map Some all = cc in
    ap (λ o. first_none (o ∷ map f ss)) here ∙ ap (option_map suc) (none_at f ss i s all (omega arith) rest e)

module _ (users : List UserPlan) (ss : List SessionEntry) (i : ℕ) (s : SessionEntry) (all : List ℕ) (lt : i < length ss) (is : s ≡ get_or ss i s) (h : each_user users (take i ss) ≡ map Some all) where
  pub one_more : (n : ℕ) → Some n ≡ user_of (names users) s → each_user users (take (i + 1) ss) ≡ map Some (all ++ n ∷ [])
  one_more n e =
      ap (each_user users) (take_more ss i s lt ∙ ap (λ t. take i ss ++ t ∷ []) (sym is)) ∙ map_push (user_of (names users)) (take i ss) s
      ∙ ap (λ l. l ++ user_of (names users) s ∷ []) h ∙ ap (λ o. map Some all ++ o ∷ []) (sym e) ∙ sym (map_push Some all n)

  pub first_fault : None ≡ user_of (names users) s → (fault : SessionFault) → IsUnknownUser i fault → IsFirstFault users ss fault
  first_fault e (Wrong fault) f = (i, none_at (user_of (names users)) ss i s all lt h (ap (user_of (names users)) (sym is) ∙ sym e), f)
  first_fault e NoMemory f = tt
