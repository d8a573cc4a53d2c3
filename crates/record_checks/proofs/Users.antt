-- Cells that are Ids of users.
use Rattle.std.proofs.Common.{◌≡◌, ◌≢◌, ℕ, zero, suc, ◌<◌, Bool, true, false, List, Some, None, refl, sym, ap, ◌∙◌, arith, ⊎_elim, lt-ltb, le-ltb, ltb-true}
use Rattle.std.specs.Prelude.{◌||◌, nat_lt, bytes_eq}
use Rattle.std.specs.Cmp.{both_ways}
use Rattle.std.proofs.lemmas.Bool.{cases_order}
use Rattle.std.proofs.lemmas.Bool.Decides.{eqb_tells}
use Rattle.std.proofs.lemmas.Slice.Eq.{bytes_eq-Decides}
use Rattle.apex_num.specs.declared.cell.Cell.{Cell}
use Rattle.apex_num.specs.declared.cell.Cell.TheVariants as C
use Rattle.row_meaning.specs.Users.{user_id}
use Rattle.record_ids.specs.Ids.{most, IsUserNumber}
use Rattle.save_meaning.specs.Drafts.{is_user}

or_true : (a b : Bool) → a ≡ true → (a || b) ≡ true
or_true a b e = ap (λ x. x || b) e

or_false : (a b : Bool) → a ≡ false → (a || b) ≡ b
or_false a b e = ap (λ x. x || b) e

unequal : (a b : List ℕ) → (a ≡ b → ⊥) → bytes_eq a b ≡ false
unequal a b n = by (bytes_eq a b) refl where
  by : (t : Bool) → bytes_eq a b ≡ t → t ≡ false
  by true e = absurd (n ((bytes_eq-Decides a b).0 e))
  by false e = refl

pub user_is : (users n : ℕ) (id : List ℕ) → users < most → IsUserNumber id (Some n) → is_user users (C.Id id) ≡ nat_lt n users
user_is zero n id lt h = sym (le-ltb n zero (omega arith))
user_is (suc k) n id lt h =
    let lt' : k < most = omega arith in
    ⊎_elim
    (λ e.
    let own : id ≡ user_id k = h.0 ∙ ap user_id (sym e.1) in
    let less : n < suc k = let s = e.1 in omega arith in
    or_true _ _ ((bytes_eq-Decides id (user_id k)).1 own) ∙ sym (lt-ltb n (suc k) less))
    (λ e.
    or_false _ _ (unequal id (user_id k) (λ q. e.1 (h.2 k lt q))) ∙ user_is k n id lt' h ∙ same k n e.1)
    (eqb_tells k n)
  where
    apart : (k n : ℕ) → k ≢ n → n < suc k → n < k
    apart k n ne l = ⊎_elim (λ e. absurd (ne (sym e))) (λ h. ⊎_elim (λ b. b) (λ a. absurd (omega arith)) h) (cases_order n k)

    same : (k n : ℕ) → k ≢ n → nat_lt n k ≡ nat_lt n (suc k)
    same k n ne = both_ways (nat_lt n k) (nat_lt n (suc k)) (λ h. lt-ltb n (suc k) (let l = ltb-true n k h in omega arith)) (λ h. lt-ltb n k (let l = ltb-true n (suc k) h in apart k n ne l))

pub no_user : (users : ℕ) (id : List ℕ) → users < most → IsUserNumber id None → is_user users (C.Id id) ≡ false
no_user zero id lt h = refl
no_user (suc k) id lt h =
    let lt' : k < most = omega arith in or_false _ _ (unequal id (user_id k) (λ q. h k lt q)) ∙ no_user k id lt' h

pub no_id : (users : ℕ) (c : Cell) → ((id : List ℕ) → c ≡ C.Id id → ⊥) → is_user users c ≡ false
no_id zero c h = refl
no_id (suc k) (C.Id id) h = absurd (h id refl)
no_id (suc k) C.Null h = refl
no_id (suc k) (C.Bool b) h = refl
no_id (suc k) (C.Whole n) h = refl
no_id (suc k) (C.Num d) h = refl
no_id (suc k) (C.Text t) h = refl
no_id (suc k) (C.Day n) h = refl
no_id (suc k) (C.Moment n) h = refl
