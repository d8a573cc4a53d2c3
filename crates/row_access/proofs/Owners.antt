-- The users that cells name.
use Rattle.std.proofs.Common.{◌≡◌, ℕ, zero, suc, ◌+◌, ◌<◌, Bool, true, false, cond, List, [], ◌∷◌, length, Some, None, refl, sym, ap, ◌∙◌, arith}
use Rattle.std.specs.Prelude.{bytes_eq, slice_get}
use Rattle.std.proofs.lemmas.Slice.Eq.{bytes_eq-Decides}
use Rattle.apex_num.specs.declared.cell.Cell.{Cell}
use Rattle.apex_num.specs.declared.cell.Cell.TheVariants.{Id}
use Rattle.apex_schema.specs.declared.schema.User.{User}
use Rattle.row_meaning.specs.Accesses.{is_id, role_from, role_of}
use Rattle.row_meaning.specs.Users.{user_id}
use Rattle.record_ids.specs.Ids.{most, IsUserNumber}

unequal : (a b : List ℕ) → (a ≡ b → ⊥) → bytes_eq a b ≡ false
unequal a b n = by (bytes_eq a b) refl where
  by : (t : Bool) → bytes_eq a b ≡ t → t ≡ false
  by true e = absurd (n ((bytes_eq-Decides a b).0 e))
  by false e = refl

-- the user with this Id stands so far behind the first of these
role_there : (number n far : ℕ) (us : List User) (id : List ℕ) → n + length us < most → number ≡ n + far → IsUserNumber id (Some number) → role_from n us (Id id) ≡ role_of (slice_get us far)
role_there number n far [] id lt at h = refl
role_there number n zero (u ∷ us) id lt at h =
    let here : number ≡ n = omega arith in
    ap (λ b. cond b u.role (role_from (suc n) us (Id id))) ((bytes_eq-Decides id (user_id n)).1 (h.0 ∙ ap user_id here))
role_there number n (suc far) (u ∷ us) id lt at h =
    let small : suc n < most = omega arith in
    let later : (n ≡ number → ⊥) = λ e. absurd (omega arith) in
    ap (λ b. cond b u.role (role_from (suc n) us (Id id))) (unequal id (user_id n) (λ e. later (h.2 n small e)))
    ∙ role_there number (suc n) far us id (omega arith) (omega arith) h

nobody_there : (n : ℕ) (us : List User) (cell : Cell) → n + length us < most → ((u : ℕ) → suc u < most → is_id cell (user_id u) ≡ false) → role_from n us cell ≡ None
nobody_there n [] cell lt h = refl
nobody_there n (u ∷ us) cell lt h =
    let small : suc n < most = omega arith in
    ap (λ b. cond b u.role (role_from (suc n) us cell)) (h n small) ∙ nobody_there (suc n) us cell (omega arith) h

module _ (us : List User) (cell : Cell) (lt : length us < most) where
  pub owner_is : (id : List ℕ) (number : ℕ) → cell ≡ Id id → IsUserNumber id (Some number) → role_of (slice_get us number) ≡ role_from 0 us cell
  owner_is id number e h = sym (ap (λ c. role_from 0 us c) e ∙ role_there number 0 number us id (omega arith) (omega arith) h)

  pub no_owner : ((id : List ℕ) → is_id cell id ≡ false) → None ≡ role_from 0 us cell
  no_owner h = sym (nobody_there 0 us cell (omega arith) (λ u l. h (user_id u)))

  pub no_user : (id : List ℕ) → cell ≡ Id id → IsUserNumber id None → None ≡ role_from 0 us cell
  no_user id e h = sym (nobody_there 0 us cell (omega arith) (λ u l. ap (λ c. is_id c (user_id u)) e ∙ unequal id (user_id u) (h u l)))
