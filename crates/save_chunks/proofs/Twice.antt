-- Records that stand twice.
use Rattle.std.proofs.Common.{◌≡◌, ℕ, zero, suc, ◌+◌, ◌-◌, ◌<◌, ◌≤◌, Bool, true, false, List, [], ◌∷◌, length, drop, get_or, Option, Some, None, refl, sym, ap, ◌∙◌, subst, arith, add-one}
use Rattle.std.specs.Prelude.{◌||◌, eqb}
use Rattle.std.specs.List.{list_any}
use Rattle.apex_requests.specs.declared.request.SaveRow.{SaveRow}
use Rattle.row_meaning.specs.Stores.{has_id}
use Rattle.save_meaning.specs.Inserts.{is_double, first_again, or_seen}
use Rattle.save_chunks.specs.Keys.{keys_of, ids_given}

-- what is left of a list begins with what stands there
here : {A : Type 0} (i : ℕ) (xs : List A) (x : A) → i < length xs → x ≡ get_or xs i x → drop i xs ≡ x ∷ drop (i + 1) xs
here i xs x lt e = go i xs x lt e ∙ ap (λ n. x ∷ drop n xs) (sym (add-one i)) where
  go : {A : Type 0} (i : ℕ) (xs : List A) (x : A) → i < length xs → x ≡ get_or xs i x → drop i xs ≡ x ∷ drop (suc i) xs
  go i [] x lt e = absurd (omega arith)
  go zero (y ∷ xs) x lt e = ap (λ z. z ∷ xs) (sym e)
  go (suc i) (y ∷ xs) x lt e = go i xs x (omega arith) e

or_true : (a : Bool) → (a || true) ≡ true
or_true true = refl
or_true false = refl

-- what stands twice behind a place stands twice in the whole
double_before : (i : ℕ) (rows : List SaveRow) → is_double (keys_of (drop i rows)) ≡ true → is_double (keys_of rows) ≡ true
double_before zero rows h = h
double_before (suc i) [] h = h
double_before (suc i) (r ∷ rows) h = ap (λ b. list_any (eqb r.key) (keys_of rows) || b) (double_before i rows h) ∙ or_true (list_any (eqb r.key) (keys_of rows))

pub double_found : (i : ℕ) (rows : List SaveRow) (row : SaveRow) → 0 < i → i ≤ length rows → row ≡ get_or rows (i - 1) row → list_any (eqb row.key) (keys_of (drop i rows)) ≡ true → true ≡ is_double (keys_of rows)
double_found i rows row above le e h =
    let lt : i - 1 < length rows = omega arith in
    let back : i ≡ i - 1 + 1 = omega arith in
    let k : list_any (eqb row.key) (keys_of (drop (i - 1 + 1) rows)) ≡ true = subst (λ n. list_any (eqb row.key) (keys_of (drop n rows)) ≡ true) back h in
    sym (double_before (i - 1) rows (ap (λ rs. is_double (keys_of rs)) (here (i - 1) rows row lt e) ∙ ap (λ b. b || is_double (keys_of (drop (i - 1 + 1) rows))) k))

-- ---- Ids that were there before

module _ (rows : List SaveRow) (i : ℕ) (row : SaveRow) (lt : i < length rows) (at : row ≡ get_or rows i row) (ids : List (List ℕ)) where
  given_here : ids_given (drop i rows) ≡ row.id ∷ ids_given (drop (i + 1) rows)
  given_here = ap ids_given (here i rows row lt at)

  pub again_found : (id : List ℕ) (whole : Option (List ℕ)) → row.id ≡ Some id → has_id ids id ≡ true → first_again ids (ids_given (drop i rows)) ≡ whole → Some id ≡ whole
  again_found id whole e h w =
      sym (ap (λ os. first_again ids os) given_here ∙ ap (λ o. first_again ids (o ∷ ids_given (drop (i + 1) rows))) e ∙ ap (λ b. or_seen b id (first_again (id ∷ ids) (ids_given (drop (i + 1) rows)))) h) ∙ w

  pub again_next : (id : List ℕ) (whole : Option (List ℕ)) → row.id ≡ Some id → has_id ids id ≡ false → first_again ids (ids_given (drop i rows)) ≡ whole → first_again (id ∷ ids) (ids_given (drop (i + 1) rows)) ≡ whole
  again_next id whole e h w =
      sym (ap (λ os. first_again ids os) given_here ∙ ap (λ o. first_again ids (o ∷ ids_given (drop (i + 1) rows))) e ∙ ap (λ b. or_seen b id (first_again (id ∷ ids) (ids_given (drop (i + 1) rows)))) h) ∙ w

  pub again_none : (whole : Option (List ℕ)) → row.id ≡ None → first_again ids (ids_given (drop i rows)) ≡ whole → first_again ids (ids_given (drop (i + 1) rows)) ≡ whole
  again_none whole e w = sym (ap (λ os. first_again ids os) given_here ∙ ap (λ o. first_again ids (o ∷ ids_given (drop (i + 1) rows))) e) ∙ w
