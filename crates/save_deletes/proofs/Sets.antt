-- Ids of rows by their objects.
use Rattle.std.proofs.Common.{◌≡◌, ℕ, ◌+◌, ◌<◌, Bool, true, false, cond, List, [], ◌∷◌, ◌++◌, length, drop, get_or, refl, sym, ap, ◌∙◌}
use Rattle.std.specs.Prelude.{◌↔◌, IsTrue, eqb, not}
use Rattle.std.proofs.lemmas.Bool.{false≢true}
use Rattle.apex_rows.specs.declared.row.Row.{Row}
use Rattle.row_meaning.specs.Stores.{of_object}
use Rattle.save_meaning.specs.Drafts.{with_id, with_ids}
use Rattle.save_meaning.specs.Inserts.{ids_of}
use Rattle.save_statements.specs.declared.pending.Record.{Record}
use Rattle.save_statements.specs.declared.pending.Record.TheVariants.{Going, Wrong}
use Rattle.save_statements.specs.Records.{going, rows_of}
use Rattle.save_statements.specs.Checks.{joined}
use Rattle.save_deletes.specs.Heads.{is_some_row}
use Rattle.save_deletes.proofs.Lists.{here}

module _ (object : ℕ) where
  pub row_in : (row : Row) (old new : List (List ℕ)) → new ≡ cond (eqb row.object object) (with_id row.id old) old → new ≡ with_ids (ids_of (of_object object (row ∷ []))) old
  row_in row old new e = e ∙ by (eqb row.object object) where
    by : (b : Bool) → cond b (with_id row.id old) old ≡ with_ids (ids_of (cond b (row ∷ []) [])) old
    by true = refl
    by false = refl

  -- those of some rows, and then those of others
  rows_append : (xs ys : List Row) (ids : List (List ℕ)) → with_ids (ids_of (of_object object (xs ++ ys))) ids ≡ with_ids (ids_of (of_object object ys)) (with_ids (ids_of (of_object object xs)) ids)
  rows_append [] ys ids = refl
  rows_append (x ∷ xs) ys ids = by (eqb x.object object) (rows_append xs ys ids) (rows_append xs ys (with_id x.id ids)) where
    by : (b : Bool) → with_ids (ids_of (of_object object (xs ++ ys))) ids ≡ with_ids (ids_of (of_object object ys)) (with_ids (ids_of (of_object object xs)) ids) →
        with_ids (ids_of (of_object object (xs ++ ys))) (with_id x.id ids) ≡ with_ids (ids_of (of_object object ys)) (with_ids (ids_of (of_object object xs)) (with_id x.id ids)) →
        with_ids (ids_of (cond b (x ∷ of_object object (xs ++ ys)) (of_object object (xs ++ ys)))) ids ≡ with_ids (ids_of (of_object object ys)) (with_ids (ids_of (cond b (x ∷ of_object object xs) (of_object object xs))) ids)
    by true without with_it = with_it
    by false without with_it = without

  -- what is there, with what is still to come, is what is there at the end
  add_next : (first rest : List Row) (old new whole : List (List ℕ)) → with_ids (ids_of (of_object object (first ++ rest))) old ≡ whole → new ≡ with_ids (ids_of (of_object object first)) old →
      with_ids (ids_of (of_object object rest)) new ≡ whole
  add_next first rest old new whole h e = ap (λ ids. with_ids (ids_of (of_object object rest)) ids) e ∙ sym (rows_append first rest old) ∙ h

  pub both_in : (xs ys : List Row) (old new : List (List ℕ)) → old ≡ with_ids (ids_of (of_object object xs)) [] → new ≡ with_ids (ids_of (of_object object ys)) old →
      new ≡ with_ids (ids_of (of_object object (xs ++ ys))) []
  both_in xs ys old new h e = e ∙ ap (λ ids. with_ids (ids_of (of_object object ys)) ids) h ∙ sym (rows_append xs ys [])

  module _ (i : ℕ) where
    pub row_next : (rows : List Row) (row : Row) (old new whole : List (List ℕ)) → i < length rows → row ≡ get_or rows i row →
        with_ids (ids_of (of_object object (drop i rows))) old ≡ whole → new ≡ with_ids (ids_of (of_object object (row ∷ []))) old → with_ids (ids_of (of_object object (drop (i + 1) rows))) new ≡ whole
    row_next rows row old new whole lt at h e =
        add_next (row ∷ []) (drop (i + 1) rows) old new whole (ap (λ (rs : List Row). with_ids (ids_of (of_object object rs)) old) (sym (here i rows row lt at)) ∙ h) e

    pub level_next : (levels : List (List Row)) (rows : List Row) (old new whole : List (List ℕ)) → i < length levels → rows ≡ get_or levels i rows →
        with_ids (ids_of (of_object object (joined (drop i levels)))) old ≡ whole → new ≡ with_ids (ids_of (of_object object rows)) old → with_ids (ids_of (of_object object (joined (drop (i + 1) levels)))) new ≡ whole
    level_next levels rows old new whole lt at h e =
        add_next rows (joined (drop (i + 1) levels)) old new whole (ap (λ (ls : List (List Row)). with_ids (ids_of (of_object object (joined ls))) old) (sym (here i levels rows lt at)) ∙ h) e

    going_first : (r : Record) (rs : List Record) → rows_of (going (r ∷ rs)) ≡ rows_of (going (r ∷ [])) ++ rows_of (going rs)
    going_first (Going p) rs = refl
    going_first (Wrong e) rs = refl

    pub record_next : (records : List Record) (r : Record) (old new whole : List (List ℕ)) → i < length records → r ≡ get_or records i r →
        with_ids (ids_of (of_object object (rows_of (going (drop i records))))) old ≡ whole → new ≡ with_ids (ids_of (of_object object (rows_of (going (r ∷ []))))) old →
        with_ids (ids_of (of_object object (rows_of (going (drop (i + 1) records))))) new ≡ whole
    record_next records r old new whole lt at h e =
        add_next (rows_of (going (r ∷ []))) (rows_of (going (drop (i + 1) records))) old new whole
        (ap (λ (rows : List Row). with_ids (ids_of (of_object object rows)) old) (sym (going_first r (drop (i + 1) records)))
        ∙ ap (λ (rs : List Record). with_ids (ids_of (of_object object (rows_of (going rs)))) old) (sym (here i records r lt at)) ∙ h) e

-- ---- whether a record goes on

pub one_goes : (i : ℕ) (records : List Record) (r : Record) (p : Bool) → i < length records → r ≡ get_or records i r → is_some_row (rows_of (going (r ∷ []))) ≡ true →
    is_some_row (rows_of (going (drop i records))) ≡ p → true ≡ p
one_goes i records r p lt at goes h = sym (by r goes) ∙ ap (λ (rs : List Record). is_some_row (rows_of (going rs))) (sym (here i records r lt at)) ∙ h where
  by : (r : Record) → is_some_row (rows_of (going (r ∷ []))) ≡ true → is_some_row (rows_of (going (r ∷ drop (i + 1) records))) ≡ true
  by (Going p) e = refl
  by (Wrong x) e = cc

pub some_is : (rows : List Row) (r : Bool) → IsTrue r ↔ (rows ≡ []) → not r ≡ is_some_row rows
some_is [] true h = refl
some_is [] false h = absurd (false≢true (h.1 refl))
some_is (row ∷ rows) true h = let e = h.0 refl in cc
some_is (row ∷ rows) false h = refl
