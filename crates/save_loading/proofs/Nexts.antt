-- The cells of an update.
use Rattle.std.proofs.Common.{◌≡◌, refl, sym, ap, ◌∙◌, ℕ, zero, suc, ◌+◌, ◌<◌, ◌≤◌, List, [], ◌∷◌, ◌++◌, length, drop, get_or, Option, None, Some, append_assoc, append-nil, add-one, inl, inr, arith}
use Rattle.std.specs.Prelude.{◌⊎◌, slice_get}
use Rattle.std.proofs.lemmas.List.{drop_all}
use Rattle.apex_num.specs.declared.cell.Cell.{Cell}
use Rattle.apex_schema.specs.declared.schema.Field.{Field}
use Rattle.apex_schema.specs.declared.schema.Object.{Object}
use Rattle.apex_requests.specs.declared.request.SaveRow.{SaveRow}
use Rattle.save_statements.specs.declared.pending.Act.{Act}
use Rattle.save_statements.specs.declared.pending.Act.TheVariants.{Inserting, Updating, Deleting}
use Rattle.save_statements.specs.declared.pending.Manner.{Manner}
use Rattle.save_statements.specs.declared.pending.Record.{Record}
use Rattle.save_statements.specs.declared.pending.Record.TheVariants.{Going, Wrong}
use Rattle.save_statements.specs.declared.statement.Placed.{Placed}
use Rattle.save_statements.specs.Statements.{unplaced}
use Rattle.save_statements.specs.Loading.{next_cells, next_record, next_records}
use Rattle.save_loading.specs.Steps.{next_at, next_placed}

-- what is left of a list begins with what stands there
pub here_on : {A : Type 0} (i : ℕ) (xs : List A) (x : A) → i < length xs → x ≡ get_or xs i x → drop i xs ≡ x ∷ drop (suc i) xs
here_on i [] x lt e = absurd (omega arith)
here_on zero (y ∷ xs) x lt e = ap (λ z. z ∷ xs) (sym e)
here_on (suc i) (y ∷ xs) x lt e = here_on i xs x (omega arith) e

-- a list of no elements
pub none_left : {A : Type 0} (xs : List A) (n : ℕ) → n ≡ length xs → n ≡ 0 → xs ≡ []
none_left [] n e z = refl
none_left (x ∷ xs) n e z = absurd (omega (arith, e, z))

-- what isn't an update
pub no_update : (act : Act) → (act ≡ Inserting) ⊎ (act ≡ Deleting) → act ≡ Updating → ⊥
no_update act (inl a) e = cc
no_update act (inr b) e = cc

module _ (by : Manner) where
  -- ---- cells

  -- where nothing is known they are as they were
  unknown_all : (n : ℕ) (fs : List Field) (cs : List Cell) → next_cells by n fs cs [] ≡ cs
  unknown_all n [] cs = refl
  unknown_all n (f ∷ fs) [] = refl
  unknown_all n (f ∷ fs) (c ∷ cs) = refl

  unknown_one : (n : ℕ) (o : Option Field) (c : Cell) → next_at by n o c None ≡ c
  unknown_one n None c = refl
  unknown_one n (Some f) c = refl

  -- the cells from place i on begin with the one there
  cells_at : (n i : ℕ) (fs : List Field) (cs : List Cell) (ks : List (Option Cell)) (c : Cell) → i < length cs → c ≡ get_or cs i c →
      next_cells by n (drop i fs) (drop i cs) (drop i ks) ≡ next_at by n (slice_get fs i) c (slice_get ks i) ∷ next_cells by (suc n) (drop (suc i) fs) (drop (suc i) cs) (drop (suc i) ks)
  cells_at n i fs [] ks c lt e = absurd (omega arith)
  cells_at n zero [] (d ∷ cs) ks c lt e = ap (λ x. x ∷ cs) (sym e)
  cells_at n zero (f ∷ fs) (d ∷ cs) [] c lt e = ap (λ x. x ∷ cs) (sym e) ∙ ap (λ xs. c ∷ xs) (sym (unknown_all (suc n) fs cs))
  cells_at n zero (f ∷ fs) (d ∷ cs) (k ∷ ks) c lt e = ap (λ x. next_at by n (Some f) x (Some k) ∷ next_cells by (suc n) fs cs ks) (sym e)
  cells_at n (suc i) [] (d ∷ cs) ks c lt e = here_on i cs c (omega arith) e
  cells_at n (suc i) (f ∷ fs) (d ∷ cs) [] c lt e =
      unknown_all n (drop i fs) (drop i cs) ∙ here_on i cs c (omega arith) e ∙ ap (λ xs. c ∷ xs) (sym (unknown_all (suc n) (drop (suc i) fs) (drop (suc i) cs)))
      ∙ ap (λ x. x ∷ next_cells by (suc n) (drop (suc i) fs) (drop (suc i) cs) []) (sym (unknown_one n (slice_get fs i) c))
  cells_at n (suc i) (f ∷ fs) (d ∷ cs) (k ∷ ks) c lt e = cells_at n i fs cs ks c (omega arith) e

  -- one cell more
  pub cells_more : (i : ℕ) (fs : List Field) (cs : List Cell) (ks : List (Option Cell)) (c d : Cell) (old new whole : List Cell) → i < length cs → c ≡ get_or cs i c →
      d ≡ next_at by i (slice_get fs i) c (slice_get ks i) → new ≡ old ++ d ∷ [] → old ++ next_cells by i (drop i fs) (drop i cs) (drop i ks) ≡ whole →
      new ++ next_cells by (i + 1) (drop (i + 1) fs) (drop (i + 1) cs) (drop (i + 1) ks) ≡ whole
  cells_more i fs cs ks c d old new whole lt e is more h =
      ap (λ xs. xs ++ next_cells by (i + 1) (drop (i + 1) fs) (drop (i + 1) cs) (drop (i + 1) ks)) more
      ∙ append_assoc old (d ∷ []) (next_cells by (i + 1) (drop (i + 1) fs) (drop (i + 1) cs) (drop (i + 1) ks))
      ∙ ap (λ n. old ++ d ∷ next_cells by n (drop n fs) (drop n cs) (drop n ks)) (add-one i)
      ∙ ap (λ x. old ++ x ∷ next_cells by (suc i) (drop (suc i) fs) (drop (suc i) cs) (drop (suc i) ks)) is
      ∙ ap (λ xs. old ++ xs) (sym (cells_at i i fs cs ks c lt e)) ∙ h

  no_cells : (n : ℕ) (fs : List Field) (ks : List (Option Cell)) → next_cells by n fs [] ks ≡ []
  no_cells n [] ks = refl
  no_cells n (f ∷ fs) ks = refl

  -- all of them
  pub cells_all : (i : ℕ) (fs : List Field) (cs : List Cell) (ks : List (Option Cell)) (cells whole : List Cell) → length cs ≤ i →
      cells ++ next_cells by i (drop i fs) (drop i cs) (drop i ks) ≡ whole → cells ≡ whole
  cells_all i fs cs ks cells whole le h =
      sym (append-nil cells) ∙ ap (λ xs. cells ++ xs) (sym (no_cells i (drop i fs) (drop i ks)))
      ∙ ap (λ xs. cells ++ next_cells by i (drop i fs) xs (drop i ks)) (sym (drop_all i cs le)) ∙ h

  -- ---- records

  module _ (o : Object) where
    first_record : (r : Placed) (d : Record) → next_record Updating by o r.row d ≡ next_placed by o (Some r) d
    first_record r (Going p) = refl
    first_record r (Wrong e) = refl

    records_at : (n : ℕ) (rows : List Placed) (d : Record) (ds : List Record) →
        next_records Updating by o (unplaced (drop n rows)) (d ∷ ds) ≡ next_placed by o (slice_get rows n) d ∷ next_records Updating by o (unplaced (drop (suc n) rows)) ds
    records_at zero [] d ds = refl
    records_at (suc n) [] d ds = refl
    records_at zero (r ∷ rows) d ds = ap (λ x. x ∷ next_records Updating by o (unplaced rows) ds) (first_record r d)
    records_at (suc n) (r ∷ rows) d ds = records_at n rows d ds

    -- one record more
    pub records_more : (n : ℕ) (rows : List Placed) (d e : Record) (old new rest left whole : List Record) → rest ≡ d ∷ left → e ≡ next_placed by o (slice_get rows n) d → new ≡ old ++ e ∷ [] →
        old ++ next_records Updating by o (unplaced (drop n rows)) rest ≡ whole → new ++ next_records Updating by o (unplaced (drop (n + 1) rows)) left ≡ whole
    records_more n rows d e old new rest left whole s is more h =
        ap (λ xs. xs ++ next_records Updating by o (unplaced (drop (n + 1) rows)) left) more
        ∙ append_assoc old (e ∷ []) (next_records Updating by o (unplaced (drop (n + 1) rows)) left)
        ∙ ap (λ m. old ++ e ∷ next_records Updating by o (unplaced (drop m rows)) left) (add-one n)
        ∙ ap (λ x. old ++ x ∷ next_records Updating by o (unplaced (drop (suc n) rows)) left) is
        ∙ ap (λ xs. old ++ xs) (sym (records_at n rows d left)) ∙ ap (λ ds. old ++ next_records Updating by o (unplaced (drop n rows)) ds) (sym s) ∙ h

    -- where nothing is updated they stay
    stays : (act : Act) → (act ≡ Updating → ⊥) → (r : SaveRow) (d : Record) → next_record act by o r d ≡ d
    stays Inserting other r (Going p) = refl
    stays Updating other r (Going p) = absurd (other refl)
    stays Deleting other r (Going p) = refl
    stays act other r (Wrong e) = refl

    pub stay : (act : Act) → (act ≡ Updating → ⊥) → (rows : List SaveRow) (ds : List Record) → ds ≡ next_records act by o rows ds
    stay act other [] ds = refl
    stay act other (r ∷ rows) [] = refl
    stay act other (r ∷ rows) (d ∷ ds) = ap (λ x. x ∷ ds) (sym (stays act other r d)) ∙ ap (λ xs. next_record act by o r d ∷ xs) (stay act other rows ds)

    no_records : (rows : List SaveRow) → next_records Updating by o rows [] ≡ []
    no_records [] = refl
    no_records (r ∷ rows) = refl

    pub records_all : (n : ℕ) (rows : List Placed) (next rest whole : List Record) → rest ≡ [] → next ++ next_records Updating by o (unplaced (drop n rows)) rest ≡ whole → next ≡ whole
    records_all n rows next rest whole none h =
        sym (append-nil next) ∙ ap (λ xs. next ++ xs) (sym (no_records (unplaced (drop n rows)))) ∙ ap (λ ds. next ++ next_records Updating by o (unplaced (drop n rows)) ds) (sym none) ∙ h
