-- The records of rows, one after the other.
use Rattle.std.proofs.Common.{arith, ◌≡◌, inl, inr, ◌<◌, ◌+◌, ℕ, suc, List, [], ◌∷◌, ◌++◌, length, take, drop, get_or, refl, sym, ap, ap₂, ◌∙◌, subst}
use Rattle.std.proofs.lemmas.List.{take_more, take-append-drop, length-take-le}
use Rattle.std.proofs.Math.Seq.{drop-cons}
use Rattle.fault_words.specs.declared.fault.FaultWord.{FaultWord}
use Rattle.apex_requests.specs.declared.request.SaveRow.{SaveRow}
use Rattle.apex_schema.specs.declared.schema.Field.{Field}
use Rattle.bundle_read.specs.declared.entries.RowEntry.{RowEntry}
use Rattle.row_cells.specs.Rows.{Known, IsRow}
use Rattle.save_requests.specs.declared.records.RecordsEnd.{RecordsEnd}
use Rattle.save_requests.specs.declared.records.RecordsEnd.TheVariants.{At, NoMemory}
use Rattle.save_requests.specs.Saves.{IsRecord, AreRecords, IsWordOf, IsFirstBad, OnlyRecords, NoRecords, IsOnlyRecord, NoRecord}

module _ (fields : List Field) where
  -- a row that something is wrong with has no cells
  pub no_cells : (row : RowEntry) (word : FaultWord) → IsWordOf fields row word → (known : Known) → IsRow fields row.cells known → ⊥
  no_cells row word (inl (unknown, e)) known is = let named = is.named in absurd (cc)
  no_cells row word (inr (bad, e)) known is = bad.1 known is

  join : (i : ℕ) (xs : List RowEntry) (saved : List SaveRow) (n : ℕ) (row : RowEntry) (s : SaveRow) → n ≡ i + length xs → AreRecords fields i xs saved → IsRecord fields n row s → AreRecords fields i (xs ++ row ∷ []) (saved ++ s ∷ [])
  join i [] saved n row s e h is = subst (λ l. AreRecords fields i (row ∷ []) (l ++ s ∷ [])) (sym h) (subst (λ m. IsRecord fields m row s) (let same : n ≡ i = omega (arith, e) in same) is, refl)
  join i (x ∷ xs) [] n row s e h is = absurd h
  join i (x ∷ xs) (t ∷ saved) n row s e (here, rest) is = (here, join (i + 1) xs saved n row s (omega (arith, e)) rest is)

  pub record Split (i : ℕ) (xs : List RowEntry) (row : RowEntry) (rest : List RowEntry) (all : List SaveRow) : Type 0 where
    pub front : List SaveRow
    pub s : SaveRow
    pub back : List SaveRow
    pub parts : all ≡ front ++ s ∷ back
    pub first : AreRecords fields i xs front
    pub is : IsRecord fields (i + length xs) row s
    pub later : AreRecords fields (i + length xs + 1) rest back

  split : (i : ℕ) (xs : List RowEntry) (row : RowEntry) (rest : List RowEntry) (all : List SaveRow) → AreRecords fields i (xs ++ row ∷ rest) all → Split i xs row rest all
  split i [] row rest [] h = absurd h
  split i [] row rest (s ∷ all) (here, more) =
      let same : i ≡ i + 0 = omega arith in
      record { front = []; s = s; back = all; parts = refl; first = refl; is = subst (λ m. IsRecord fields m row s) same here; later = subst (λ m. AreRecords fields (m + 1) rest all) same more }
  split i (x ∷ xs) row rest [] h = absurd h
  split i (x ∷ xs) row rest (t ∷ all) (here, more) =
      let p = split (i + 1) xs row rest all more in
      let same : i + 1 + length xs ≡ i + suc (length xs) = omega arith in
      record { front = t ∷ p.front; s = p.s; back = p.back; parts = ap (λ l. t ∷ l) p.parts; first = (here, p.first); is = subst (λ m. IsRecord fields m row p.s) same p.is; later = subst (λ m. AreRecords fields (m + 1) rest p.back) same p.later }

  skip : (i : ℕ) (xs : List RowEntry) (saved : List SaveRow) (at : ℕ) (row : RowEntry) (rest : List RowEntry) (word : FaultWord) → at ≡ i + length xs → AreRecords fields i xs saved → IsWordOf fields row word → IsFirstBad fields i (xs ++ row ∷ rest) at word
  skip i [] saved at row rest word e h w = inl (w, omega (arith, e))
  skip i (x ∷ xs) [] at row rest word e h w = absurd h
  skip i (x ∷ xs) (t ∷ saved) at row rest word e (here, more) w = inr ((t.cells, here.knows), skip (i + 1) xs saved at row rest word (omega (arith, e)) more w)

  module _ (rows : List RowEntry) (i : ℕ) (row : RowEntry) (saved : List SaveRow) (lt : i < length rows) (is : row ≡ get_or rows i row) (h : OnlyRecords fields (take i rows) saved) where
    next : take (i + 1) rows ≡ take i rows ++ row ∷ []
    next = take_more rows i row lt ∙ ap (λ x. take i rows ++ x ∷ []) (sym is)

    whole : rows ≡ take i rows ++ row ∷ drop (suc i) rows
    whole = sym (take-append-drop i rows) ∙ ap (λ l. take i rows ++ l) (drop-cons rows i row lt ∙ ap (λ x. x ∷ drop (suc i) rows) (sym is))

    size : i ≡ 0 + length (take i rows)
    size = let l = length-take-le i rows (omega arith) in omega arith

    pub record_more : (s : SaveRow) → IsOnlyRecord fields i row s → OnlyRecords fields (take (i + 1) rows) (saved ++ s ∷ [])
    record_more s (one, only) = subst (λ l. OnlyRecords fields l (saved ++ s ∷ [])) (sym next) (
      join 0 (take i rows) saved i row s size h.0 one,
      λ other k. same other (split 0 (take i rows) row [] other k),
    ) where
      same : (other : List SaveRow) → Split 0 (take i rows) row [] other → other ≡ saved ++ s ∷ []
      same other p = p.parts ∙ ap (λ l. p.front ++ p.s ∷ l) p.later ∙ ap₂ (λ l x. l ++ x ∷ []) (h.1 p.front p.first) (only p.s (subst (λ m. IsRecord fields m row p.s) (sym size) p.is))

    pub no_records : (end : RecordsEnd) → NoRecord fields i row end → NoRecords fields rows end
    no_records (At at word) (e, w) = (
      subst (λ l. IsFirstBad fields 0 l at word) (sym whole) (skip 0 (take i rows) saved at row (drop (suc i) rows) word (e ∙ size) h.0 w),
      λ all k. let p = split 0 (take i rows) row (drop (suc i) rows) all (subst (λ l. AreRecords fields 0 l all) whole k) in no_cells row word w p.s.cells p.is.knows,
    )
    no_records NoMemory n = tt

  -- ---- what excludes what

  pub not_both : (i : ℕ) (rows : List RowEntry) (at : ℕ) (word : FaultWord) (saved : List SaveRow) → IsFirstBad fields i rows at word → AreRecords fields i rows saved → ⊥
  not_both i [] at word saved bad h = bad
  not_both i (r ∷ rows) at word [] bad h = h
  not_both i (r ∷ rows) at word (s ∷ saved) (inl (w, e)) (here, rest) = no_cells r word w s.cells here.knows
  not_both i (r ∷ rows) at word (s ∷ saved) (inr (known, bad)) (here, rest) = not_both (i + 1) rows at word saved bad rest

  one_word : (row : RowEntry) (w v : FaultWord) → IsWordOf fields row w → IsWordOf fields row v → w ≡ v
  one_word row w v (inl (a, e)) (inl (b, f)) = e ∙ sym f
  one_word row w v (inl (a, e)) (inr (b, f)) = let named = b.0 in absurd (cc)
  one_word row w v (inr (a, e)) (inl (b, f)) = let named = a.0 in absurd (cc)
  one_word row w v (inr (a, e)) (inr (b, f)) = e ∙ sym f

  pub one_bad : (i : ℕ) (rows : List RowEntry) (at to : ℕ) (w v : FaultWord) → IsFirstBad fields i rows at w → IsFirstBad fields i rows to v → (at ≡ to) × (w ≡ v)
  one_bad i [] at to w v a b = absurd a
  one_bad i (r ∷ rows) at to w v (inl (x, e)) (inl (y, f)) = (e ∙ sym f, one_word r w v x y)
  one_bad i (r ∷ rows) at to w v (inl (x, e)) (inr ((known, is), b)) = absurd (no_cells r w x known is)
  one_bad i (r ∷ rows) at to w v (inr ((known, is), a)) (inl (y, f)) = absurd (no_cells r v y known is)
  one_bad i (r ∷ rows) at to w v (inr (k, a)) (inr (l, b)) = one_bad (i + 1) rows at to w v a b
