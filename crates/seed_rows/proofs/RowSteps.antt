-- One row of a seed.
use Rattle.std.proofs.Common.{arith, ◌≡◌, ◌<◌, ◌+◌, ℕ, false, List, [], ◌∷◌, ◌++◌, length, take, get_or, slice_get, None, Some, inl, inr, refl, sym, ap, ◌∙◌, subst}
use Rattle.std.proofs.lemmas.List.{take_more, length-take-le}
use Rattle.std.proofs.lemmas.Option.{same_Some}
use Rattle.apex_num.specs.declared.cell.Cell.{Cell}
use Rattle.apex_num.specs.declared.cell.Cell.TheVariants.{Id}
use Rattle.apex_schema.specs.declared.schema.Object.{Object}
use Rattle.apex_schema.specs.declared.schema.Schema.{Schema}
use Rattle.apex_rows.specs.declared.row.Row.{Row}
use Rattle.fault_words.specs.declared.fault.FaultWord.{FaultWord}
use Rattle.fault_words.specs.declared.fault.FaultWord.TheVariants.{UnknownObject}
use Rattle.schema_plans.specs.Schemas.{numbered}
use Rattle.row_cells.specs.declared.rows.RowFault.{RowFault}
use Rattle.row_cells.specs.declared.rows.RowFault.TheVariants as Faults
use Rattle.row_cells.specs.Rows.{Known, some_unknown, IsRow, IsOnlyRow, IsRowFault}
use Rattle.seed_rows.specs.declared.row.RowEnd.TheVariants as Ends
use Rattle.seed_rows.specs.Written.{Written}
use Rattle.seed_rows.specs.Words.{word_of}
use Rattle.seed_rows.specs.Seeds.{or_default, object_at, IsSeedRow}
use Rattle.seed_rows.specs.Rows.{IsOnlySeedRow, NoSeedRow, end_of}

-- ---- cells

numbered_snoc : {A B : Type 0} (f : ℕ → A → B) (i : ℕ) (xs : List A) (x : A) → numbered f i (xs ++ x ∷ []) ≡ numbered f i xs ++ f (i + length xs) x ∷ []
numbered_snoc f i [] x = ap (λ n. f n x ∷ []) (omega arith)
numbered_snoc f i (y ∷ xs) x = ap (λ l. f i y ∷ l) (numbered_snoc f (i + 1) xs x ∙ ap (λ n. numbered f (i + 1) xs ++ f n x ∷ []) (omega arith))

pub numbered_at : {A B : Type 0} (f : ℕ → A → B) (xs : List A) (n : ℕ) (x : A) → n < length xs → x ≡ get_or xs n x → numbered f 0 (take (n + 1) xs) ≡ numbered f 0 (take n xs) ++ f n x ∷ []
numbered_at f xs n x lt is =
    ap (numbered f 0) (take_more xs n x lt ∙ ap (λ y. take n xs ++ y ∷ []) (sym is)) ∙ numbered_snoc f 0 (take n xs) x
    ∙ ap (λ m. numbered f 0 (take n xs) ++ f m x ∷ []) (let l = length-take-le n xs (omega arith) in omega arith)

-- ---- rows

same_id : (a b : List ℕ) → Some (Some (Id a)) ≡ Some (Some (Id b)) → a ≡ b
same_id a b e = cc

module _ (schema : Schema) (all : List Written) (before : List Row) (w : Written) (o : Object) (at : object_at schema w.object ≡ Some o) where
  -- what a row's cells are is known in one way
  same_known : (known : Known) → IsOnlyRow o.fields w.cells known → (row : Row) (s : IsSeedRow schema all before w row) → (s.o ≡ o) × (s.known ≡ known)
  same_known known only row s =
      let same : s.o ≡ o = same_Some s.o o (sym s.is_object ∙ at) in
      (same, only.1 s.known (subst (λ (x : Object). IsRow x.fields w.cells s.known) same s.knows))

  module _ (n : ℕ) (number : w.object ≡ Some n) (known : Known) (only : IsOnlyRow o.fields w.cells known) where
    pub only_row : (id : List ℕ) (cells : List Cell) → word_of (length schema.users) all before o known ≡ None → slice_get known 0 ≡ Some (Some (Id id)) → cells ≡ numbered or_default 0 known
        → IsOnlySeedRow schema all before w (record { object = n; id = id; cells = cells })
    only_row id cells faultless is_id filled = (
      record { object = number; o = o; is_object = at; known = known; knows = only.0; faultless = faultless; id = is_id; cells = filled },
      λ other s. same other s,
    ) where
      same : (other : Row) → IsSeedRow schema all before w other → other ≡ record { object = n; id = id; cells = cells }
      same other s =
          let k = (same_known known only other s).1 in
          let eo : other.object ≡ n = same_Some other.object n (sym s.object ∙ number) in
          let ei : other.id ≡ id = same_id other.id id (sym s.id ∙ ap (λ l. slice_get l 0) k ∙ is_id) in
          let ec : other.cells ≡ cells = s.cells ∙ ap (numbered or_default 0) k ∙ sym filled in
          λ i. record { object = eo i; id = ei i; cells = ec i }

    pub no_row : (word : FaultWord) → word_of (length schema.users) all before o known ≡ Some word → NoSeedRow schema all before w (Ends.Word word)
    no_row word is = (
      inr (o, at, inr (inr (known, only.0, is))),
      λ row s.
          let k = same_known known only row s in
          let none : word_of (length schema.users) all before o known ≡ None = subst (λ x. word_of (length schema.users) all before x known ≡ None) k.0 (subst (λ l. word_of (length schema.users) all before s.o l ≡ None) k.1 s.faultless) in
          absurd (cc),
    )

  -- a row without cells
  pub no_cells : (fault : RowFault) → IsRowFault o.fields w.cells fault → NoSeedRow schema all before w (end_of fault)
  no_cells Faults.UnknownField h = (
    inr (o, at, inl (h, refl)),
    λ row s.
        let same : s.o ≡ o = same_Some s.o o (sym s.is_object ∙ at) in
        let named = subst (λ (x : Object). some_unknown x.fields w.cells ≡ false) same s.knows.named in
        absurd (cc),
  )
  no_cells Faults.BadCell h = (
    inr (o, at, inr (inl (h, refl))),
    λ row s.
        let same : s.o ≡ o = same_Some s.o o (sym s.is_object ∙ at) in
        h.1 s.known (subst (λ (x : Object). IsRow x.fields w.cells s.known) same s.knows),
  )
  no_cells Faults.NoMemory h = tt

-- a row of no object
pub no_object : (schema : Schema) (all : List Written) (before : List Row) (w : Written) → object_at schema w.object ≡ None → NoSeedRow schema all before w (Ends.Word UnknownObject)
no_object schema all before w none = (inl (none, refl), λ row s. absurd (let e = sym s.is_object ∙ none in cc))
