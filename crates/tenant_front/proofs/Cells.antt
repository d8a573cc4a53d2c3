-- The cells of a written row are told in one way.
use Rattle.std.proofs.Common.{arith, ◌≡◌, ◌<◌, inl, inr, ℕ, zero, suc, ℤ, List, [], ◌∷◌, length, take, slice_get, Option, Some, sym, ap, ap₂, ◌∙◌, subst, refl}
use Rattle.std.proofs.lemmas.List.{take-append-le}
use Rattle.std.proofs.lemmas.Option.{same_Some, slice_get_within}
use Rattle.std.proofs.Math.Seq.{take-length}
use Rattle.apex_num.specs.declared.cell.Cell.{Cell}
use Rattle.apex_num.specs.declared.cell.Cell.TheVariants as Cells
use Rattle.apex_num.specs.Decimals.{Spells}
use Rattle.apex_num.specs.Ids.{Names, checks}
use Rattle.apex_schema.specs.declared.schema.Field.{Field}
use Rattle.apex_schema.specs.declared.schema.FieldKind.{FieldKind}
use Rattle.apex_schema.specs.declared.schema.FieldKind.TheVariants as Kind
use Rattle.bundle_read.specs.declared.entries.CellEntry.{CellEntry}
use Rattle.bundle_read.specs.declared.entries.CellValue.{CellValue}
use Rattle.bundle_read.specs.declared.entries.CellValue.TheVariants as Value
use Rattle.number_methods.specs.Laws.{DecimalOfText}
use Rattle.row_cells.specs.Cells.{IsIdCell, IsNumberCell, IsTextCell, IsTruthCell, IsDayCell, IsMomentCell, IsOfKind, IsCell}
use Rattle.row_cells.specs.Rows.{Known, Tells, IsRow, naming}

-- ---- Ids

-- the Id that a text names is its first fifteen bytes
fifteen : (text id : List ℕ) → Names text id → take 15 text ≡ id
fifteen text id (is, inl e) = ap (take 15) e ∙ subst (λ n. take n id ≡ id) is.0 (take-length id)
fifteen text id (is, inr e) =
    ap (take 15) e ∙ take-append-le 15 id (checks id) (let l = is.0 in omega arith) ∙ subst (λ n. take n id ≡ id) is.0 (take-length id)

names_once : (text id other : List ℕ) → Names text id → Names text other → other ≡ id
names_once text id other n m = sym (fifteen text other m) ∙ fifteen text id n

id_once : (value : CellValue) (c d : Cell) → IsIdCell value c → IsIdCell value d → d ≡ c
id_once (Value.Text text) c d (id, n, is) (other, m, at) = at ∙ ap Cells.Id (names_once text id other n m) ∙ sym is
id_once Value.Null c d h k = absurd h
id_once (Value.Truth b) c d h k = absurd h
id_once (Value.Whole n) c d h k = absurd h
id_once Value.Float c d h k = absurd h
id_once Value.Nested c d h k = absurd h

-- ---- other kinds

text_once : (value : CellValue) (c d : Cell) → IsTextCell value c → IsTextCell value d → d ≡ c
text_once (Value.Text text) c d is at = at ∙ sym is
text_once Value.Null c d h k = absurd h
text_once (Value.Truth b) c d h k = absurd h
text_once (Value.Whole n) c d h k = absurd h
text_once Value.Float c d h k = absurd h
text_once Value.Nested c d h k = absurd h

truth_once : (value : CellValue) (c d : Cell) → IsTruthCell value c → IsTruthCell value d → d ≡ c
truth_once (Value.Truth b) c d is at = at ∙ sym is
truth_once (Value.Text text) c d h k = absurd h
truth_once Value.Null c d h k = absurd h
truth_once (Value.Whole n) c d h k = absurd h
truth_once Value.Float c d h k = absurd h
truth_once Value.Nested c d h k = absurd h

day_once : (value : CellValue) (c d : Cell) → IsDayCell value c → IsDayCell value d → d ≡ c
day_once (Value.Text text) c d (n, says, is) (m, tells, at) = at ∙ ap Cells.Day (same_Some m n (sym tells ∙ says)) ∙ sym is
day_once Value.Null c d h k = absurd h
day_once (Value.Truth b) c d h k = absurd h
day_once (Value.Whole n) c d h k = absurd h
day_once Value.Float c d h k = absurd h
day_once Value.Nested c d h k = absurd h

moment_once : (value : CellValue) (c d : Cell) → IsMomentCell value c → IsMomentCell value d → d ≡ c
moment_once (Value.Text text) c d (n, says, is) (m, tells, at) = at ∙ ap Cells.Moment (same_Some m n (sym tells ∙ says)) ∙ sym is
moment_once Value.Null c d h k = absurd h
moment_once (Value.Truth b) c d h k = absurd h
moment_once (Value.Whole n) c d h k = absurd h
moment_once Value.Float c d h k = absurd h
moment_once Value.Nested c d h k = absurd h

-- ---- rows

there : {A : Type 0} (xs : List A) (n : ℕ) → n < length xs → (x : A) × (slice_get xs n ≡ Some x)
there [] n lt = absurd (omega arith)
there (x ∷ xs) zero lt = (x, refl)
there (x ∷ xs) (suc n) lt = there xs n (omega arith)

-- lists of one length that agree at each place
by_places : (xs ys : Known) → length xs ≡ length ys → ((n : ℕ) (x y : Option Cell) → slice_get xs n ≡ Some x → slice_get ys n ≡ Some y → x ≡ y) → xs ≡ ys
by_places [] [] l h = refl
by_places [] (y ∷ ys) l h = absurd (cc)
by_places (x ∷ xs) [] l h = absurd (cc)
by_places (x ∷ xs) (y ∷ ys) l h = ap₂ (λ a b. a ∷ b) (h 0 x y refl refl) (by_places xs ys (cc) (λ n. h (suc n)))

-- a text spells one number
module _ (decimal : DecimalOfText) where
  spells_once : (text : List ℕ) (c d : ℤ) → Spells text c → Spells text d → d ≡ c
  spells_once text c d s t = same_Some d c (sym ((decimal text d).1 t) ∙ (decimal text c).1 s)

  number_once : (value : CellValue) (c d : Cell) → IsNumberCell value c → IsNumberCell value d → d ≡ c
  number_once (Value.Whole n) c d (fits, is) (also, at) = at ∙ sym is
  number_once (Value.Text text) c d (n, says, fits, is) (m, tells, also, at) = at ∙ ap Cells.Num (spells_once text n m says tells) ∙ sym is
  number_once Value.Null c d h k = absurd h
  number_once (Value.Truth b) c d h k = absurd h
  number_once Value.Float c d h k = absurd h
  number_once Value.Nested c d h k = absurd h

  of_kind_once : (kind : FieldKind) (value : CellValue) (c d : Cell) → IsOfKind kind value c → IsOfKind kind value d → d ≡ c
  of_kind_once Kind.Id value c d h k = id_once value c d h k
  of_kind_once (Kind.Text n) value c d h k = text_once value c d h k
  of_kind_once Kind.Number value c d h k = number_once value c d h k
  of_kind_once Kind.Checkbox value c d h k = truth_once value c d h k
  of_kind_once Kind.Date value c d h k = day_once value c d h k
  of_kind_once Kind.Datetime value c d h k = moment_once value c d h k
  of_kind_once (Kind.Lookup link) value c d h k = id_once value c d h k
  of_kind_once (Kind.MasterDetail link) value c d h k = id_once value c d h k
  of_kind_once (Kind.Rollup rollup) value c d h k = absurd h

  cell_once : (kind : FieldKind) (value : CellValue) (c d : Cell) → IsCell kind value c → IsCell kind value d → d ≡ c
  cell_once kind Value.Null c d h k = k ∙ sym h
  cell_once kind (Value.Text text) c d h k = of_kind_once kind (Value.Text text) c d h k
  cell_once kind (Value.Truth b) c d h k = of_kind_once kind (Value.Truth b) c d h k
  cell_once kind (Value.Whole n) c d h k = of_kind_once kind (Value.Whole n) c d h k
  cell_once kind Value.Float c d h k = of_kind_once kind Value.Float c d h k
  cell_once kind Value.Nested c d h k = of_kind_once kind Value.Nested c d h k

  told_once : (kind : FieldKind) (entries : List CellEntry) (x y : Option Cell) → Tells kind entries x → Tells kind entries y → y ≡ x
  told_once kind [] x y h k = k ∙ sym h
  told_once kind (e ∷ []) x y (c, is, h) (d, at, k) = at ∙ ap Some (cell_once kind e.value c d h k) ∙ sym is
  told_once kind (e ∷ f ∷ more) x y h k = absurd h

  pub row_once : (fields : List Field) (entries : List CellEntry) (xs ys : Known) → IsRow fields entries xs → IsRow fields entries ys → ys ≡ xs
  row_once fields entries xs ys h k = by_places ys xs (k.count ∙ sym h.count) (λ n y x at is.
      let within : n < length xs = slice_get_within xs n x is in
      let long = h.count in
      let f = there fields n (omega arith) in
      told_once f.0.kind (naming fields n entries) x y (h.each n f.0 x f.1 is) (k.each n f.0 y f.1 at))
