-- The rows of a seed with their roll-ups, one after the other.
use Rattle.std.proofs.Common.{arith, ◌≡◌, ◌<◌, ◌+◌, ℕ, zero, suc, true, false, List, [], ◌∷◌, ◌++◌, length, take, get_or, option_map, None, Some, inl, inr, refl, sym, ap, ap₂, ◌∙◌, subst}
use Rattle.std.specs.List.{position_from}
use Rattle.std.proofs.lemmas.List.{take_more, take-map}
use Rattle.std.proofs.lemmas.Option.{none-some, slice_get-get_or, slice_get-map}
use Rattle.apex_num.specs.declared.cell.Cell.{Cell}
use Rattle.apex_schema.specs.declared.schema.Schema.{Schema}
use Rattle.apex_rows.specs.declared.row.Row.{Row}
use Rattle.rolled_rows.specs.declared.rolled.Rolled.TheVariants.{Cells}
use Rattle.seed_rows.specs.declared.fault.SeedFault.{SeedFault}
use Rattle.seed_rows.specs.declared.fault.SeedFault.TheVariants.{Wrong, NoMemory}
use Rattle.fault_words.specs.declared.fault.FaultWord.TheVariants.{BadCell}
use Rattle.seed_rows.specs.declared.row.RowEnd.TheVariants.{Word}
use Rattle.seed_rows.specs.declared.written.WrittenRow.{WrittenRow}
use Rattle.seed_rows.specs.Written.{Written}
use Rattle.seed_rows.specs.Seeds.{AreRows, AreRolled, IsRolled, IsOnlySeed, IsSeed, NoSeed, first_out, has_out, is_out, place_of_row}
use Rattle.seed_rows.specs.Rolls.{AreOnlyRows, IsOutAt, NoRows}
use Rattle.seed_rows.specs.Rows.{FaultAt}
use Rattle.seed_rows.specs.Views.{all_as_written, as_written}

-- ---- one row

same_cells : (a b : List Cell) → Cells a ≡ Cells b → a ≡ b
same_cells a b e = cc

module _ (schema : Schema) (all : List Row) where
  rolled_once : (plain row other : Row) → IsRolled schema all plain row → IsRolled schema all plain other → other ≡ row
  rolled_once plain row other h k =
      let eo : other.object ≡ row.object = k.object ∙ sym h.object in
      let ei : other.id ≡ row.id = k.id ∙ sym h.id in
      let ec : other.cells ≡ row.cells = same_cells other.cells row.cells (sym k.cells ∙ h.cells) in
      λ i. record { object = eo i; id = ei i; cells = ec i }

  in_range : (plain row : Row) → IsRolled schema all plain row → has_out schema all plain ≡ false
  in_range plain row h = ap is_out h.cells

  -- ---- rows

  push : (plain rows : List Row) (p row : Row) → AreRolled schema all plain rows → IsRolled schema all p row → AreRolled schema all (plain ++ p ∷ []) (rows ++ row ∷ [])
  push [] [] p row h s = (s, refl)
  push [] (r ∷ rows) p row h s = absurd (cc)
  push (q ∷ plain) [] p row h s = absurd h
  push (q ∷ plain) (r ∷ rows) p row (here, rest) s = (here, push plain rows p row rest s)

  pub rolled_more : (plain rows : List Row) (i : ℕ) (p row : Row) → i < length plain → p ≡ get_or plain i p → AreRolled schema all (take i plain) rows → IsRolled schema all p row → AreRolled schema all (take (i + 1) plain) (rows ++ row ∷ [])
  rolled_more plain rows i p row lt is h s =
      let next : take (i + 1) plain ≡ take i plain ++ p ∷ [] = take_more plain i p lt ∙ ap (λ x. take i plain ++ x ∷ []) (sym is) in
      subst (λ l. AreRolled schema all l (rows ++ row ∷ [])) (sym next) (push (take i plain) rows p row h s)

  rows_once : (plain rows others : List Row) → AreRolled schema all plain rows → AreRolled schema all plain others → others ≡ rows
  rows_once [] rows others h k = k ∙ sym h
  rows_once (p ∷ plain) [] others h k = absurd h
  rows_once (p ∷ plain) (r ∷ rows) [] h k = absurd k
  rows_once (p ∷ plain) (r ∷ rows) (q ∷ others) h k = ap₂ (λ x l. x ∷ l) (rolled_once p r q h.0 k.0) (rows_once plain rows others h.1 k.1)

  none_out : (plain rows : List Row) (n : ℕ) → AreRolled schema all plain rows → position_from (has_out schema all) n plain ≡ None
  none_out [] rows n h = refl
  none_out (p ∷ plain) [] n h = absurd h
  none_out (p ∷ plain) (r ∷ rows) n (here, rest) = rw (in_range p r here) (none_out plain rows (n + 1) rest)

  first_at : (plain rows : List Row) (n i : ℕ) (p : Row) → i < length plain → p ≡ get_or plain i p → AreRolled schema all (take i plain) rows → has_out schema all p ≡ true → position_from (has_out schema all) n plain ≡ Some (n + i)
  first_at [] rows n i p lt is h o = absurd (omega arith)
  first_at (q ∷ plain) rows n zero p lt is h o =
      let here : has_out schema all q ≡ true = ap (has_out schema all) (sym is) ∙ o in
      rw here (ap Some (omega arith))
  first_at (q ∷ plain) [] n (suc i) p lt is h o = absurd h
  first_at (q ∷ plain) (r ∷ rows) n (suc i) p lt is (here, rest) o =
      let there : n + 1 + i ≡ n + suc i = omega arith in
      rw (in_range q r here) (first_at plain rows (n + 1) i p (omega arith) is rest o ∙ ap Some there)

-- ---- the rows of a seed

count : (schema : Schema) (all : List Written) (before : List Row) (ws : List Written) (rows : List Row) → AreRows schema all before ws rows → length rows ≡ length ws
count schema all before [] rows h = ap length h
count schema all before (w ∷ ws) [] h = absurd h
count schema all before (w ∷ ws) (r ∷ rows) (here, rest) = ap suc (count schema all (before ++ r ∷ []) ws rows rest)

module _ (schema : Schema) (all : List Written) (plain : List Row) (h : AreOnlyRows schema all plain) where
  pub as_many : length plain ≡ length all
  as_many = count schema all [] all plain h.0

  pub only_seed : (rows : List Row) → AreRolled schema plain plain rows → IsOnlySeed schema all rows
  only_seed rows k = ((plain, h.0, k), λ other s. same other s) where
    same : (other : List Row) → IsSeed schema all other → other ≡ rows
    same other (others, are, rolled) = rows_once schema plain plain rows other k (subst (λ l. AreRolled schema l l other) (h.1 others are) rolled)

  pub out_at : (rows : List Row) (i : ℕ) (p : Row) → i < length plain → p ≡ get_or plain i p → AreRolled schema plain (take i plain) rows → has_out schema plain p ≡ true → (fault : SeedFault) → IsOutAt schema all i fault → NoSeed schema all fault
  out_at rows i p lt is k o (Wrong fault) (w, written, f) = (inr (record { rows = plain; are = h.0; number = i; first = first; w = w; written = written; is = f }), λ other s. none other s) where
    first : first_out schema plain ≡ Some i
    first = first_at schema plain plain rows 0 i p lt is k o ∙ ap Some (omega arith)

    none : (other : List Row) → IsSeed schema all other → ⊥
    none other (others, are, rolled) =
        let rest : AreRolled schema plain plain other = subst (λ l. AreRolled schema l l other) (h.1 others are) rolled in
        none-some i (sym (none_out schema plain plain other 0 rest) ∙ first)
  out_at rows i p lt is k o NoMemory f = tt

-- a fault of the rows is one of the seed
pub no_seed : (schema : Schema) (all : List Written) (fault : SeedFault) → NoRows schema all fault → NoSeed schema all fault
no_seed schema all (Wrong fault) n = (inl n.0, λ rows s. n.1 s.0 s.1)
no_seed schema all NoMemory n = tt

-- the fault at the place of a row is that of the row's number
pub fault_here : (schema : Schema) (ws : List WrittenRow) (n : ℕ) (w : WrittenRow) → n < length ws → w ≡ get_or ws n w → (fault : SeedFault) → FaultAt (place_of_row schema (all_as_written (take n ws)) (as_written w)) (Word BadCell) fault → IsOutAt schema (all_as_written ws) n fault
fault_here schema ws n w lt is (Wrong fault) f = (
  as_written w,
  slice_get-map as_written ws n ∙ ap (option_map as_written) (slice_get-get_or ws n w lt ∙ ap Some (sym is)),
  f ∙ ap (λ l. record { place = place_of_row schema l (as_written w); word = BadCell }) (sym (take-map as_written n ws)),
)
fault_here schema ws n w lt is NoMemory f = tt
