-- The rows of a seed, one after the other.
use Rattle.std.proofs.Common.{◌≡◌, ◌<◌, ◌+◌, ℕ, suc, List, [], ◌∷◌, ◌++◌, length, take, drop, get_or, refl, sym, ap, ap₂, ◌∙◌, subst}
use Rattle.std.proofs.lemmas.List.{take_more, take-append-drop, map_push, map-append, append_assoc, append-nil}
use Rattle.std.proofs.Math.Seq.{drop-cons}
use Rattle.apex_schema.specs.declared.schema.Schema.{Schema}
use Rattle.apex_rows.specs.declared.row.Row.{Row}
use Rattle.seed_rows.specs.declared.fault.SeedFault.{SeedFault}
use Rattle.seed_rows.specs.declared.fault.SeedFault.TheVariants.{Wrong, NoMemory}
use Rattle.seed_rows.specs.declared.row.RowEnd.{RowEnd}
use Rattle.seed_rows.specs.declared.row.RowEnd.TheVariants as Ends
use Rattle.seed_rows.specs.declared.written.WrittenRow.{WrittenRow}
use Rattle.seed_rows.specs.Written.{Written}
use Rattle.seed_rows.specs.Seeds.{AreRows, IsSeedRow, place_of_row}
use Rattle.seed_rows.specs.Rolls.{NoRows}
use Rattle.seed_rows.specs.Rows.{FaultAt, IsOnlySeedRow, NoSeedRow}
use Rattle.seed_rows.specs.Views.{all_as_written, as_written}

module _ (schema : Schema) (all : List Written) where
  join : (before : List Row) (xs : List Written) (rows : List Row) (w : Written) (row : Row) → AreRows schema all before xs rows → IsSeedRow schema all (before ++ rows) w row → AreRows schema all before (xs ++ w ∷ []) (rows ++ row ∷ [])
  join before [] [] w row h s = (subst (λ l. IsSeedRow schema all l w row) (append-nil before) s, refl)
  join before [] (r ∷ rows) w row h s = absurd (cc)
  join before (x ∷ xs) [] w row h s = absurd h
  join before (x ∷ xs) (r ∷ rows) w row (here, rest) s = (here, join (before ++ r ∷ []) xs rows w row rest (subst (λ l. IsSeedRow schema all l w row) (sym (append_assoc before (r ∷ []) rows)) s))

  pub record Split (before : List Row) (xs ys : List Written) (rows : List Row) : Type 0 where
    pub front : List Row
    pub back : List Row
    pub parts : rows ≡ front ++ back
    pub first : AreRows schema all before xs front
    pub then : AreRows schema all (before ++ front) ys back

  split : (before : List Row) (xs ys : List Written) (rows : List Row) → AreRows schema all before (xs ++ ys) rows → Split before xs ys rows
  split before [] ys rows h = record { front = []; back = rows; parts = refl; first = refl; then = subst (λ l. AreRows schema all l ys rows) (sym (append-nil before)) h }
  split before (x ∷ xs) ys [] h = absurd h
  split before (x ∷ xs) ys (r ∷ rows) (here, rest) =
      let s = split (before ++ r ∷ []) xs ys rows rest in
      record { front = r ∷ s.front; back = s.back; parts = ap (λ l. r ∷ l) s.parts; first = (here, s.first); then = subst (λ l. AreRows schema all l ys s.back) (append_assoc before (r ∷ []) s.front) s.then }

  -- these rows, and no others
  abbrev pub OnlyRows : List Written → List Row → Type 0
  OnlyRows some rows = AreRows schema all [] some rows × ((other : List Row) → AreRows schema all [] some other → other ≡ rows)

  pub no_rows : OnlyRows [] []
  no_rows = (refl, λ other h. h)

  one_more : (some : List Written) (rows : List Row) (w : Written) (row : Row) → OnlyRows some rows → IsOnlySeedRow schema all rows w row → OnlyRows (some ++ w ∷ []) (rows ++ row ∷ [])
  one_more some rows w row h s = (join [] some rows w row h.0 s.0, λ other k. same other (split [] some (w ∷ []) other k)) where
    last : (front back : List Row) → front ≡ rows → AreRows schema all front (w ∷ []) back → front ++ back ≡ rows ++ row ∷ []
    last front [] e k = absurd k
    last front (r ∷ []) e (here, end) = ap₂ (λ l x. l ++ x ∷ []) e (s.1 r (subst (λ l. IsSeedRow schema all l w r) e here))
    last front (r ∷ q ∷ back) e (here, end) = absurd (cc)

    same : (other : List Row) → Split [] some (w ∷ []) other → other ≡ rows ++ row ∷ []
    same other k = k.parts ∙ last k.front k.back (h.1 k.front k.first) k.then

  no_more : (some : List Written) (rows : List Row) (w : Written) (rest : List Written) → OnlyRows some rows → ((row : Row) → IsSeedRow schema all rows w row → ⊥) → (other : List Row) → AreRows schema all [] (some ++ w ∷ rest) other → ⊥
  no_more some rows w rest h none other k = stop (split [] some (w ∷ rest) other k) where
    first : (front back : List Row) → front ≡ rows → AreRows schema all front (w ∷ rest) back → ⊥
    first front [] e k = k
    first front (r ∷ back) e (here, end) = none r (subst (λ l. IsSeedRow schema all l w r) e here)

    stop : Split [] some (w ∷ rest) other → ⊥
    stop s = first s.front s.back (h.1 s.front s.first) s.then

module _ (schema : Schema) (ws : List WrittenRow) (i : ℕ) (w : WrittenRow) (rows : List Row) (lt : i < length ws) (is : w ≡ get_or ws i w) (h : OnlyRows schema (all_as_written ws) (all_as_written (take i ws)) rows) where
  pub row_more : (row : Row) → IsOnlySeedRow schema (all_as_written ws) rows (as_written w) row → OnlyRows schema (all_as_written ws) (all_as_written (take (i + 1) ws)) (rows ++ row ∷ [])
  row_more row s =
      let next : all_as_written (take (i + 1) ws) ≡ all_as_written (take i ws) ++ as_written w ∷ [] = ap all_as_written (take_more ws i w lt ∙ ap (λ x. take i ws ++ x ∷ []) (sym is)) ∙ map_push as_written (take i ws) w in
      subst (λ l. OnlyRows schema (all_as_written ws) l (rows ++ row ∷ [])) (sym next) (one_more schema (all_as_written ws) (all_as_written (take i ws)) rows (as_written w) row h s)

  whole : all_as_written ws ≡ all_as_written (take i ws) ++ as_written w ∷ all_as_written (drop (suc i) ws)
  whole = ap all_as_written (sym (take-append-drop i ws) ∙ ap (λ l. take i ws ++ l) (drop-cons ws i w lt ∙ ap (λ x. x ∷ drop (suc i) ws) (sym is))) ∙ map-append as_written (take i ws) (w ∷ drop (suc i) ws)

  pub fault_at : (end : RowEnd) → NoSeedRow schema (all_as_written ws) rows (as_written w) end → (fault : SeedFault) → FaultAt (place_of_row schema (all_as_written (take i ws)) (as_written w)) end fault → NoRows schema (all_as_written ws) fault
  fault_at (Ends.Word word) n (Wrong fault) f = (
    record { front = all_as_written (take i ws); w = as_written w; rest = all_as_written (drop (suc i) ws); parts = whole; rows = rows; before = h.0; word = word; wrong = n.0; is = f },
    λ other k. no_more schema (all_as_written ws) (all_as_written (take i ws)) rows (as_written w) (all_as_written (drop (suc i) ws)) h n.1 other (subst (λ l. AreRows schema (all_as_written ws) [] l other) whole k),
  )
  fault_at Ends.NoMemory n (Wrong fault) f = absurd f
  fault_at end n NoMemory f = tt
