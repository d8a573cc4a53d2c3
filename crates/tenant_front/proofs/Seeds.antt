-- A seed is these rows, or has this first fault: in one way, and not both.
use Rattle.std.proofs.Common.{◌≡◌, inl, inr, ℕ, ◌+◌, Bool, true, false, List, [], ◌∷◌, ◌++◌, length, take, slice_get, None, Some, refl, sym, ap, ap₂, ◌∙◌, subst, append_assoc, append-nil}
use Rattle.std.specs.List.{position_from}
use Rattle.std.proofs.lemmas.Option.{same_Some, none-some}
use Rattle.apex_num.specs.declared.cell.Cell.TheVariants.{Id}
use Rattle.apex_schema.specs.declared.schema.Object.{Object}
use Rattle.apex_schema.specs.declared.schema.Schema.{Schema}
use Rattle.apex_rows.specs.declared.row.Row.{Row}
use Rattle.fault_words.specs.declared.fault.Fault.{Fault}
use Rattle.fault_words.specs.declared.fault.FaultWord.{FaultWord}
use Rattle.fault_words.specs.declared.fault.FaultWord.TheVariants.{BadCell}
use Rattle.number_methods.specs.Laws.{DecimalOfText}
use Rattle.schema_plans.specs.Schemas.{numbered}
use Rattle.row_cells.specs.Rows.{Known, IsRow, some_unknown}
use Rattle.seed_rows.specs.Written.{Written}
use Rattle.seed_rows.specs.Words.{word_of}
use Rattle.seed_rows.specs.Seeds.{or_default, object_at, IsSeedRow, IsWordOf, IsWrong, AreRows, IsRolled, AreRolled, IsSeed, is_out, has_out, first_out, IsFirstWrong, IsFirstOut, IsFirstFault, place_of_row}
use Rattle.tenant_front.proofs.Cells.{row_once}

same_id : (a b : List ℕ) → Some (Some (Id a)) ≡ Some (Some (Id b)) → a ≡ b
same_id a b e = cc

both : (o : Bool) → o ≡ true → o ≡ false → ⊥
both o e f = cc

module _ (decimal : DecimalOfText) (schema : Schema) (all : List Written) where
  -- ---- one row

  module _ (before : List Row) (w : Written) where
    known_once : (o : Object) (known : Known) (row : Row) → object_at schema w.object ≡ Some o → IsRow o.fields w.cells known → (s : IsSeedRow schema all before w row) → (s.o ≡ o) × (s.known ≡ known)
    known_once o known row at knows s =
        let same : s.o ≡ o = same_Some s.o o (sym s.is_object ∙ at) in
        (same, row_once decimal o.fields w.cells known s.known knows (subst (λ (x : Object). IsRow x.fields w.cells s.known) same s.knows))

    seed_row_once : (row other : Row) → IsSeedRow schema all before w row → IsSeedRow schema all before w other → other ≡ row
    seed_row_once row other s t =
        let known = (known_once s.o s.known other s.is_object s.knows t).1 in
        let eo : other.object ≡ row.object = same_Some other.object row.object (sym t.object ∙ s.object) in
        let ei : other.id ≡ row.id = same_id other.id row.id (sym t.id ∙ ap (λ l. slice_get l 0) known ∙ s.id) in
        let ec : other.cells ≡ row.cells = t.cells ∙ ap (numbered or_default 0) known ∙ sym s.cells in
        λ i. record { object = eo i; id = ei i; cells = ec i }

    word_once : (o : Object) (x y : FaultWord) → IsWordOf schema all before o w x → IsWordOf schema all before o w y → y ≡ x
    word_once o x y (inl (h, is)) (inl (k, at)) = at ∙ sym is
    word_once o x y (inl (h, is)) (inr (inl (k, at))) = absurd (both (some_unknown o.fields w.cells) h k.0)
    word_once o x y (inl (h, is)) (inr (inr (known, knows, at))) = absurd (both (some_unknown o.fields w.cells) h knows.named)
    word_once o x y (inr (inl (h, is))) (inl (k, at)) = absurd (both (some_unknown o.fields w.cells) k h.0)
    word_once o x y (inr (inl (h, is))) (inr (inl (k, at))) = at ∙ sym is
    word_once o x y (inr (inl (h, is))) (inr (inr (known, knows, at))) = absurd (h.1 known knows)
    word_once o x y (inr (inr (known, knows, is))) (inl (k, at)) = absurd (both (some_unknown o.fields w.cells) k knows.named)
    word_once o x y (inr (inr (known, knows, is))) (inr (inl (k, at))) = absurd (k.1 known knows)
    word_once o x y (inr (inr (known, knows, is))) (inr (inr (other, knows', at))) =
        let same : other ≡ known = row_once decimal o.fields w.cells known other knows knows' in
        same_Some y x (sym at ∙ ap (word_of (length schema.users) all before o) same ∙ is)

    wrong_once : (x y : FaultWord) → IsWrong schema all before w x → IsWrong schema all before w y → y ≡ x
    wrong_once x y (inl (none, is)) (inl (nor, at)) = at ∙ sym is
    wrong_once x y (inl (none, is)) (inr (o, at, k)) = absurd (none-some o (sym none ∙ at))
    wrong_once x y (inr (o, at, h)) (inl (none, is)) = absurd (none-some o (sym none ∙ at))
    wrong_once x y (inr (o, is, h)) (inr (p, at, k)) =
        let same : p ≡ o = same_Some p o (sym at ∙ is) in word_once o x y h (subst (λ (q : Object). IsWordOf schema all before q w y) same k)

    -- nothing is wrong with a row that is written
    not_word : (o : Object) (word : FaultWord) (row : Row) → object_at schema w.object ≡ Some o → IsWordOf schema all before o w word → IsSeedRow schema all before w row → ⊥
    not_word o word row at (inl (h, is)) s =
        let same : s.o ≡ o = same_Some s.o o (sym s.is_object ∙ at) in
        both (some_unknown o.fields w.cells) h (subst (λ (x : Object). some_unknown x.fields w.cells ≡ false) same s.knows.named)
    not_word o word row at (inr (inl (h, is))) s =
        let same : s.o ≡ o = same_Some s.o o (sym s.is_object ∙ at) in
        h.1 s.known (subst (λ (x : Object). IsRow x.fields w.cells s.known) same s.knows)
    not_word o word row at (inr (inr (known, knows, is))) s =
        let k = known_once o known row at knows s in
        let none : word_of (length schema.users) all before o known ≡ None =
        subst (λ x. word_of (length schema.users) all before x known ≡ None) k.0 (subst (λ l. word_of (length schema.users) all before s.o l ≡ None) k.1 s.faultless) in
        none-some word (sym none ∙ is)

    not_wrong : (word : FaultWord) (row : Row) → IsWrong schema all before w word → IsSeedRow schema all before w row → ⊥
    not_wrong word row (inl (none, is)) s = none-some s.o (sym none ∙ s.is_object)
    not_wrong word row (inr (o, at, h)) s = not_word o word row at h s

  -- ---- rows, each in view of those before it

  rows_once : (before : List Row) (ws : List Written) (rows others : List Row) → AreRows schema all before ws rows → AreRows schema all before ws others → others ≡ rows
  rows_once before [] rows others h k = k ∙ sym h
  rows_once before (w ∷ ws) [] others h k = absurd h
  rows_once before (w ∷ ws) (r ∷ rows) [] h k = absurd k
  rows_once before (w ∷ ws) (r ∷ rows) (q ∷ others) h k =
      let same : q ≡ r = seed_row_once before w r q h.0 k.0 in
      ap₂ (λ x l. x ∷ l) same (rows_once (before ++ r ∷ []) ws rows others h.1 (subst (λ x. AreRows schema all (before ++ x ∷ []) ws others) same k.1))

  -- something is wrong with a row behind these
  abbrev WrongBehind : List Row → List Written → List Row → Written → FaultWord → Type 0
  WrongBehind before front rows w word = AreRows schema all before front rows × IsWrong schema all (before ++ rows) w word

  here : (before rows : List Row) (w : Written) (word : FaultWord) → WrongBehind before [] rows w word → IsWrong schema all before w word
  here before rows w word h = subst (λ l. IsWrong schema all l w word) (ap (λ l. before ++ l) h.0 ∙ append-nil before) h.1

  -- one row on
  on : (before : List Row) (r q : Row) (rows : List Row) (front : List Written) (w : Written) (word : FaultWord) → q ≡ r → AreRows schema all (before ++ q ∷ []) front rows → IsWrong schema all (before ++ q ∷ rows) w word
      → WrongBehind (before ++ r ∷ []) front rows w word
  on before r q rows front w word same h wrong = (
    subst (λ x. AreRows schema all (before ++ x ∷ []) front rows) same h,
    subst (λ l. IsWrong schema all l w word) (ap (λ x. before ++ x ∷ rows) same ∙ sym (append_assoc before (r ∷ []) rows)) wrong,
  )

  stop_once : (before : List Row) (front first : List Written) (w v : Written) (rest other : List Written) (rows others : List Row) (x y : FaultWord) → front ++ w ∷ rest ≡ first ++ v ∷ other
      → WrongBehind before front rows w x → WrongBehind before first others v y → (first ≡ front) × (v ≡ w) × (y ≡ x)
  stop_once before [] [] w v rest other rows others x y e h k =
      let same : v ≡ w = cc e in
      (refl, same, wrong_once before w x y (here before rows w x h) (subst (λ u. IsWrong schema all before u y) same (here before others v y k)))
  stop_once before [] (u ∷ first) w v rest other rows [] x y e h k = absurd k.0
  stop_once before [] (u ∷ first) w v rest other rows (q ∷ others) x y e h k =
      let same : u ≡ w = cc e in
      absurd (not_wrong before w x q (here before rows w x h) (subst (λ t. IsSeedRow schema all before t q) same k.0.0))
  stop_once before (u ∷ front) [] w v rest other [] others x y e h k = absurd h.0
  stop_once before (u ∷ front) [] w v rest other (r ∷ rows) others x y e h k =
      let same : u ≡ v = cc e in
      absurd (not_wrong before v y r (here before others v y k) (subst (λ t. IsSeedRow schema all before t r) same h.0.0))
  stop_once before (u ∷ front) (t ∷ first) w v rest other [] others x y e h k = absurd h.0
  stop_once before (u ∷ front) (t ∷ first) w v rest other (r ∷ rows) [] x y e h k = absurd k.0
  stop_once before (u ∷ front) (t ∷ first) w v rest other (r ∷ rows) (q ∷ others) x y e h k =
      let same : t ≡ u = cc e in
      let tails : front ++ w ∷ rest ≡ first ++ v ∷ other = cc e in
      let row : q ≡ r = seed_row_once before u r q h.0.0 (subst (λ p. IsSeedRow schema all before p q) same k.0.0) in
      let s = stop_once (before ++ r ∷ []) front first w v rest other rows others x y tails (on before r r rows front w x refl h.0.1 h.1) (on before r q others first v y row k.0.1 k.1) in
      (ap₂ (λ p l. p ∷ l) same s.0, s.1, s.2)

  not_all : (before : List Row) (front : List Written) (w : Written) (rest : List Written) (rows others : List Row) (word : FaultWord) → WrongBehind before front rows w word → AreRows schema all before (front ++ w ∷ rest) others → ⊥
  not_all before [] w rest rows [] word h k = absurd k
  not_all before [] w rest rows (q ∷ others) word h k = not_wrong before w word q (here before rows w word h) k.0
  not_all before (u ∷ front) w rest [] others word h k = absurd h.0
  not_all before (u ∷ front) w rest (r ∷ rows) [] word h k = absurd k
  not_all before (u ∷ front) w rest (r ∷ rows) (q ∷ others) word h k =
      let row : r ≡ q = seed_row_once before u q r k.0 h.0.0 in
      not_all (before ++ q ∷ []) front w rest rows others word (on before q r rows front w word row h.0.1 h.1) k.1

  -- ---- roll-ups

  module _ (plain : List Row) where
    row_cells_once : (p row other : Row) → IsRolled schema plain p row → IsRolled schema plain p other → other ≡ row
    row_cells_once p row other h k =
        let eo : other.object ≡ row.object = k.object ∙ sym h.object in
        let ei : other.id ≡ row.id = k.id ∙ sym h.id in
        let ec : other.cells ≡ row.cells = let e = sym k.cells ∙ h.cells in cc in
        λ i. record { object = eo i; id = ei i; cells = ec i }

    rolled_once : (ps rows others : List Row) → AreRolled schema plain ps rows → AreRolled schema plain ps others → others ≡ rows
    rolled_once [] rows others h k = k ∙ sym h
    rolled_once (p ∷ ps) [] others h k = absurd h
    rolled_once (p ∷ ps) (r ∷ rows) [] h k = absurd k
    rolled_once (p ∷ ps) (r ∷ rows) (q ∷ others) h k = ap₂ (λ x l. x ∷ l) (row_cells_once p r q h.0 k.0) (rolled_once ps rows others h.1 k.1)

    none_out : (ps rows : List Row) (n : ℕ) → AreRolled schema plain ps rows → position_from (has_out schema plain) n ps ≡ None
    none_out [] rows n h = refl
    none_out (p ∷ ps) [] n h = absurd h
    none_out (p ∷ ps) (r ∷ rows) n (here, rest) = rw (ap is_out here.cells) (none_out ps rows (n + 1) rest)

  -- ---- seeds

  pub seed_once : (rows others : List Row) → IsSeed schema all rows → IsSeed schema all others → others ≡ rows
  seed_once rows others (plain, are, rolled) (plain', are', rolled') =
      let same : plain' ≡ plain = rows_once [] all plain plain' are are' in rolled_once plain plain rows others rolled (subst (λ l. AreRolled schema l l others) same rolled')

  abbrev told : List Written → Written → FaultWord → Fault
  told front w word = record { place = place_of_row schema front w; word = word }

  wrong_fault_once : (fault other : Fault) → IsFirstWrong schema all fault → IsFirstWrong schema all other → other ≡ fault
  wrong_fault_once fault other f g =
      let s = stop_once [] f.front g.front f.w g.w f.rest g.rest f.rows g.rows f.word g.word (sym f.parts ∙ g.parts) (f.before, f.wrong) (g.before, g.wrong) in
      g.is ∙ ap (λ l. told l g.w g.word) s.0 ∙ ap (λ v. told f.front v g.word) s.1 ∙ ap (told f.front f.w) s.2 ∙ sym f.is

  out_once : (fault other : Fault) → IsFirstOut schema all fault → IsFirstOut schema all other → other ≡ fault
  out_once fault other f g =
      let rows : g.rows ≡ f.rows = rows_once [] all f.rows g.rows f.are g.are in
      let number : g.number ≡ f.number = same_Some g.number f.number (sym g.first ∙ ap (first_out schema) rows ∙ f.first) in
      let w : g.w ≡ f.w = same_Some g.w f.w (sym g.written ∙ ap (slice_get all) number ∙ f.written) in
      g.is ∙ ap₂ (λ n v. told (take n all) v BadCell) number w ∙ sym f.is

  -- where something is wrong with a row, they aren't all rows
  no_rows : (rows : List Row) (fault : Fault) → AreRows schema all [] all rows → IsFirstWrong schema all fault → ⊥
  no_rows rows fault h f = not_all [] f.front f.w f.rest f.rows rows f.word (f.before, f.wrong) (subst (λ l. AreRows schema all [] l rows) f.parts h)

  pub seed_fault_once : (fault other : Fault) → IsFirstFault schema all fault → IsFirstFault schema all other → other ≡ fault
  seed_fault_once fault other (inl f) (inl g) = wrong_fault_once fault other f g
  seed_fault_once fault other (inl f) (inr g) = absurd (no_rows g.rows fault g.are f)
  seed_fault_once fault other (inr f) (inl g) = absurd (no_rows f.rows other f.are g)
  seed_fault_once fault other (inr f) (inr g) = out_once fault other f g

  pub seed_or_fault : (rows : List Row) (fault : Fault) → IsSeed schema all rows → IsFirstFault schema all fault → ⊥
  seed_or_fault rows fault (plain, are, rolled) (inl f) = no_rows plain fault are f
  seed_or_fault rows fault (plain, are, rolled) (inr f) =
      let same : plain ≡ f.rows = rows_once [] all f.rows plain f.are are in none-some f.number (sym (none_out plain plain rows 0 rolled) ∙ ap (first_out schema) same ∙ f.first)
