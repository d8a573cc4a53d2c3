-- The cells of a row, entry by entry.
use Rattle.std.proofs.Common.{arith, ◌≡◌, ◌<◌, ◌+◌, ◌||◌, ℕ, zero, suc, eqb, cond, Bool, true, false, T, List, [], ◌∷◌, ◌++◌, length, map, filter, take, drop, get_or, replicate, slice_get, slice_set, Result, Ok, Err, MatchResult, Option, None, Some, is_none, refl, sym, ap, ap₂, ◌∙◌, subst, ◌⊎◌, inl, inr}
use Rattle.std.specs.List.{list_any}
use Rattle.std.proofs.lemmas.List.{take_more, take-append-drop, map_push, length-set, append-nil}
use Rattle.std.proofs.lemmas.List.Elements.{filter-append}
use Rattle.std.proofs.lemmas.Option.{same_Some, slice_get_within}
use Rattle.std.proofs.lemmas.Bool.{ne_eqb}
use Rattle.std.proofs.Math.Dec.{eqb_refl}
use Rattle.std.proofs.Math.Seq.{drop-cons}
use Rattle.schema_plans.specs.Plans.{bind}
use Rattle.apex_schema.specs.declared.schema.FieldKind.{FieldKind}
use Rattle.apex_schema.specs.declared.schema.FieldKind.TheVariants as Kind
use Rattle.schema_names.specs.Names.{place_of}
use Rattle.apex_text.specs.Fold.{folded}
use Rattle.formula_rules.specs.Grammar.{field_names}
use Rattle.apex_num.specs.declared.cell.Cell.{Cell}
use Rattle.apex_schema.specs.declared.schema.Field.{Field}
use Rattle.bundle_read.specs.declared.entries.CellEntry.{CellEntry}
use Rattle.row_cells.specs.Cells.{IsCell}
use Rattle.row_cells.specs.declared.rows.RowFault.{RowFault}
use Rattle.row_cells.specs.declared.rows.RowFault.TheVariants.{UnknownField, BadCell, NoMemory}
use Rattle.row_cells.specs.Rows.{field_at, if_written, is_number, naming, some_unknown, Tells, Known, IsRow, IsRowFault, IsOnlyRow, MayPut, IsOnlyPut, NoPut, NoRow}

-- ---- names

any_at : (f : CellEntry → Option ℕ) (es : List CellEntry) (i : ℕ) (e : CellEntry) → i < length es → f (get_or es i e) ≡ None → list_any (λ x. is_none (f x)) es ≡ true
any_at f [] i e lt n = absurd (omega arith)
any_at f (x ∷ es) zero e lt n = ap (λ o. is_none o || list_any (λ y. is_none (f y)) es) n
any_at f (x ∷ es) (suc i) e lt n = later (is_none (f x)) (any_at f es i e (omega arith) n) where
  later : (b : Bool) → list_any (λ y. is_none (f y)) es ≡ true → (b || list_any (λ y. is_none (f y)) es) ≡ true
  later true h = refl
  later false h = h

pub none_any : (f : CellEntry → Option ℕ) (es : List CellEntry) (numbers : List ℕ) → map f es ≡ map Some numbers → list_any (λ x. is_none (f x)) es ≡ false
none_any f [] numbers h = refl
none_any f (x ∷ es) [] h = absurd (cc)
none_any f (x ∷ es) (n ∷ numbers) h =
    let here : f x ≡ Some n = cc in
    let rest : map f es ≡ map Some numbers = cc in
    ap (λ o. is_none o || list_any (λ y. is_none (f y)) es) here ∙ none_any f es numbers rest

module _ (f : CellEntry → Option ℕ) (es : List CellEntry) (i : ℕ) (e : CellEntry) (lt : i < length es) (is : e ≡ get_or es i e) where
  pub unknown_here : None ≡ f e → list_any (λ x. is_none (f x)) es ≡ true
  unknown_here n = any_at f es i e lt (ap f (sym is) ∙ sym n)

  pub number_more : (numbers : List ℕ) (n : ℕ) → map f (take i es) ≡ map Some numbers → Some n ≡ f e → map f (take (i + 1) es) ≡ map Some (numbers ++ n ∷ [])
  number_more numbers n h s =
      ap (map f) (take_more es i e lt ∙ ap (λ x. take i es ++ x ∷ []) (sym is)) ∙ map_push f (take i es) e ∙ ap (λ l. l ++ f e ∷ []) h
      ∙ ap (λ o. map Some numbers ++ o ∷ []) (sym s) ∙ sym (map_push Some numbers n)

-- the number at a place is that of the entry there
pub number_at : (f : CellEntry → Option ℕ) (es : List CellEntry) (numbers : List ℕ) (i : ℕ) (e : CellEntry) (d : ℕ) → map f es ≡ map Some numbers → i < length es → f (get_or es i e) ≡ Some (get_or numbers i d)
number_at f [] numbers i e d h lt = absurd (omega arith)
number_at f (x ∷ es) [] i e d h lt = absurd (cc)
number_at f (x ∷ es) (n ∷ numbers) zero e d h lt = cc
number_at f (x ∷ es) (n ∷ numbers) (suc i) e d h lt = number_at f es numbers i e d (cc) (omega arith)

pub as_many : (f : CellEntry → Option ℕ) (es : List CellEntry) (numbers : List ℕ) → map f es ≡ map Some numbers → length es ≡ length numbers
as_many f [] [] h = refl
as_many f [] (n ∷ numbers) h = absurd (cc)
as_many f (x ∷ es) [] h = absurd (cc)
as_many f (x ∷ es) (n ∷ numbers) h = ap suc (as_many f es numbers (cc))

-- ---- lists

get_set : {A : Type 0} (xs : List A) (n : ℕ) (x : A) → n < length xs → slice_get (slice_set xs n x) n ≡ Some x
get_set [] n x lt = absurd (omega arith)
get_set (y ∷ xs) zero x lt = refl
get_set (y ∷ xs) (suc n) x lt = get_set xs n x (omega arith)

get_set_other : {A : Type 0} (xs : List A) (n m : ℕ) (x : A) → (m ≡ n → ⊥) → slice_get (slice_set xs n x) m ≡ slice_get xs m
get_set_other [] n m x other = refl
get_set_other (y ∷ xs) zero zero x other = absurd (other refl)
get_set_other (y ∷ xs) zero (suc m) x other = refl
get_set_other (y ∷ xs) (suc n) zero x other = refl
get_set_other (y ∷ xs) (suc n) (suc m) x other = get_set_other xs n m x (λ e. other (ap suc e))

same_or : (m n : ℕ) → (m ≡ n) ⊎ (m ≡ n → ⊥)
same_or zero zero = inl refl
same_or zero (suc n) = inr (λ e. omega arith)
same_or (suc m) zero = inr (λ e. omega arith)
same_or (suc m) (suc n) = next (same_or m n) where
  next : (m ≡ n) ⊎ (m ≡ n → ⊥) → (suc m ≡ suc n) ⊎ (suc m ≡ suc n → ⊥)
  next (inl e) = inl (ap suc e)
  next (inr o) = inr (λ e. o (omega arith))

all_none : (count n : ℕ) (k : Option Cell) → slice_get (replicate count None) n ≡ Some k → k ≡ None
all_none zero n k e = absurd (cc)
all_none (suc count) zero k e = sym (same_Some None k e)
all_none (suc count) (suc n) k e = all_none count n k e

as_long : (count : ℕ) → length (replicate {A = Option Cell} count None) ≡ count
as_long zero = refl
as_long (suc count) = ap suc (as_long count)

there : {A : Type 0} (xs : List A) (n : ℕ) → n < length xs → (x : A) × (slice_get xs n ≡ Some x)
there [] n lt = absurd (omega arith)
there (x ∷ xs) zero lt = (x, refl)
there (x ∷ xs) (suc n) lt = there xs n (omega arith)

-- lists of one length that agree at each place
by_places : (xs ys : Known) → length xs ≡ length ys → ((n : ℕ) (x y : Option Cell) → slice_get xs n ≡ Some x → slice_get ys n ≡ Some y → x ≡ y) → xs ≡ ys
by_places [] [] l h = refl
by_places [] (y ∷ ys) l h = absurd (cc)
by_places (x ∷ xs) [] l h = absurd (cc)
by_places (x ∷ xs) (y ∷ ys) l h = ap₂ (λ a b. a ∷ b) (h 0 x y refl refl) (by_places xs ys (cc) (λ n. h (suc n)))

-- ---- fields

is_it : (n : ℕ) (o : Option ℕ) → o ≡ Some n → is_number n o ≡ true
is_it n None e = absurd (cc)
is_it n (Some m) e = ap (λ k. eqb k n) (same_Some m n e) ∙ same (eqb n n) (eqb_refl n) where
  same : (b : Bool) → T b → b ≡ true
  same true t = refl
  same false t = absurd t

is_other : (n m : ℕ) (o : Option ℕ) → o ≡ Some m → (n ≡ m → ⊥) → is_number n o ≡ false
is_other n m None e other = absurd (cc)
is_other n m (Some k) e other = ap (λ j. eqb j n) (same_Some k m e) ∙ ne_eqb m n (λ s. other (sym s))

is_field : (fields : List Field) (place : Option ℕ) (n : ℕ) → bind place (λ m. bind (slice_get fields m) (λ (f : Field). if_written m f.kind)) ≡ Some n → (f : Field) × (slice_get fields n ≡ Some f)
is_field fields None n e = absurd (cc)
is_field fields (Some m) n e = at (slice_get fields m) refl e where
  kept : (k : FieldKind) → if_written m k ≡ Some n → m ≡ n
  kept k h = written k h where
    written : (k : FieldKind) → if_written m k ≡ Some n → m ≡ n
    written (Kind.Rollup rollup) h = absurd (cc)
    written Kind.Id h = same_Some m n h
    written (Kind.Text most) h = same_Some m n h
    written Kind.Number h = same_Some m n h
    written Kind.Checkbox h = same_Some m n h
    written Kind.Date h = same_Some m n h
    written Kind.Datetime h = same_Some m n h
    written (Kind.Lookup link) h = same_Some m n h
    written (Kind.MasterDetail link) h = same_Some m n h

  at : (o : Option Field) → slice_get fields m ≡ o → bind o (λ (f : Field). if_written m f.kind) ≡ Some n → (f : Field) × (slice_get fields n ≡ Some f)
  at None g h = absurd (cc)
  at (Some f) g h = (f, subst (λ k. slice_get fields k ≡ Some f) (kept f.kind h) g)

-- ---- what entries tell of a field

-- what these entries tell, and nothing else
abbrev pub OnlyTells : FieldKind → List CellEntry → Option Cell → Type 0
OnlyTells kind es known = Tells kind es known × ((other : Option Cell) → Tells kind es other → other ≡ known)

told_none : (kind : FieldKind) (es : List CellEntry) → OnlyTells kind es None → es ≡ []
told_none kind [] h = refl
told_none kind (e ∷ []) ((c, is, cell), only) = absurd (cc)
told_none kind (e ∷ d ∷ more) h = absurd h.0

told_one : (kind : FieldKind) (e : CellEntry) (c : Cell) → IsCell kind e.value c → ((other : Cell) → IsCell kind e.value other → other ≡ c) → OnlyTells kind (e ∷ []) (Some c)
told_one kind e c is only = ((c, refl, is), λ other (d, same, cell). same ∙ ap Some (only d cell))

-- one more entry that may not be put there
told_more : (kind : FieldKind) (es : List CellEntry) (e : CellEntry) (rest : List CellEntry) (before known : Option Cell) → OnlyTells kind es before → Tells kind (es ++ e ∷ rest) known → (before ≡ None) × ((c : Cell) × IsCell kind e.value c)
told_more kind [] e [] before known h (c, is, cell) = (h.0, (c, cell))
told_more kind [] e (d ∷ rest) before known h k = absurd k
told_more kind (x ∷ []) e rest before known h k = absurd k
told_more kind (x ∷ y ∷ es) e rest before known h k = absurd k

-- ---- cells

module _ (fields : List Field) where
  -- the entries so far tell these cells, and no others
  pub record SoFar (es : List CellEntry) (cells : Known) : Type 0 where
    pub count : length cells ≡ length fields
    pub each : (n : ℕ) (f : Field) (known : Option Cell) → slice_get fields n ≡ Some f → slice_get cells n ≡ Some known → OnlyTells f.kind (naming fields n es) known

  pub none_yet : (cells : Known) → cells ≡ replicate (length fields) None → SoFar [] cells
  none_yet cells h = record {
    count = ap length h ∙ as_long (length fields);
    each = λ n f known g k. (all_none (length fields) n known (subst (λ l. slice_get l n ≡ Some known) h k), λ other o. o ∙ sym (all_none (length fields) n known (subst (λ l. slice_get l n ≡ Some known) h k)));
  }

  -- all entries tell them
  pub whole_row : (es : List CellEntry) (cells : Known) → some_unknown fields es ≡ false → SoFar es cells → IsOnlyRow fields es cells
  whole_row es cells named h = (
    record { named = named; count = h.count; each = λ n f known g k. (h.each n f known g k).0 },
    λ other k. by_places other cells (k.count ∙ sym h.count) (λ n x y gx gy.
        let t = there fields n (subst (λ m. n < m) h.count (slice_get_within cells n y gy)) in
        (h.each n t.0 y t.1 gy).1 x (k.each n t.0 x t.1 gx)),
  )

  module _ (es : List CellEntry) (i : ℕ) (e : CellEntry) (cells : Known) (n : ℕ) (lt : i < length es) (is : e ≡ get_or es i e) (h : SoFar (take i es) cells) (at : field_at fields e ≡ Some n) where
    next : take (i + 1) es ≡ take i es ++ e ∷ []
    next = take_more es i e lt ∙ ap (λ x. take i es ++ x ∷ []) (sym is)

    whole : es ≡ take i es ++ e ∷ drop (suc i) es
    whole = sym (take-append-drop i es) ∙ ap (λ l. take i es ++ l) (drop-cons es i e lt ∙ ap (λ x. x ∷ drop (suc i) es) (sym is))

    abbrev test : ℕ → CellEntry → Bool
    test m x = is_number m (field_at fields x)

    -- the entry names its field, and no other
    named_by : (m : ℕ) (rest : List CellEntry) → m ≡ n → filter (test m) (e ∷ rest) ≡ e ∷ filter (test m) rest
    named_by m rest same = ap (λ b. cond b (e ∷ filter (test m) rest) (filter (test m) rest)) (is_it m (field_at fields e) (at ∙ ap Some (sym same)))

    not_named : (m : ℕ) (rest : List CellEntry) → (m ≡ n → ⊥) → filter (test m) (e ∷ rest) ≡ filter (test m) rest
    not_named m rest other = ap (λ b. cond b (e ∷ filter (test m) rest) (filter (test m) rest)) (is_other m n (field_at fields e) at other)

    abbrev before : ℕ → List CellEntry
    before m = naming fields m (take i es)

    named_next : (m : ℕ) → m ≡ n → naming fields m (take (i + 1) es) ≡ before m ++ e ∷ []
    named_next m same = ap (filter (test m)) next ∙ filter-append (test m) (take i es) (e ∷ []) ∙ ap (λ l. before m ++ l) (named_by m [] same)

    named_no_more : (m : ℕ) → (m ≡ n → ⊥) → naming fields m (take (i + 1) es) ≡ before m
    named_no_more m other = ap (filter (test m)) next ∙ filter-append (test m) (take i es) (e ∷ []) ∙ ap (λ l. before m ++ l) (not_named m [] other) ∙ append-nil (before m)

    named_whole : (m : ℕ) → m ≡ n → naming fields m es ≡ before m ++ e ∷ naming fields m (drop (suc i) es)
    named_whole m same = ap (filter (test m)) whole ∙ filter-append (test m) (take i es) (e ∷ drop (suc i) es) ∙ ap (λ l. before m ++ l) (named_by m (drop (suc i) es) same)

    pub put_more : (c : Cell) → IsOnlyPut fields cells e n c → SoFar (take (i + 1) es) (slice_set cells n (Some c))
    put_more c ((field, got, none, cell), only) = record {
      count = length-set cells n (Some c) ∙ h.count;
      each = λ m f known g k. at_place m f known g k (same_or m n);
    } where
      within : n < length cells
      within = slice_get_within cells n None none

      here : (m : ℕ) (f : Field) (known : Option Cell) → slice_get fields m ≡ Some f → slice_get (slice_set cells n (Some c)) m ≡ Some known → m ≡ n → OnlyTells f.kind (naming fields m (take (i + 1) es)) known
      here m f known g k same =
          let one : known ≡ Some c = same_Some known (Some c) (sym k ∙ ap (slice_get (slice_set cells n (Some c))) same ∙ get_set cells n (Some c) within) in
          let is_f : f ≡ field = same_Some f field (sym g ∙ ap (slice_get fields) same ∙ got) in
          let empty : before m ≡ [] = told_none f.kind (before m) (h.each m f None g (ap (slice_get cells) same ∙ none)) in
          let list : naming fields m (take (i + 1) es) ≡ e ∷ [] = named_next m same ∙ ap (λ l. l ++ e ∷ []) empty in
          let ic : IsCell f.kind e.value c = subst (λ (x : Field). IsCell x.kind e.value c) (sym is_f) cell in
          let oc : (d : Cell) → IsCell f.kind e.value d → d ≡ c = λ d q. only d (field, got, none, subst (λ (x : Field). IsCell x.kind e.value d) is_f q) in
          subst (λ l. OnlyTells f.kind l known) (sym list) (subst (λ o. OnlyTells f.kind (e ∷ []) o) (sym one) (told_one f.kind e c ic oc))

      at_place : (m : ℕ) (f : Field) (known : Option Cell) → slice_get fields m ≡ Some f → slice_get (slice_set cells n (Some c)) m ≡ Some known → (m ≡ n) ⊎ (m ≡ n → ⊥) → OnlyTells f.kind (naming fields m (take (i + 1) es)) known
      at_place m f known g k (inl same) = here m f known g k same
      at_place m f known g k (inr other) =
          subst (λ l. OnlyTells f.kind l known) (sym (named_no_more m other)) (h.each m f known g (sym (get_set_other cells n m (Some c) other) ∙ k))

    pub no_more : ((c : Cell) → MayPut fields cells e n c → ⊥) → (after : Known) → IsRow fields es after → ⊥
    no_more none after row =
        let field = is_field fields (place_of (field_names fields) (folded e.name)) n at in
        let lt_fields : n < length fields = slice_get_within fields n field.0 field.1 in
        let old = there cells n (subst (λ m. n < m) (sym h.count) lt_fields) in
        let new = there after n (subst (λ m. n < m) (sym row.count) lt_fields) in
        let told = subst (λ l. Tells field.0.kind l new.0) (named_whole n refl) (row.each n field.0 new.0 field.1 new.1) in
        let more = told_more field.0.kind (before n) e (naming fields n (drop (suc i) es)) old.0 new.0 (h.each n field.0 old.0 field.1 old.1) told in
        none more.1.0 (field.0, field.1, old.1 ∙ ap Some more.0, more.1.1)

    pub no_put : (fault : RowFault) → NoPut fields cells e n fault → NoRow fields es fault
    no_put UnknownField p = absurd p
    no_put BadCell p = no_more p
    no_put NoMemory p = tt

  -- a fault of a row whose entries all name fields
  pub row_fault : {V : Type 0} (P : V → Type 0) (es : List CellEntry) (numbers : List ℕ) → map (field_at fields) es ≡ map Some numbers → (answer : Result V RowFault) → MatchResult answer P (NoRow fields es) → MatchResult answer P (IsRowFault fields es)
  row_fault P es numbers e (Ok v) h = h
  row_fault P es numbers e (Err UnknownField) h = absurd h
  row_fault P es numbers e (Err BadCell) h = (none_any (field_at fields) es numbers e, h)
  row_fault P es numbers e (Err NoMemory) h = tt
