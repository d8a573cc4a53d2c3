-- Rows as they are written, and what is asked of their cells.
use Rattle.std.proofs.Common.{arith, ◌≡◌, ◌<◌, ◌≤◌, ◌+◌, ◌||◌, ◌&&◌, ◌⊎◌, inl, inr, ltb, ℕ, zero, suc, Bool, true, false, Option, None, Some, List, [], ◌∷◌, ◌++◌, length, take, get_or, codes, bytes_eq, refl, sym, ap, ap₂, ◌∙◌, subst}
use Rattle.std.specs.Bool.{Decides, one_answer}
use Rattle.std.proofs.lemmas.Bool.{ltb-true, ltb-false, lt-ltb}
use Rattle.std.proofs.lemmas.List.Folds.{list_any-append}
use Rattle.std.proofs.Math.Bool.{or-false}
use Rattle.std.proofs.lemmas.Slice.Eq.{bytes_eq-Decides}
use Rattle.apex_num.specs.declared.cell.Cell.{Cell}
use Rattle.apex_num.specs.declared.cell.Cell.TheVariants as Cells
use Rattle.apex_num.specs.Ids.{IsId, long_id}
use Rattle.apex_text.specs.Fold.{folded}
use Rattle.apex_schema.specs.declared.schema.FieldKind.TheVariants as Kind
use Rattle.row_meaning.specs.Rules.{reads_as}
use Rattle.bundle_read.specs.declared.entries.CellEntry.{CellEntry}
use Rattle.bundle_read.specs.declared.entries.CellValue.{CellValue}
use Rattle.bundle_read.specs.declared.entries.CellValue.TheVariants as Written
use Rattle.row_cells.specs.Cells.{Only, IsCell, IsIdCell}
use Rattle.seed_rows.specs.Keys.{id_cell, is_it, IsGiven}
use Rattle.std.specs.List.{list_any}
use Rattle.std.proofs.lemmas.List.{take_more, append_assoc, append-nil}
use Rattle.apex_schema.specs.declared.schema.Field.{Field}
use Rattle.row_meaning.specs.Users.{user_id}
use Rattle.bundle_read.specs.declared.entries.SeedEntry.{SeedEntry}
use Rattle.record_ids.specs.Ids.{most, IsUserNumber}
use Rattle.row_cells.specs.Rows.{Known}
use Rattle.seed_rows.specs.Written.{entry_rows, names_id, written}
use Rattle.seed_rows.specs.Words.{Test, passes, any_field, is_user}

-- ---- entries

written_more : (names : List (List ℕ)) (es : List SeedEntry) (e : SeedEntry) → written names (es ++ e ∷ []) ≡ written names es ++ entry_rows names e
written_more names [] e = append-nil (entry_rows names e)
written_more names (x ∷ es) e = ap (λ l. entry_rows names x ++ l) (written_more names es e) ∙ sym (append_assoc (entry_rows names x) (written names es) (entry_rows names e))

pub written_at : (names : List (List ℕ)) (es : List SeedEntry) (i : ℕ) (e : SeedEntry) → i < length es → e ≡ get_or es i e → written names (take (i + 1) es) ≡ written names (take i es) ++ entry_rows names e
written_at names es i e lt is = ap (written names) (take_more es i e lt ∙ ap (λ x. take i es ++ x ∷ []) (sym is)) ∙ written_more names (take i es) e

-- ---- fields

any_here : (test : Test) (fs : List Field) (ks : Known) (i : ℕ) (d : Field) → length ks ≡ length fs → i < length fs → passes test (get_or fs i d) (get_or ks i None) ≡ true → any_field test fs ks ≡ true
any_here test [] ks i d l lt p = absurd (omega arith)
any_here test (f ∷ fs) [] i d l lt p = absurd (cc)
any_here test (f ∷ fs) (k ∷ ks) zero d l lt p = ap (λ b. b || any_field test fs ks) p
any_here test (f ∷ fs) (k ∷ ks) (suc i) d l lt p = later (passes test f k) (any_here test fs ks i d (cc) (omega arith) p) where
  later : (b : Bool) → any_field test fs ks ≡ true → (b || any_field test fs ks) ≡ true
  later true h = refl
  later false h = h

-- a place that is there has no need of what stands for one that isn't
get_or_any : {A : Type 0} (xs : List A) (i : ℕ) (d e : A) → i < length xs → get_or xs i d ≡ get_or xs i e
get_or_any [] i d e lt = absurd (omega arith)
get_or_any (x ∷ xs) zero d e lt = refl
get_or_any (x ∷ xs) (suc i) d e lt = get_or_any xs i d e (omega arith)

any_suc : (test : Test) (fs : List Field) (ks : Known) (i : ℕ) (d : Field) → length ks ≡ length fs → i < length fs → any_field test (take i fs) (take i ks) ≡ false → passes test (get_or fs i d) (get_or ks i None) ≡ false → any_field test (take (suc i) fs) (take (suc i) ks) ≡ false
any_suc test [] ks i d l lt h p = absurd (omega arith)
any_suc test (f ∷ fs) [] i d l lt h p = absurd (cc)
any_suc test (f ∷ fs) (k ∷ ks) zero d l lt h p = ap (λ b. b || false) p
any_suc test (f ∷ fs) (k ∷ ks) (suc i) d l lt h p = both (passes test f k) h (λ e. any_suc test fs ks i d (cc) (omega arith) e p) where
  both : (b : Bool) → (b || any_field test (take i fs) (take i ks)) ≡ false → (any_field test (take i fs) (take i ks) ≡ false → any_field test (take (suc i) fs) (take (suc i) ks) ≡ false) →
      (b || any_field test (take (suc i) fs) (take (suc i) ks)) ≡ false
  both true e rest = e
  both false e rest = rest e

pub any_more : (test : Test) (fs : List Field) (ks : Known) (i : ℕ) (f : Field) (k : Option Cell) → length ks ≡ length fs → i < length fs → f ≡ get_or fs i f → k ≡ get_or ks i k → any_field test (take i fs) (take i ks) ≡ false → passes test f k ≡ false → any_field test (take (i + 1) fs) (take (i + 1) ks) ≡ false
any_more test fs ks i f k l lt ef ek h p =
    let next : suc i ≡ i + 1 = omega arith in
    let none : get_or ks i None ≡ k = get_or_any ks i None k (subst (λ n. i < n) (sym l) lt) ∙ sym ek in
    subst (λ n. any_field test (take n fs) (take n ks) ≡ false) next (any_suc test fs ks i f l lt h (ap₂ (passes test) (sym ef) none ∙ p))

pub any_at : (test : Test) (fs : List Field) (ks : Known) (i : ℕ) (f : Field) (k : Option Cell) → length ks ≡ length fs → i < length fs → f ≡ get_or fs i f → k ≡ get_or ks i k → passes test f k ≡ true → any_field test fs ks ≡ true
any_at test fs ks i f k l lt ef ek p =
    let none : get_or ks i None ≡ k = get_or_any ks i None k (subst (λ n. i < n) (sym l) lt) ∙ sym ek in
    any_here test fs ks i f l lt (ap₂ (passes test) (sym ef) none ∙ p)

-- ---- tests

or_true : (b c : Bool) → (b || c) ≡ true → (b ≡ true) ⊎ (c ≡ true)
or_true true c h = inl refl
or_true false c h = inr h

left_true : (b c : Bool) → b ≡ true → (b || c) ≡ true
left_true b c h = ap (λ x. x || c) h

right_true : (b c : Bool) → c ≡ true → (b || c) ≡ true
right_true true c h = refl
right_true false c h = h

is_false : (b : Bool) → (b ≡ true → ⊥) → b ≡ false
is_false true h = absurd (h refl)
is_false false h = refl

merged : (a o l g : Bool) → ((a || (o && l)) || (o && g)) ≡ (a || (o && (l || g)))
merged true o l g = refl
merged false true l g = refl
merged false false l g = refl

any_entry : (p : CellEntry → Bool) (es : List CellEntry) (i : ℕ) (e : CellEntry) → i < length es → e ≡ get_or es i e → list_any p (take (i + 1) es) ≡ (list_any p (take i es) || p e)
any_entry p es i e lt is = ap (list_any p) (take_more es i e lt ∙ ap (λ x. take i es ++ x ∷ []) (sym is)) ∙ list_any-append p (take i es) (e ∷ []) ∙ ap (λ b. list_any p (take i es) || b) (or-false (p e))

pub entry_more : (p : CellEntry → Bool) (es : List CellEntry) (i : ℕ) (e : CellEntry) → i < length es → e ≡ get_or es i e → (o old so_far new : Bool) → so_far ≡ (old || (o && list_any p (take i es))) → new ≡ (so_far || (o && p e)) → new ≡ (old || (o && list_any p (take (i + 1) es)))
entry_more p es i e lt is o old so_far new h k =
    k ∙ ap (λ b. b || (o && p e)) h ∙ merged old o (list_any p (take i es)) (p e) ∙ ap (λ b. old || (o && b)) (sym (any_entry p es i e lt is))

-- ---- users

same_or_less : (u n : ℕ) → u < suc n → (u ≡ n) ⊎ (u < n)
same_or_less u n lt = by (ltb u n) refl where
  by : (b : Bool) → ltb u n ≡ b → (u ≡ n) ⊎ (u < n)
  by true e = inr (ltb-true u n e)
  by false e = let le = ltb-false u n e in inl (omega arith)

user_decides : (users : ℕ) (id : List ℕ) → Decides (is_user users id) ((u : ℕ) × (u < users) × (id ≡ user_id u))
user_decides zero id = (λ h. absurd (cc), λ (u, lt, e). absurd (omega arith))
user_decides (suc n) id = both (user_decides n id) where
  here : Decides (bytes_eq id (user_id n)) (id ≡ user_id n)
  here = bytes_eq-Decides id (user_id n)

  both : Decides (is_user n id) ((u : ℕ) × (u < n) × (id ≡ user_id u)) → Decides (is_user (suc n) id) ((u : ℕ) × (u < suc n) × (id ≡ user_id u))
  both below = (λ h. there (or_true (bytes_eq id (user_id n)) (is_user n id) h), λ (u, lt, e). at u (same_or_less u n lt) e) where
    there : (bytes_eq id (user_id n) ≡ true) ⊎ (is_user n id ≡ true) → (u : ℕ) × (u < suc n) × (id ≡ user_id u)
    there (inl h) = (n, omega arith, here.0 h)
    there (inr h) = let (u, lt, e) = below.0 h in (u, omega arith, e)

    at : (u : ℕ) → (u ≡ n) ⊎ (u < n) → id ≡ user_id u → is_user (suc n) id ≡ true
    at u (inl s) e = left_true (bytes_eq id (user_id n)) (is_user n id) (here.1 (e ∙ ap user_id s))
    at u (inr l) e = right_true (bytes_eq id (user_id n)) (is_user n id) (below.1 (u, l, e))

pub user_some : (users : ℕ) (id : List ℕ) (number : ℕ) → users ≤ 1000000 → IsUserNumber id (Some number) → ltb number users ≡ is_user users id
user_some users id number few (is, small, only) = one_answer (ltb number users) (is_user users id) (
  λ h. (number, ltb-true number users h, is),
  λ (u, lt, e). lt-ltb number users (subst (λ m. m < users) (only u (small_enough u lt) e) lt),
) (user_decides users id) where
  small_enough : (u : ℕ) → u < users → suc u < most
  small_enough u lt = omega arith

pub user_none : (users : ℕ) (id : List ℕ) → users ≤ 1000000 → IsUserNumber id None → false ≡ is_user users id
user_none users id few none = sym (is_false (is_user users id) (λ h. let (u, lt, e) = (user_decides users id).0 h in none u (omega arith) e))

-- ---- Ids

reads_decides : (text id : List ℕ) → Decides (reads_as text id) ((text ≡ id) ⊎ (text ≡ long_id id))
reads_decides text id = (
  λ h. either (or_true (bytes_eq text id) (bytes_eq text (long_id id)) h),
  λ s. back s,
) where
  either : (bytes_eq text id ≡ true) ⊎ (bytes_eq text (long_id id) ≡ true) → (text ≡ id) ⊎ (text ≡ long_id id)
  either (inl h) = inl ((bytes_eq-Decides text id).0 h)
  either (inr h) = inr ((bytes_eq-Decides text (long_id id)).0 h)

  back : (text ≡ id) ⊎ (text ≡ long_id id) → reads_as text id ≡ true
  back (inl e) = left_true (bytes_eq text id) (bytes_eq text (long_id id)) ((bytes_eq-Decides text id).1 e)
  back (inr e) = right_true (bytes_eq text id) (bytes_eq text (long_id id)) ((bytes_eq-Decides text (long_id id)).1 e)

id_text : (text : List ℕ) (o : Option Cell) → Only (IsIdCell (Written.Text text)) o → (id : List ℕ) → IsId id → reads_as text id ≡ is_it id (id_cell o)
id_text text None none id is = is_false (reads_as text id) (λ h. none (Cells.Id id) (id, (is, (reads_decides text id).0 h), refl))
id_text text (Some c) ((i, names, e), only) id is = subst (λ x. reads_as text id ≡ is_it id (id_cell (Some x))) (sym e) (one_answer (reads_as text id) (bytes_eq i id) (
  λ h. same (only (Cells.Id id) (id, (is, (reads_decides text id).0 h), refl) ∙ e),
  λ s. (reads_decides text id).1 (subst (λ x. (text ≡ x) ⊎ (text ≡ long_id x)) s names.1),
) (bytes_eq-Decides i id)) where
  same : Cells.Id id ≡ Cells.Id i → i ≡ id
  same h = cc

id_value : (v : CellValue) (o : Option Cell) → Only (IsCell Kind.Id v) o → (id : List ℕ) → IsId id → names_id id v ≡ is_it id (id_cell o)
id_value (Written.Text text) o h id is = id_text text o h id is
id_value Written.Null None h id is = refl
id_value Written.Null (Some c) (e, only) id is = sym (ap (λ x. is_it id (id_cell (Some x))) e)
id_value (Written.Truth b) None h id is = refl
id_value (Written.Truth b) (Some c) h id is = absurd h.0
id_value (Written.Whole n) None h id is = refl
id_value (Written.Whole n) (Some c) h id is = absurd h.0
id_value Written.Float None h id is = refl
id_value Written.Float (Some c) h id is = absurd h.0
id_value Written.Nested None h id is = refl
id_value Written.Nested (Some c) h id is = absurd h.0

pub given : (e : CellEntry) (o : Option Cell) → folded e.name ≡ codes "id" → Only (IsCell Kind.Id e.value) o → IsGiven e (id_cell o)
given e o name h id is = ap (λ b. b && names_id id e.value) ((bytes_eq-Decides (folded e.name) (codes "id")).1 name) ∙ id_value e.value o h id is

pub not_given : (e : CellEntry) → (folded e.name ≡ codes "id" → ⊥) → IsGiven e None
not_given e other id is = ap (λ b. b && names_id id e.value) (is_false (bytes_eq (folded e.name) (codes "id")) (λ h. other ((bytes_eq-Decides (folded e.name) (codes "id")).0 h)))
