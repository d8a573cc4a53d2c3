-- What is left to charge, behind what changes it.
use Rattle.std.proofs.Common.{◌≡◌, ◌≢◌, ℕ, zero, suc, ◌+◌, ◌*◌, ◌<◌, ◌≤◌, Bool, true, false, cond, List, [], ◌∷◌, ◌++◌, length, get_or, Option, Some, None, ◌⊎◌, inl, inr, refl, sym, ap, ◌∙◌, subst, arith, le_refl, ⊎_elim, length-set, get_or-set_same, get_or-set_other}
use Rattle.std.proofs.lemmas.Bool.Decides.{eqb_tells}
use Rattle.std.proofs.lemmas.List.{reverse-append}
use Rattle.std.proofs.lemmas.Nat.{mul-le}
use Rattle.std.specs.Option.{is_some}
use Rattle.std.specs.Prelude.{eqb, nat_eq, replicate, reverse, slice_set}
use Rattle.std.proofs.lemmas.Bool.{eq-eqb}
use Rattle.apex_num.specs.declared.kind.LimitKind.{LimitKind}
use Rattle.apex_num.specs.declared.kind.LimitKind.TheVariants.{Queries, Rows, Dml, Saved, Depth, Steps, Alloc, Calls}
use Rattle.limit_meter.specs.Charges.{count_of, limit_of, place_of, with_count}
use Rattle.save_measures.specs.Paid.{IsPaid}
use Rattle.txn_heap.specs.Statics.{is_prepared, of_class, prepare, with_static}
use Rattle.txn_heap.specs.declared.thing.Value.{Value}
use Rattle.txn_heap.specs.declared.thing.Value.TheVariants.{Plain}
use Rattle.apex_num.specs.declared.cell.Cell.TheVariants.{Null}
use Rattle.stack_code.specs.Calls.{marked, statics_or}
use Rattle.stack_code.specs.Machine.{class_code}
use Rattle.stack_code.specs.declared.image.Image.{Image}
use Rattle.stack_code.specs.declared.state.World.{World}
use Rattle.program_weights.specs.Weights.{left, missing, unready}

-- ---- sums

-- less is left and less is on its way, or what is left pays for what is on its way
pub pays : (j l m r a b : ℕ) → l + j ≤ m → a < b + j * r → l * r + a < m * r + b
pays j l m r a b h g =
    let p = mul-le (l + j) r m r h (le_refl r) in
    let q : (l + j) * r ≡ l * r + j * r = omega arith in omega arith

-- ---- counters

-- the counter of a kind behind a charge of one
pub grows : (m : List ℕ) (k j : LimitKind) (n : ℕ) → place_of k < length m → count_of m j ≤ count_of (with_count m k (count_of m k + n)) j
grows m k j n lt = ⊎_elim same other (eqb_tells (place_of j) (place_of k))
  where
    same : (eqb (place_of j) (place_of k) ≡ true) × (place_of j ≡ place_of k) → count_of m j ≤ count_of (with_count m k (count_of m k + n)) j
    same e =
        let s : count_of (with_count m k (count_of m k + n)) j ≡ count_of m k + n = ap (λ i. get_or (with_count m k (count_of m k + n)) i 0) e.1 ∙ get_or-set_same m (place_of k) _ 0 lt in
        let o : count_of m j ≡ count_of m k = ap (λ i. get_or m i 0) e.1 in omega arith

    other : (eqb (place_of j) (place_of k) ≡ false) × (place_of j ≢ place_of k) → count_of m j ≤ count_of (with_count m k (count_of m k + n)) j
    other e = let s = get_or-set_other m (place_of k) (place_of j) (count_of m k + n) 0 e.1 in omega arith

pub counted : (m : List ℕ) (k : LimitKind) (n : ℕ) → place_of k < length m → count_of (with_count m k n) k ≡ n
counted m k n lt = get_or-set_same m (place_of k) n 0 lt

pub place_small : (k : LimitKind) → place_of k < 8
place_small Queries = omega arith
place_small Rows = omega arith
place_small Dml = omega arith
place_small Saved = omega arith
place_small Depth = omega arith
place_small Steps = omega arith
place_small Alloc = omega arith
place_small Calls = omega arith

-- neither steps nor units
pub record Leavable (k : LimitKind) : Type 0 where
  pub no_steps : place_of Steps ≢ place_of k
  pub no_units : place_of Alloc ≢ place_of k

pub leaves_calls : Leavable Calls
leaves_calls = record { no_steps = omega arith; no_units = omega arith }

pub leaves_depth : Leavable Depth
leaves_depth = record { no_steps = omega arith; no_units = omega arith }

-- with another counter of such a kind
pub counter_other : (k : LimitKind) → Leavable k → (m : List ℕ) (n : ℕ) → (count_of (with_count m k n) Steps ≡ count_of m Steps) × (count_of (with_count m k n) Alloc ≡ count_of m Alloc)
counter_other k l m n = (get_or-set_other m (place_of k) (place_of Steps) n 0 l.no_steps, get_or-set_other m (place_of k) (place_of Alloc) n 0 l.no_units)

-- ---- worlds that charge

abbrev pub charging : LimitKind → ℕ → World → World
charging k n w = record w { txn = record (w.txn) { meter = with_count w.txn.meter k (count_of w.txn.meter k + n) } }

abbrev pub with_counter : LimitKind → ℕ → World → World
with_counter k n w = record w { txn = record (w.txn) { meter = with_count w.txn.meter k n } }

pub charged_paid : (k : LimitKind) (n : ℕ) (w : World) → IsPaid w.txn → IsPaid (charging k n w).txn
charged_paid k n w p =
    let e = p.eight in
    let m = p.minted in
    let s = place_small k in
    let lt : place_of k < length w.txn.meter = omega arith in
    let g = grows w.txn.meter k Alloc n lt in record { eight = length-set w.txn.meter _ _ ∙ e; minted = omega arith }

pub charged_left : (image : Image) (k : LimitKind) (n : ℕ) (w : World) → IsPaid w.txn → left image (charging k n w) ≤ left image w
charged_left image k n w p =
    let e = p.eight in
    let s = place_small k in
    let lt : place_of k < length w.txn.meter = omega arith in
    let g = grows w.txn.meter k Alloc n lt in
    let h = grows w.txn.meter k Steps n lt in omega arith

-- a step that is charged leaves one less, an instance its units
pub step_left : (image : Image) (w : World) → IsPaid w.txn → count_of w.txn.meter Steps + 1 ≤ limit_of Steps → left image (charging Steps 1 w) + 1 ≤ left image w
step_left image w p fits =
    let e = p.eight in
    let lt : place_of Steps < length w.txn.meter = omega arith in
    let g = grows w.txn.meter Steps Alloc 1 lt in
    let h = counted w.txn.meter Steps (count_of w.txn.meter Steps + 1) lt in omega arith

pub alloc_left : (image : Image) (n : ℕ) (w : World) → IsPaid w.txn → count_of w.txn.meter Alloc + n ≤ limit_of Alloc → left image (charging Alloc n w) + n ≤ left image w
alloc_left image n w p fits =
    let e = p.eight in
    let lt : place_of Alloc < length w.txn.meter = omega arith in
    let g = grows w.txn.meter Alloc Steps n lt in
    let h = counted w.txn.meter Alloc (count_of w.txn.meter Alloc + n) lt in omega arith

pub counter_paid : (k : LimitKind) → Leavable k → (n : ℕ) (w : World) → IsPaid w.txn → IsPaid (with_counter k n w).txn
counter_paid k l n w p =
    let m = p.minted in
    let o = counter_other k l w.txn.meter n in record { eight = length-set w.txn.meter _ _ ∙ p.eight; minted = omega arith }

pub counter_left : (image : Image) (k : LimitKind) → Leavable k → (n : ℕ) (w : World) → left image (with_counter k n w) ≡ left image w
counter_left image k l n w = let o = counter_other k l w.txn.meter n in omega arith

-- ---- classes that are prepared

abbrev Table : Type 0
Table = List (ℕ × List Value)

-- ---- what is found among more

same_found : {A : Type 0} (b : Bool) (x y : A) (o : Option A) → is_some (cond b (Some x) o) ≡ is_some (cond b (Some y) o)
same_found true x y o = refl
same_found false x y o = refl

same_later : {A : Type 0} (b : Bool) (x : A) (o p : Option A) → is_some o ≡ is_some p → is_some (cond b (Some x) o) ≡ is_some (cond b (Some x) p)
same_later true x o p h = refl
same_later false x o p h = h

-- a static that is set prepares nothing
with_static_prepared : (j k n : ℕ) (v : Value) (s : Table) → is_prepared j (with_static k n v s) ≡ is_prepared j s
with_static_prepared j k n v [] = refl
with_static_prepared j k n v (e ∷ es) = by_key (nat_eq k e.0) (with_static_prepared j k n v es)
  where
    by_key : (b : Bool) → is_prepared j (with_static k n v es) ≡ is_prepared j es → is_prepared j (cond b ((e.0, slice_set e.1 n v) ∷ es) (e ∷ with_static k n v es)) ≡ is_prepared j (e ∷ es)
    by_key true h = same_found (nat_eq j e.0) (slice_set e.1 n v) e.1 (of_class j es)
    by_key false h = same_later (nat_eq j e.0) e.1 (of_class j (with_static k n v es)) (of_class j es) h

found_still : {A : Type 0} (b : Bool) (x : A) (o p : Option A) → (is_some o ≡ true → is_some p ≡ true) → is_some (cond b (Some x) o) ≡ true → is_some (cond b (Some x) p) ≡ true
found_still true x o p h e = refl
found_still false x o p h e = h e

found_there : {A : Type 0} (b : Bool) (x : A) (o : Option A) → is_some o ≡ true → is_some (cond b (Some x) o) ≡ true
found_there true x o e = refl
found_there false x o e = e

more_found : (j : ℕ) (s t : Table) → is_prepared j s ≡ true → is_prepared j (s ++ t) ≡ true
more_found j [] t h = cc
more_found j (e ∷ es) t h = found_still (nat_eq j e.0) e.1 (of_class j es) (of_class j (es ++ t)) (more_found j es t) h

last_found : (j : ℕ) (s : Table) (vs : List Value) → is_prepared j (s ++ (j, vs) ∷ []) ≡ true
last_found j [] vs = ap (λ b. is_some (cond b (Some vs) None)) (eq-eqb j j refl)
last_found j (e ∷ es) vs = found_there (nat_eq j e.0) e.1 (of_class j (es ++ (j, vs) ∷ [])) (last_found j es vs)

-- what is prepared stays so
abbrev pub Further : Table → Table → Type 0
Further s t = (j : ℕ) → is_prepared j s ≡ true → is_prepared j t ≡ true

prepare_further : (k n : ℕ) (s : Table) → Further s (prepare k n s)
prepare_further k n s j h = by_key (is_prepared k s)
  where
    by_key : (b : Bool) → is_prepared j (cond b s (s ++ (k, replicate n (Plain Null)) ∷ [])) ≡ true
    by_key true = h
    by_key false = more_found j s _ h

prepare_has : (k n : ℕ) (s : Table) → is_prepared k (prepare k n s) ≡ true
prepare_has k n s = by_key (is_prepared k s) refl
  where
    by_key : (b : Bool) → is_prepared k s ≡ b → is_prepared k (cond b s (s ++ (k, replicate n (Plain Null)) ∷ [])) ≡ true
    by_key true h = h
    by_key false h = last_found k s _

-- ---- classes that aren't prepared

unready_same : (n : ℕ) (s t : Table) → ((j : ℕ) → is_prepared j s ≡ is_prepared j t) → unready n s ≡ unready n t
unready_same zero s t h = refl
unready_same (suc n) s t h =
    let a : missing (is_prepared n s) ≡ missing (is_prepared n t) = ap missing (h n) in
    let b = unready_same n s t h in omega arith

pub with_static_unready : (n k i : ℕ) (v : Value) (s : Table) → unready n (with_static k i v s) ≡ unready n s
with_static_unready n k i v s = unready_same n (with_static k i v s) s (λ j. with_static_prepared j k i v s)

one_less : (b d : Bool) → (b ≡ true → d ≡ true) → missing d ≤ missing b
one_less true d h = let e : missing d ≡ 0 = ap missing (h refl) in omega arith
one_less false true h = omega arith
one_less false false h = omega arith

pub unready_less : (n : ℕ) (s t : Table) → Further s t → unready n t ≤ unready n s
unready_less zero s t h = omega arith
unready_less (suc n) s t h =
    let a : missing (is_prepared n t) ≤ missing (is_prepared n s) = one_less (is_prepared n s) (is_prepared n t) (h n) in
    let b = unready_less n s t h in omega arith

-- one class more is prepared
pub unready_fewer : (n j : ℕ) (s t : Table) → j < n → is_prepared j s ≡ false → is_prepared j t ≡ true → Further s t → unready n t + 1 ≤ unready n s
unready_fewer zero j s t lt off on h = absurd (omega arith)
unready_fewer (suc n) j s t lt off on h = by_place (eqb_tells j n) (λ below. unready_fewer n j s t below off on h)
  where
    less : (a b : ℕ) → a < suc b → (a ≡ b → ⊥) → a < b
    less a b g e = grind arith

    by_place : ((eqb j n ≡ true) × (j ≡ n)) ⊎ ((eqb j n ≡ false) × (j ≢ n)) → (j < n → unready n t + 1 ≤ unready n s) → unready (suc n) t + 1 ≤ unready (suc n) s
    by_place (inl e) more =
        let a : missing (is_prepared n s) ≡ 1 = ap (λ x. missing (is_prepared x s)) (sym e.1) ∙ ap missing off in
        let b : missing (is_prepared n t) ≡ 0 = ap (λ x. missing (is_prepared x t)) (sym e.1) ∙ ap missing on in
        let c = unready_less n s t h in omega arith
    by_place (inr e) more =
        let a : missing (is_prepared n t) ≤ missing (is_prepared n s) = one_less (is_prepared n s) (is_prepared n t) (h n) in
        let b = more (less j n lt e.1) in omega arith

-- ---- classes that are marked

module _ (image : Image) where
  pub marked_further : (ks : List ℕ) (s : Table) → Further s (marked image ks s)
  marked_further [] s j h = h
  marked_further (k ∷ ks) s j h = marked_further ks _ j (prepare_further k (statics_or (class_code image k)) s j h)

  marked_last : (ks : List ℕ) (k : ℕ) (s : Table) → is_prepared k (marked image (ks ++ k ∷ []) s) ≡ true
  marked_last [] k s = prepare_has k (statics_or (class_code image k)) s
  marked_last (j ∷ ks) k s = marked_last ks k (prepare j (statics_or (class_code image j)) s)

  pub marked_first : (k : ℕ) (ks : List ℕ) (s : Table) → is_prepared k (marked image (reverse (k ∷ ks)) s) ≡ true
  marked_first k ks s = subst (λ xs. is_prepared k (marked image xs s) ≡ true) (sym (reverse-append (k ∷ []) ks)) (marked_last (reverse ks) k s)
