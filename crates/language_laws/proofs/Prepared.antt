-- How many classes are prepared.
use Rattle.std.proofs.Common.{◌≡◌, ℕ, zero, suc, ◌+◌, ◌<◌, ◌≤◌, Bool, true, false, cond, List, [], ◌∷◌, ◌++◌, nat_eq, Option, None, Some, refl, sym, ap, ◌∙◌, subst, true≢false, arith, ⊎_elim}
use Rattle.std.proofs.lemmas.Bool.Decides.{eqb_tells}
use Rattle.std.specs.Map.{lookup}
use Rattle.std.specs.Option.{is_some}
use Rattle.std.specs.Prelude.{replicate, slice_set}
use Rattle.apex_num.specs.declared.cell.Cell.TheVariants.{Null}
use Rattle.txn_heap.specs.declared.thing.Value.{Value}
use Rattle.txn_heap.specs.declared.thing.Value.TheVariants.{Plain}
use Rattle.txn_heap.specs.Statics.{is_prepared, prepare, with_static}
use Rattle.typed_program.specs.declared.program.Program.{Program}
use Rattle.apex_meaning.specs.Preparing.{marked}

abbrev pub Statics : Type 0
Statics = List (ℕ × List Value)

-- those below n
abbrev pub prepared_below : ℕ → Statics → ℕ
prepared_below zero statics = 0
prepared_below (suc n) statics = cond (is_prepared n statics) 1 0 + prepared_below n statics

-- what is prepared stays so
pub record Stay (a b : Statics) : Type 0 where
  pub each : (c : ℕ) → is_prepared c a ≡ true → is_prepared c b ≡ true

pub stay_same : (a : Statics) → Stay a a
stay_same a = record { each = λ c h. h }

pub stay_on : (a b c : Statics) → Stay a b → Stay b c → Stay a c
stay_on a b c h k = record { each = λ x e. k.each x (h.each x e) }

count_more : (p q : Bool) (m n : ℕ) → (p ≡ true → q ≡ true) → m ≤ n → cond p 1 0 + m ≤ cond q 1 0 + n
count_more true true m n h le = omega arith
count_more true false m n h le = absurd (true≢false (sym (h refl)))
count_more false true m n h le = omega arith
count_more false false m n h le = omega arith

pub more_prepared : (n : ℕ) (a b : Statics) → Stay a b → prepared_below n a ≤ prepared_below n b
more_prepared zero a b h = omega arith
more_prepared (suc n) a b h = count_more (is_prepared n a) (is_prepared n b) _ _ (h.each n) (more_prepared n a b h)

count_one : (p q : Bool) (m n : ℕ) → p ≡ false → q ≡ true → m ≤ n → 1 + (cond p 1 0 + m) ≤ cond q 1 0 + n
count_one true q m n h k le = absurd (true≢false h)
count_one false true m n h k le = omega arith
count_one false false m n h k le = absurd (true≢false (sym k))

count_rest : (p q : Bool) (m n : ℕ) → (p ≡ true → q ≡ true) → 1 + m ≤ n → 1 + (cond p 1 0 + m) ≤ cond q 1 0 + n
count_rest true true m n h le = omega arith
count_rest true false m n h le = absurd (true≢false (sym (h refl)))
count_rest false true m n h le = omega arith
count_rest false false m n h le = omega arith

-- and one that wasn't counts
pub one_more_prepared : (n c : ℕ) (a b : Statics) → c < n → is_prepared c a ≡ false → is_prepared c b ≡ true → Stay a b → 1 + prepared_below n a ≤ prepared_below n b
one_more_prepared zero c a b lt not now h = absurd (omega arith)
one_more_prepared (suc n) c a b lt not now h =
    ⊎_elim
    (λ e. count_one (is_prepared n a) (is_prepared n b) _ _ (subst (λ x. is_prepared x a ≡ false) e.1 not) (subst (λ x. is_prepared x b ≡ true) e.1 now) (more_prepared n a b h))
    (λ e. let below : c < n = let d = e.1 in omega arith in count_rest (is_prepared n a) (is_prepared n b) _ _ (h.each n) (one_more_prepared n c a b below not now h))
    (eqb_tells c n)

at_most : (p : Bool) (m n : ℕ) → m ≤ n → cond p 1 0 + m ≤ suc n
at_most true m n le = omega arith
at_most false m n le = omega arith

pub prepared_at_most : (n : ℕ) (a : Statics) → prepared_below n a ≤ n
prepared_at_most zero a = omega arith
prepared_at_most (suc n) a = at_most (is_prepared n a) _ n (prepared_at_most n a)

-- ---- a static is written

written : (b d : Bool) (e : ℕ × List Value) (vs : List Value) (o r : Option (List Value)) → (is_some o ≡ true → is_some r ≡ true) →
    is_some (cond d (Some e.1) o) ≡ true → is_some (cond b (cond d (Some vs) o) (cond d (Some e.1) r)) ≡ true
written true true e vs o r h k = refl
written true false e vs o r h k = k
written false true e vs o r h k = refl
written false false e vs o r h k = h k

pub stay_written : (c n : ℕ) (v : Value) (a : Statics) → Stay a (with_static c n v a)
stay_written c n v a = record { each = λ x. go x a }
  where
    lookups : (x : ℕ) (b : Bool) (e : ℕ × List Value) (vs : List Value) (p q : Statics) →
        lookup (nat_eq x) (cond b ((e.0, vs) ∷ p) (e ∷ q)) ≡ cond b (cond (nat_eq x e.0) (Some vs) (lookup (nat_eq x) p)) (cond (nat_eq x e.0) (Some e.1) (lookup (nat_eq x) q))
    lookups x true e vs p q = refl
    lookups x false e vs p q = refl

    go : (x : ℕ) (es : Statics) → is_prepared x es ≡ true → is_prepared x (with_static c n v es) ≡ true
    go x [] h = h
    go x (e ∷ es) h =
        ap is_some (lookups x (nat_eq c e.0) e (slice_set e.1 n v) es (with_static c n v es)) ∙
        written (nat_eq c e.0) (nat_eq x e.0) e (slice_set e.1 n v) (lookup (nat_eq x) es) (lookup (nat_eq x) (with_static c n v es)) (go x es) h

-- ---- classes are prepared

found_before : (test : ℕ → Bool) (a b : Statics) → is_some (lookup test a) ≡ true → is_some (lookup test (a ++ b)) ≡ true
found_before test [] b h = absurd (true≢false (sym h))
found_before test (e ∷ es) b h = go (test e.0) (found_before test es b) h
  where
    go : (d : Bool) → (is_some (lookup test es) ≡ true → is_some (lookup test (es ++ b)) ≡ true) → is_some (cond d (Some e.1) (lookup test es)) ≡ true → is_some (cond d (Some e.1) (lookup test (es ++ b))) ≡ true
    go true k h = refl
    go false k h = k h

found_last : (test : ℕ → Bool) (a : Statics) (c : ℕ) (vs : List Value) → test c ≡ true → is_some (lookup test (a ++ (c, vs) ∷ [])) ≡ true
found_last test [] c vs h = ap (λ d. is_some (cond {A = Option (List Value)} d (Some vs) None)) h
found_last test (e ∷ es) c vs h = go (test e.0) (found_last test es c vs h)
  where
    go : (d : Bool) → is_some (lookup test (es ++ (c, vs) ∷ [])) ≡ true → is_some (cond d (Some e.1) (lookup test (es ++ (c, vs) ∷ []))) ≡ true
    go true k = refl
    go false k = k

stay_if : (b : Bool) (c : ℕ) (vs : List Value) (a : Statics) → Stay a (cond b a (a ++ (c, vs) ∷ []))
stay_if true c vs a = stay_same a
stay_if false c vs a = record { each = λ x h. found_before (nat_eq x) a _ h }

pub stay_prepared : (c count : ℕ) (a : Statics) → Stay a (prepare c count a)
stay_prepared c count a = stay_if (is_prepared c a) c (replicate count (Plain Null)) a

is_itself : (c : ℕ) → nat_eq c c ≡ true
is_itself c = ⊎_elim (λ e. e.0) (λ e. absurd (e.1 refl)) (eqb_tells c c)

now_if : (c : ℕ) (b : Bool) (vs : List Value) (a : Statics) → is_prepared c a ≡ b → is_prepared c (cond b a (a ++ (c, vs) ∷ [])) ≡ true
now_if c true vs a e = e
now_if c false vs a e = found_last (nat_eq c) a c vs (is_itself c)

pub now_prepared : (c count : ℕ) (a : Statics) → is_prepared c (prepare c count a) ≡ true
now_prepared c count a = now_if c (is_prepared c a) (replicate count (Plain Null)) a refl

pub stay_marked : (program : Program) (cs : List ℕ) (a : Statics) → Stay a (marked program cs a)
stay_marked program [] a = stay_same a
stay_marked program (c ∷ cs) a = stay_on _ _ _ (stay_prepared c _ a) (stay_marked program cs _)

pub now_marked : (program : Program) (c : ℕ) (before : List ℕ) (a : Statics) → is_prepared c (marked program (before ++ c ∷ []) a) ≡ true
now_marked program c [] a = now_prepared c _ a
now_marked program c (x ∷ xs) a = now_marked program c xs _
