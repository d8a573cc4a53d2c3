-- One charge or leave more.
use Rattle.std.proofs.Common.{◌≡◌, ℕ, ◌+◌, ◌-◌, ◌<◌, ◌≤◌, Bool, true, false, cond, List, [], ◌∷◌, length, get_or, refl, sym, ap, ◌∙◌, subst, zero-add, arith, ⊎_elim, get_or-set_same, get_or-set_other}
use Rattle.std.proofs.lemmas.Bool.Decides.{eqb_tells}
use Rattle.apex_num.specs.declared.kind.LimitKind.{LimitKind}
use Rattle.apex_num.specs.declared.kind.LimitKind.TheVariants.{Queries, Rows, Dml, Saved, Depth, Steps, Alloc, Calls}
use Rattle.limit_meter.specs.Charges.{place_of, is_kind, Entry, Charged, Left, charged, leaves, counter, count_of, with_count, Counts}

below_eight : (k : LimitKind) → place_of k < 8
below_eight Queries = omega arith
below_eight Rows = omega arith
below_eight Dml = omega arith
below_eight Saved = omega arith
below_eight Depth = omega arith
below_eight Steps = omega arith
below_eight Alloc = omega arith
below_eight Calls = omega arith

-- two kinds are one, or the counter of the one stays when the other's is set
record Told (m : List ℕ) (j k : LimitKind) (n : ℕ) (b : Bool) : Type 0 where
  is : is_kind j k ≡ b
  old : b ≡ true → count_of m j ≡ count_of m k
  new : count_of (with_count m k n) j ≡ cond b n (count_of m j)

told : (m : List ℕ) (j k : LimitKind) (n : ℕ) → length m ≡ 8 → (b : Bool) × Told m j k n b
told m j k n len =
    ⊎_elim
    (λ e. let lt : place_of k < length m = let b = below_eight k in omega arith in (
      true,
      record {
        is = e.0;
        old = λ _. ap (λ i. get_or m i 0) e.1;
        new = ap (λ i. count_of (with_count m k n) j) e.1 ∙ ap (λ i. get_or (with_count m k n) i 0) e.1 ∙ get_or-set_same m (place_of k) n 0 lt;
      },
    ))
    (λ e. (
      false,
      record {
        is = e.0;
        old = λ q. cc;
        new = get_or-set_other m (place_of k) (place_of j) n 0 e.1;
      },
    ))
    (eqb_tells (place_of j) (place_of k))

pub counts_charge : (es : List Entry) (m : List ℕ) (k : LimitKind) (n : ℕ) → length m ≡ 8 → Counts es m → Counts (Charged k n ∷ es) (with_count m k (count_of m k + n))
counts_charge es m k n len h = record { each = each; sound = λ j. let s = h.sound j in omega arith }
  where
    case : (j : LimitKind) (b : Bool) → Told m j k (count_of m k + n) b → count_of (with_count m k (count_of m k + n)) j ≡ counter j (Charged k n ∷ es)
    case j true t =
        let s = h.sound j in let o = t.old refl in let e = h.each j in let w = t.new in
        let c : cond (is_kind j k) n 0 ≡ n = ap (λ b. cond b n 0) t.is in
        omega arith
    case j false t =
        let e = h.each j in let w = t.new in
        let c : cond (is_kind j k) n 0 ≡ 0 = ap (λ b. cond b n 0) t.is in
        omega arith

    each : (j : LimitKind) → count_of (with_count m k (count_of m k + n)) j ≡ counter j (Charged k n ∷ es)
    each j = let t = told m j k (count_of m k + n) len in case j t.0 t.1

pub counts_leave : (es : List Entry) (m : List ℕ) (k : LimitKind) → length m ≡ 8 → 0 < count_of m k → Counts es m → Counts (Left k ∷ es) (with_count m k (count_of m k - 1))
counts_leave es m k len above h = record { each = λ j. let t = told m j k (count_of m k - 1) len in case j t.0 t.1; sound = λ j. let t = told m j k 0 len in fine j t.0 t.1 }
  where
    case : (j : LimitKind) (b : Bool) → Told m j k (count_of m k - 1) b → count_of (with_count m k (count_of m k - 1)) j ≡ counter j (Left k ∷ es)
    case j true t =
        let s = h.sound j in let o : count_of m j ≡ count_of m k = t.old refl in let e = h.each j in let w : count_of (with_count m k (count_of m k - 1)) j ≡ count_of m k - 1 = t.new in
        let c : cond (is_kind j k) 1 0 ≡ 1 = ap (λ b. cond b 1 0) t.is in
        let f : leaves j (Left k ∷ es) ≡ 1 + leaves j es = ap (λ x. x + leaves j es) c in
        w ∙ omega (arith, o, e, s, f)
    case j false t =
        let c : cond (is_kind j k) 1 0 ≡ 0 = ap (λ b. cond b 1 0) t.is in
        let f : leaves j (Left k ∷ es) ≡ 0 + leaves j es = ap (λ x. x + leaves j es) c in
        let z : leaves j (Left k ∷ es) ≡ leaves j es = f ∙ zero-add (leaves j es) in
        t.new ∙ h.each j ∙ ap (λ x. charged j es - x) (sym z)

    fine : (j : LimitKind) (b : Bool) → Told m j k 0 b → leaves j (Left k ∷ es) ≤ charged j (Left k ∷ es)
    fine j true t =
        let s = h.sound j in let o = t.old refl in let e = h.each j in
        let c : cond (is_kind j k) 1 0 ≡ 1 = ap (λ b. cond b 1 0) t.is in
        let f : leaves j (Left k ∷ es) ≡ 1 + leaves j es = ap (λ x. x + leaves j es) c in
        let u : 1 + leaves j es ≤ charged j es = omega (arith, o, e, s) in
        subst (λ x. x ≤ charged j es) (sym f) u
    fine j false t =
        let c : cond (is_kind j k) 1 0 ≡ 0 = ap (λ b. cond b 1 0) t.is in
        let z : leaves j (Left k ∷ es) ≡ leaves j es = ap (λ x. x + leaves j es) c ∙ zero-add (leaves j es) in
        subst (λ x. x ≤ charged j es) (sym z) (h.sound j)

pub counts_none : Counts [] (0 ∷ 0 ∷ 0 ∷ 0 ∷ 0 ∷ 0 ∷ 0 ∷ 0 ∷ [])
counts_none = record { each = none; sound = λ k. omega arith }
  where
    none : (k : LimitKind) → count_of (0 ∷ 0 ∷ 0 ∷ 0 ∷ 0 ∷ 0 ∷ 0 ∷ 0 ∷ []) k ≡ counter k []
    none Queries = refl
    none Rows = refl
    none Dml = refl
    none Saved = refl
    none Depth = refl
    none Steps = refl
    none Alloc = refl
    none Calls = refl
