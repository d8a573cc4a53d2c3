-- How what is left of some code weighs, and how bodies weigh.
use Rattle.std.proofs.Common.{◌≡◌, ℕ, zero, suc, ◌+◌, ◌*◌, ◌≤◌, Bool, true, false, cond, List, [], ◌∷◌, length, drop, Option, Some, None, refl, ap, ◌∙◌, subst, arith, le_refl}
use Rattle.std.specs.Prelude.{slice_get, IsTrue, All}
use Rattle.stack_code.specs.Checked.{is_charging, ChargesAt, FineAt, IsFineClass, IsChecked}
use Rattle.stack_code.specs.Machine.{instrs_at, instrs_of, of_class, some_code}
use Rattle.stack_code.specs.declared.code.Instr.{Instr}
use Rattle.stack_code.specs.declared.code.Instr.TheVariants as I
use Rattle.stack_code.specs.declared.image.ClassCode.{ClassCode}
use Rattle.stack_code.specs.declared.image.Code.{Code}
use Rattle.stack_code.specs.declared.image.Image.{Image}
use Rattle.stack_code.specs.declared.state.BodyAt.{BodyAt}
use Rattle.stack_code.specs.declared.state.BodyAt.TheVariants as B
use Rattle.program_weights.specs.Weights.{begins, full, rest, codes_full, blocks_full, classes_full, fields_full, begun, body_most, at}

-- ---- what is left of some code

pub full_some : (k : ℕ) (is : List Instr) → 8 ≤ full k is
full_some k [] = le_refl 8
full_some k (i ∷ is) = let r = full_some k is in omega arith

drop_le : (k n : ℕ) (is : List Instr) → full k (drop n is) ≤ full k is
drop_le k zero is = le_refl (full k is)
drop_le k (suc n) [] = le_refl 8
drop_le k (suc n) (i ∷ is) = let r = drop_le k n is in omega arith

pub drop_later : (k p q : ℕ) (is : List Instr) → p ≤ q → full k (drop q is) ≤ full k (drop p is)
drop_later k zero q is h = drop_le k q is
drop_later k (suc p) zero is h = absurd (omega arith)
drop_later k (suc p) (suc q) [] h = le_refl 8
drop_later k (suc p) (suc q) (i ∷ is) h = drop_later k p q is (omega arith)

cond_le : (b : Bool) (n : ℕ) → cond b 0 n ≤ n
cond_le true n = omega arith
cond_le false n = le_refl n

rest_le : (k : ℕ) (is : List Instr) → rest k is ≤ full k is
rest_le k [] = le_refl 8
rest_le k (i ∷ is) = cond_le (is_charging i) (full k (i ∷ is))

-- a later place weighs what follows at the most
pub later : (k p q : ℕ) (is : List Instr) → p ≤ q → rest k (drop q is) ≤ full k (drop p is)
later k p q is h =
    let a = rest_le k (drop q is) in
    let b = drop_later k p q is h in omega arith

pub dropped : (is : List Instr) (pc : ℕ) (i : Instr) → slice_get is pc ≡ Some i → drop pc is ≡ i ∷ drop (pc + 1) is
dropped [] pc i h = cc
dropped (x ∷ is) zero i h = cc
dropped (x ∷ is) (suc pc) i h =
    let s : suc (pc + 1) ≡ suc pc + 1 = omega arith in
    dropped is pc i h ∙ ap (λ m. i ∷ drop m (x ∷ is)) s

-- an instruction that charges nothing weighs four times what follows
pub free_at : (k pc : ℕ) (is : List Instr) (i : Instr) → slice_get is pc ≡ Some i → is_charging i ≡ false → rest k (drop pc is) ≡ 4 * full k (drop (pc + 1) is) + begins k i
free_at k pc is i e f =
    ap (rest k) (dropped is pc i e) ∙ ap (λ b. cond b 0 (4 * full k (drop (pc + 1) is) + begins k i)) f

past_end : (k pc : ℕ) (is : List Instr) → slice_get is pc ≡ None → rest k (drop pc is) ≡ 8
past_end k zero [] e = refl
past_end k (suc pc) [] e = refl
past_end k zero (i ∷ is) e = cc
past_end k (suc pc) (i ∷ is) e = past_end k pc is e

pub end_at : (k pc : ℕ) (is : List Instr) → slice_get is pc ≡ None → rest k (drop pc is) ≡ 8
end_at k pc is e = past_end k pc is e

zero_if : (b : Bool) (n : ℕ) → IsTrue b → cond b 0 n ≡ 0
zero_if true n h = refl
zero_if false n h = cc

-- where a step is charged nothing comes before that
pub charges_zero : (k q : ℕ) (is : List Instr) → ChargesAt is q → rest k (drop q is) ≡ 0
charges_zero k zero [] h = cc
charges_zero k (suc q) [] h = cc
charges_zero k zero (i ∷ is) h = zero_if (is_charging i) (full k (i ∷ is)) h
charges_zero k (suc q) (i ∷ is) h = charges_zero k q is h

-- ---- bodies

codes_le : (k n : ℕ) (cs : List Code) → full k (instrs_of (slice_get cs n)) ≤ 8 + codes_full k cs
codes_le k n [] = le_refl 8
codes_le k zero (c ∷ cs) = omega arith
codes_le k (suc n) (c ∷ cs) = let r = codes_le k n cs in omega arith

blocks_le : (k n : ℕ) (bs : List (Option Code)) → full k (instrs_of (some_code (slice_get bs n))) ≤ 8 + blocks_full k bs
blocks_le k n [] = le_refl 8
blocks_le k zero (None ∷ bs) = omega arith
blocks_le k zero (Some c ∷ bs) = omega arith
blocks_le k (suc n) (b ∷ bs) = let r = blocks_le k n bs in omega arith

methods_le : (k c m : ℕ) (cs : List ClassCode) → full k (instrs_of (of_class (λ x. slice_get x.methods m) (slice_get cs c))) ≤ 8 + classes_full k cs
methods_le k c m [] = le_refl 8
methods_le k zero m (x ∷ cs) = let r = codes_le k m x.methods in omega arith
methods_le k (suc c) m (x ∷ cs) = let r = methods_le k c m cs in omega arith

constructors_le : (k c m : ℕ) (cs : List ClassCode) → full k (instrs_of (of_class (λ x. slice_get x.constructors m) (slice_get cs c))) ≤ 8 + classes_full k cs
constructors_le k c m [] = le_refl 8
constructors_le k zero m (x ∷ cs) = let r = codes_le k m x.constructors in omega arith
constructors_le k (suc c) m (x ∷ cs) = let r = constructors_le k c m cs in omega arith

fields_le : (k c : ℕ) (cs : List ClassCode) → full k (instrs_of (of_class (λ x. Some x.field_values) (slice_get cs c))) ≤ 8 + classes_full k cs
fields_le k c [] = le_refl 8
fields_le k zero (x ∷ cs) = omega arith
fields_le k (suc c) (x ∷ cs) = let r = fields_le k c cs in omega arith

statics_le : (k c : ℕ) (cs : List ClassCode) → full k (instrs_of (of_class (λ x. Some x.static_values) (slice_get cs c))) ≤ 8 + classes_full k cs
statics_le k c [] = le_refl 8
statics_le k zero (x ∷ cs) = omega arith
statics_le k (suc c) (x ∷ cs) = let r = statics_le k c cs in omega arith

-- a body weighs less than what no body exceeds
pub body_le : (image : Image) (body : BodyAt) → full (begun image) (instrs_at image body) + 56 ≤ body_most image
body_le image (B.Block n) = let r = blocks_le (begun image) n image.blocks in omega arith
body_le image (B.Method c m) = let r = methods_le (begun image) c m image.classes in omega arith
body_le image (B.Constructor c m) = let r = constructors_le (begun image) c m image.classes in omega arith
body_le image (B.Fields c) = let r = fields_le (begun image) c image.classes in omega arith
body_le image (B.Statics c) = let r = statics_le (begun image) c image.classes in omega arith
body_le image (B.Trigger n) = let r = codes_le (begun image) n image.triggers in omega arith

-- so does a place of it
pub at_le : (image : Image) (body : BodyAt) (pc : ℕ) → at image (instrs_at image body) pc + 56 ≤ body_most image
at_le image body pc =
    let r = body_le image body in
    let s = later (begun image) 0 pc (instrs_at image body) (omega arith) in omega arith

-- ---- what is true of each element

pub all_first : {A : Type 0} (P : A → Type 0) (x : A) (xs : List A) → All P (x ∷ xs) → P x
all_first P x xs h = h 0 x (omega arith)

pub all_later : {A : Type 0} (P : A → Type 0) (x : A) (xs : List A) → All P (x ∷ xs) → All P xs
all_later P x xs h = λ k d lt. h (suc k) d (omega arith)

pub all_at : {A : Type 0} (P : A → Type 0) (xs : List A) (n : ℕ) (x : A) → All P xs → slice_get xs n ≡ Some x → P x
all_at P [] n x h e = absurd (cc)
all_at P (y ∷ ys) zero x h e = subst P (got y x e) (all_first P y ys h)
  where
    got : {A : Type 0} (y x : A) → Some y ≡ Some x → y ≡ x
    got y x e = cc
all_at P (y ∷ ys) (suc n) x h e = all_at P ys n x (all_later P y ys h) e

-- ---- initial values of fields begin no constructor

begins_zero : (k : ℕ) (code : List Instr) (pc : ℕ) (i : Instr) → FineAt false code pc i → begins k i ≡ 0
begins_zero k code pc (I.Begin ss) h = let t : false ≡ true = h.0 in cc
begins_zero k code pc _ h = refl

plain_full : (k : ℕ) (is : List Instr) → ((pc : ℕ) (i : Instr) → slice_get is pc ≡ Some i → begins k i ≡ 0) → full k is ≡ full 0 is
plain_full k [] h = refl
plain_full k (i ∷ is) h =
    let a = h 0 i refl in
    let b = plain_full k is (λ pc j e. h (suc pc) j e) in
    let z = begins_at_zero i in omega arith
  where
    begins_at_zero : (j : Instr) → begins 0 j ≡ 0
    begins_at_zero (I.Begin ss) = refl
    begins_at_zero _ = refl

fields_plain : (n k c : ℕ) (cs : List ClassCode) → All (IsFineClass n) cs → full k (instrs_of (of_class (λ x. Some x.field_values) (slice_get cs c))) ≤ 8 + fields_full cs
fields_plain n k c [] h = le_refl 8
fields_plain n k zero (x ∷ cs) h =
    let e = plain_full k x.field_values.instrs (λ pc i g. begins_zero k x.field_values.instrs pc i ((all_first (IsFineClass n) x cs h).field_values pc i g)) in omega arith
fields_plain n k (suc c) (x ∷ cs) h = let r = fields_plain n k c cs (all_later (IsFineClass n) x cs h) in omega arith

pub field_values_le : (image : Image) → IsChecked image → (c : ℕ) → full (begun image) (instrs_at image (B.Fields c)) ≤ 8 + fields_full image.classes
field_values_le image checked c = fields_plain (length image.classes) (begun image) c image.classes checked.classes
