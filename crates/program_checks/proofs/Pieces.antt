-- Pieces of code whose jumps stay within them.
use Rattle.std.proofs.Common.{◌≡◌, ℕ, zero, suc, ◌+◌, ◌≤◌, Bool, List, [], ◌∷◌, ◌++◌, length, map, replicate, slice_get, IsTrue, Some, refl, sym, subst, length-append, arith}
use Rattle.stack_code.specs.declared.code.Instr.{Instr}
use Rattle.stack_code.specs.declared.code.Instr.TheVariants as I
use Rattle.stack_code.specs.Checked.{charges_in, is_charging, ChargesAt, FineAt, IsFine}
use Rattle.stack_code.specs.Code.{joined, Instrs}

-- ---- a piece that stands in a code at a place

pub record At (code : List Instr) (pc : ℕ) (is : List Instr) : Type 0 where
  pub here : (j : ℕ) (i : Instr) → slice_get is j ≡ Some i → slice_get code (pc + j) ≡ Some i
  pub fits : pc + length is ≤ length code

nothing_in : (j : ℕ) (i : Instr) → slice_get [] j ≡ Some i → ⊥
nothing_in j i e = cc

get_left : (x y : List Instr) (j : ℕ) (i : Instr) → slice_get x j ≡ Some i → slice_get (x ++ y) j ≡ Some i
get_left [] y j i e = absurd (nothing_in j i e)
get_left (a ∷ x) y zero i e = e
get_left (a ∷ x) y (suc j) i e = get_left x y j i e

get_right : (x y : List Instr) (j : ℕ) (i : Instr) → slice_get y j ≡ Some i → slice_get (x ++ y) (length x + j) ≡ Some i
get_right [] y j i e = let same : j ≡ 0 + j = omega arith in subst (λ n. slice_get y n ≡ Some i) same e
get_right (a ∷ x) y j i e =
    let same : suc (length x + j) ≡ suc (length x) + j = omega arith in
    subst (λ n. slice_get (a ∷ (x ++ y)) n ≡ Some i) same (get_right x y j i e)

pub at_head : (code : List Instr) (pc : ℕ) (i : Instr) (is : List Instr) → At code pc (i ∷ is) → slice_get code pc ≡ Some i
at_head code pc i is at = let same : pc + 0 ≡ pc = omega arith in subst (λ n. slice_get code n ≡ Some i) same (at.here 0 i refl)

pub at_tail : (code : List Instr) (pc : ℕ) (i : Instr) (is : List Instr) → At code pc (i ∷ is) → At code (suc pc) is
at_tail code pc i is at = record {
  here = λ j x e. let same : pc + suc j ≡ suc pc + j = omega arith in subst (λ n. slice_get code n ≡ Some x) same (at.here (suc j) x e);
  fits = let f : pc + suc (length is) ≤ length code = at.fits in omega arith;
}

pub at_left : (code : List Instr) (pc : ℕ) (x y : List Instr) → At code pc (x ++ y) → At code pc x
at_left code pc x y at = record {
  here = λ j i e. at.here j i (get_left x y j i e);
  fits = omega (arith, length-append x y);
}

pub at_right : (code : List Instr) (pc : ℕ) (x y : List Instr) → At code pc (x ++ y) → At code (pc + length x) y
at_right code pc x y at = record {
  here = λ j i e. let same : pc + (length x + j) ≡ pc + length x + j = omega arith in subst (λ n. slice_get code n ≡ Some i) same (at.here (length x + j) i (get_right x y j i e));
  fits = omega (arith, length-append x y);
}

-- ---- each of its instructions is fine where it stands

abbrev pub Fine : Bool → List Instr → ℕ → List Instr → Type 0
Fine b code pc [] = Unit {0}
Fine b code pc (i ∷ is) = FineAt b code pc i × Fine b code (suc pc) is

fine_append : (b : Bool) (code : List Instr) (pc : ℕ) (x y : List Instr) → Fine b code pc x → Fine b code (pc + length x) y → Fine b code pc (x ++ y)
fine_append b code pc [] y f g = let same : pc + 0 ≡ pc = omega arith in subst (λ n. Fine b code n y) same g
fine_append b code pc (i ∷ x) y f g =
    let same : pc + suc (length x) ≡ suc pc + length x = omega arith in
    (f.0, fine_append b code (suc pc) x y f.1 (subst (λ n. Fine b code n y) same g))

fine_get : (b : Bool) (code : List Instr) (pc : ℕ) (is : List Instr) → Fine b code pc is → (j : ℕ) (i : Instr) → slice_get is j ≡ Some i → FineAt b code (pc + j) i
fine_get b code pc [] f j i e = absurd (nothing_in j i e)
fine_get b code pc (x ∷ is) f zero i e =
    let eq : x ≡ i = cc in let same : pc ≡ pc + 0 = omega arith in
    subst (λ n. FineAt b code n i) same (subst (FineAt b code pc) eq f.0)
fine_get b code pc (x ∷ is) f (suc j) i e =
    let same : suc pc + j ≡ pc + suc j = omega arith in
    subst (λ n. FineAt b code n i) same (fine_get b code (suc pc) is f.1 j i e)

-- wherever it stands
abbrev pub Closed : Bool → List Instr → Type 0
Closed b is = (code : List Instr) (pc : ℕ) → At code pc is → Fine b code pc is

-- so it is fine by itself
pub closed_fine : (b : Bool) (is : List Instr) → Closed b is → IsFine b is
closed_fine b is h pc i e =
    let at : At is 0 is = record {
      here = λ j x e. let same : j ≡ 0 + j = omega arith in subst (λ n. slice_get is n ≡ Some x) same e;
      fits = omega arith;
    } in
    let same : 0 + pc ≡ pc = omega arith in
    subst (λ n. FineAt b is n i) same (fine_get b is 0 is (h is 0 at) pc i e)

-- ---- pieces of pieces

-- an instruction, and then the rest
pub first : (b : Bool) (code : List Instr) (pc : ℕ) (i : Instr) (is : List Instr) → At code pc (i ∷ is) → FineAt b code pc i → (At code (suc pc) is → Fine b code (suc pc) is) → Fine b code pc (i ∷ is)
first b code pc i is at f g = (f, g (at_tail code pc i is at))

-- a piece, and then the rest
pub next : (b : Bool) (code : List Instr) (pc : ℕ) (x y : List Instr) → Closed b x → At code pc (x ++ y) → (At code (pc + length x) y → Fine b code (pc + length x) y) → Fine b code pc (x ++ y)
next b code pc x y f at g = fine_append b code pc x y (f code pc (at_left code pc x y at)) (g (at_right code pc x y at))

pub closed_same : (b : Bool) (is js : List Instr) → is ≡ js → Closed b js → Closed b is
closed_same b is js e h = subst (Closed b) (sym e) h

pub closed_nil : (b : Bool) → Closed b []
closed_nil b = λ code pc at. tt

pub closed_append : (b : Bool) (x y : List Instr) → Closed b x → Closed b y → Closed b (x ++ y)
closed_append b x y f g = λ code pc at. next b code pc x y f at (g code (pc + length x))

-- an instruction that is fine everywhere
abbrev pub Plain : Bool → Instr → Type 0
Plain b i = (code : List Instr) (pc : ℕ) → FineAt b code pc i

pub closed_cons : (b : Bool) (i : Instr) (is : List Instr) → Plain b i → Closed b is → Closed b (i ∷ is)
closed_cons b i is f g = λ code pc at. (f code pc, g code (suc pc) (at_tail code pc i is at))

pub closed_one : (b : Bool) (i : Instr) → Plain b i → Closed b (i ∷ [])
closed_one b i f = λ code pc at. (f code pc, tt)

-- a piece and an instruction
pub closed_then : (b : Bool) (is : List Instr) (i : Instr) → Plain b i → Closed b is → Closed b (is ++ i ∷ [])
closed_then b is i f g = closed_append b is (i ∷ []) g (closed_one b i f)

pub closed_pops : (b : Bool) (n : ℕ) → Closed b (replicate n I.Pop)
closed_pops b zero = closed_nil b
closed_pops b (suc n) = closed_cons b I.Pop (replicate n I.Pop) (λ code pc. tt) (closed_pops b n)

-- pieces one behind the other, each made of a part
pub closed_joined : (b : Bool) {T : Type 0} (f : T → Instrs) (ts : List ((t : T) × Closed b (f t))) → Closed b (joined (map f (map (λ (t : (t : T) × Closed b (f t)). t.0) ts)))
closed_joined b f [] = closed_nil b
closed_joined b {T = T} f (t ∷ ts) =
    closed_append b (f t.0) (joined (map f (map (λ (t : (t : T) × Closed b (f t)). t.0) ts))) t.1 (closed_joined b f ts)

pub closed_map : (b : Bool) {T : Type 0} (f : T → Instrs) → ((t : T) → Closed b (f t)) → (ts : List T) → Closed b (joined (map f ts))
closed_map b f h [] = closed_nil b
closed_map b f h (t ∷ ts) = closed_append b (f t) (joined (map f ts)) (h t) (closed_map b f h ts)

-- what stands at a place charges
pub charges : (code : List Instr) (place to : ℕ) (i : Instr) → slice_get code place ≡ Some i → place ≡ to → IsTrue (is_charging i) → ChargesAt code to
charges code place to i e same t = subst (ChargesAt code) same (subst (λ o. IsTrue (charges_in o)) (sym e) t)
