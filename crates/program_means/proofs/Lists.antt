-- What is left of a list from a place on, and how far places of code lie apart.
use Rattle.std.proofs.Common.{◌≡◌, ℕ, suc, ◌+◌, ◌-◌, List, [], ◌∷◌, ◌++◌, length, drop, Some, refl, sym, ap, ◌∙◌, subst, arith, add-one, append_assoc, length-append, length-drop}
use Rattle.std.proofs.lemmas.List.{drop-drop}
use Rattle.std.proofs.Math.Seq.{drop-append_seam, drop-append-add}
use Rattle.stack_code.specs.declared.code.Instr.TheVariants as I
use Rattle.program_simulation.proofs.Fetch.{next}
use Rattle.stack_code.specs.Code.{Instrs, turn_code, loop_code, each_code, choice_code, finally_code, catch_code, clauses_code, clauses_from, clauses_length, ClauseCode}
use Rattle.typed_program.specs.declared.expr.Conversion.{Conversion}

module _ {A : Type 0} where
  -- behind these
  pub skip : (pc : ℕ) (code a k : List A) → drop pc code ≡ a ++ k → drop (pc + length a) code ≡ k
  skip pc code a k h = sym (drop-drop (length a) pc code) ∙ ap (λ l. drop (length a) l) h ∙ drop-append_seam a k

  pub drop_suc : (n : ℕ) (x : A) (xs : List A) → drop (n + 1) (x ∷ xs) ≡ drop n xs
  drop_suc n x xs = ap (λ m. drop m (x ∷ xs)) (add-one n)

  -- a place is known by what is left there
  pub same_place : (p q : ℕ) (code l k : List A) (n : ℕ) → drop p code ≡ l → drop q code ≡ k → length l ≡ n + length k → (m : ℕ) → length k ≡ suc m → p ≡ q - n
  same_place p q code l k n h g e m is =
      let e1 : length code - p ≡ length l = sym (length-drop p code) ∙ ap length h in
      let e2 : length code - q ≡ length k = sym (length-drop q code) ∙ ap length g in
      omega arith

  -- and so is the one so many back
  pub back_to : (p q : ℕ) (code : List A) (x : A) (l k : List A) (n : ℕ) → drop p code ≡ l → drop q code ≡ x ∷ k → length l ≡ n + length (x ∷ k) → drop (q - n) code ≡ l
  back_to p q code x l k n h g e = subst (λ m. drop m code ≡ l) (same_place p q code l (x ∷ k) n h g e (length k) refl) h

  pub joined_one : (a : List A) (x : A) (k : List A) → (a ++ x ∷ []) ++ k ≡ a ++ x ∷ k
  joined_one a x k = append_assoc a (x ∷ []) k

-- ---- what a loop's code is with what stands behind it

abbrev pub turn_to : ℕ → Instrs → Instrs → Instrs → Instrs
turn_to test body behind k =
    I.OpenLoop (length body + 1) (length body + (length behind + 2)) ∷ (body ++ I.Close ∷ (behind ++ I.Back (test + (length body + (length behind + 3))) ∷ k))

pub turn_is : (test : ℕ) (body behind k : Instrs) → turn_code test body behind ++ k ≡ turn_to test body behind k
turn_is test body behind k =
    let n = test + (length body + (length behind + 3)) in
    let e : (body ++ I.Close ∷ (behind ++ I.Back n ∷ [])) ++ k ≡ body ++ I.Close ∷ (behind ++ I.Back n ∷ k) =
    append_assoc body (I.Close ∷ (behind ++ I.Back n ∷ [])) k ∙ ap (λ l. body ++ I.Close ∷ l) (joined_one behind (I.Back n) k) in
    ap (λ l. I.OpenLoop (length body + 1) (length body + (length behind + 2)) ∷ l) e

pub turn_again : (n : ℕ) (body behind k : Instrs) → drop (length body + 1) (body ++ I.Close ∷ (behind ++ I.Back n ∷ k)) ≡ behind ++ I.Back n ∷ k
turn_again n body behind k = drop-append-add body (I.Close ∷ (behind ++ I.Back n ∷ k)) 1

pub turn_out : (n : ℕ) (body behind k : Instrs) → drop (length body + (length behind + 2)) (body ++ I.Close ∷ (behind ++ I.Back n ∷ k)) ≡ k
turn_out n body behind k =
    let e : length behind + 2 ≡ length behind + 1 + 1 = omega arith in
    drop-append-add body (I.Close ∷ (behind ++ I.Back n ∷ k)) (length behind + 2)
    ∙ ap (λ m. drop m (I.Close ∷ (behind ++ I.Back n ∷ k))) e
    ∙ drop_suc (length behind + 1) I.Close (behind ++ I.Back n ∷ k)
    ∙ drop-append-add behind (I.Back n ∷ k) 1

abbrev pub loop_to : Instrs → Instrs → Instrs → Instrs → Instrs
loop_to condition body behind k =
    I.Step ∷ (condition ++ I.Unless (length body + (length behind + 3)) ∷ turn_to (length condition + 1) body behind k)

pub loop_is : (condition body behind k : Instrs) → loop_code condition body behind ++ k ≡ loop_to condition body behind k
loop_is condition body behind k =
    let u = I.Unless (length body + (length behind + 3)) in
    ap (λ l. I.Step ∷ l)
    (append_assoc condition (u ∷ turn_code (length condition + 1) body behind) k
    ∙ ap (λ l. condition ++ u ∷ l) (turn_is (length condition + 1) body behind k))

-- where the condition doesn't hold
pub loop_out : (test : ℕ) (body behind k : Instrs) → drop (length body + (length behind + 3)) (turn_to test body behind k) ≡ k
loop_out test body behind k =
    let n = test + (length body + (length behind + 3)) in
    let e : length body + (length behind + 3) ≡ length body + (length behind + 2) + 1 = omega arith in
    ap (λ m. drop m (turn_to test body behind k)) e
    ∙ drop_suc (length body + (length behind + 2)) (I.OpenLoop (length body + 1) (length body + (length behind + 2))) (body ++ I.Close ∷ (behind ++ I.Back n ∷ k))
    ∙ turn_out n body behind k

-- how far it is back
pub loop_length : (condition body behind k : Instrs) (n : ℕ) →
    length (loop_to condition body behind k) ≡ (length condition + 1) + (length body + (length behind + 3)) + length (I.Back n ∷ k)
loop_length condition body behind k n =
    let x = length condition + 1 + (length body + (length behind + 3)) in
    let c = length-append condition (I.Unless (length body + (length behind + 3)) ∷ turn_to (length condition + 1) body behind k) in
    let b = length-append body (I.Close ∷ (behind ++ I.Back x ∷ k)) in
    let e = length-append behind (I.Back x ∷ k) in
    omega arith

-- `do` begins behind its test
pub do_over : (condition body behind k : Instrs) → drop (length condition + 2) (loop_to condition body behind k) ≡ turn_to (length condition + 1) body behind k
do_over condition body behind k =
    let e : length condition + 2 ≡ length condition + 1 + 1 = omega arith in
    let u = I.Unless (length body + (length behind + 3)) in
    let t = turn_to (length condition + 1) body behind k in
    ap (λ m. drop m (loop_to condition body behind k)) e ∙ drop_suc (length condition + 1) I.Step (condition ++ u ∷ t) ∙ drop-append-add condition (u ∷ t) 1

-- ---- a loop over items

abbrev pub items_to : ℕ → Conversion → Instrs → Instrs → Instrs
items_to slot how body k = I.Each slot how (length body + 1) ∷ (body ++ I.Back (length body + 1) ∷ I.Close ∷ k)

pub each_is : (slot : ℕ) (how : Conversion) (body k : Instrs) → each_code slot how body ++ k ≡ I.OpenEach 0 (length body + 3) ∷ items_to slot how body k
each_is slot how body k = ap (λ l. I.OpenEach 0 (length body + 3) ∷ I.Each slot how (length body + 1) ∷ l) (append_assoc body (I.Back (length body + 1) ∷ I.Close ∷ []) k)

pub each_out : (slot : ℕ) (how : Conversion) (body k : Instrs) → drop (length body + 3) (items_to slot how body k) ≡ k
each_out slot how body k =
    let e : length body + 3 ≡ length body + 2 + 1 = omega arith in
    let l = body ++ I.Back (length body + 1) ∷ I.Close ∷ k in
    ap (λ m. drop m (items_to slot how body k)) e ∙ drop_suc (length body + 2) (I.Each slot how (length body + 1)) l ∙ drop-append-add body (I.Back (length body + 1) ∷ I.Close ∷ k) 2

pub each_end : (n : ℕ) (body k : Instrs) → drop (length body + 1) (body ++ I.Back n ∷ k) ≡ k
each_end n body k = drop-append-add body (I.Back n ∷ k) 1

pub each_length : (slot : ℕ) (how : Conversion) (body k : Instrs) (n : ℕ) → length (items_to slot how body k) ≡ (length body + 1) + length (I.Back n ∷ I.Close ∷ k)
each_length slot how body k n = let b = length-append body (I.Back (length body + 1) ∷ I.Close ∷ k) in omega arith

-- ---- choices, and what runs at last

pub choice_is : (a b k : Instrs) → choice_code a b ++ k ≡ I.Unless (length a + 1) ∷ (a ++ I.Jump (length b) ∷ (b ++ k))
choice_is a b k = ap (λ l. I.Unless (length a + 1) ∷ l) (append_assoc a (I.Jump (length b) ∷ b) k)

pub choice_else : (n : ℕ) (a k : Instrs) → drop (length a + 1) (a ++ I.Jump n ∷ k) ≡ k
choice_else n a k = drop-append-add a (I.Jump n ∷ k) 1

pub finally_is : (code last k : Instrs) → finally_code (Some last) code ++ k ≡ I.OpenLast (length code + 1) ∷ (code ++ I.Hold ∷ (last ++ I.Resume ∷ k))
finally_is code last k =
    ap (λ l. I.OpenLast (length code + 1) ∷ l)
    (append_assoc code (I.Hold ∷ (last ++ I.Resume ∷ [])) k ∙ ap (λ l. code ++ I.Hold ∷ l) (joined_one last I.Resume k))

pub finally_last : (code k : Instrs) → drop (length code + 1) (code ++ I.Hold ∷ k) ≡ k
finally_last code k = drop-append-add code (I.Hold ∷ k) 1

-- ---- clauses

pub clauses_measured : (cs : List ClauseCode) → length (clauses_code cs) ≡ clauses_length cs
clauses_measured [] = refl
clauses_measured (c ∷ cs) = let h = clauses_measured cs in let e = length-append c.code (I.Jump (clauses_length cs) ∷ clauses_code cs) in omega arith

pub clauses_over : (cs : List ClauseCode) (k : Instrs) → drop (clauses_length cs) (clauses_code cs ++ k) ≡ k
clauses_over cs k = ap (λ n. drop n (clauses_code cs ++ k)) (sym (clauses_measured cs)) ∙ drop-append_seam (clauses_code cs) k

pub catch_is : (cs : List ClauseCode) (body k : Instrs) →
    catch_code cs body ++ k ≡ I.OpenCatch (clauses_from (length body + 2) cs) ∷ (body ++ I.Close ∷ I.Jump (clauses_length cs) ∷ (clauses_code cs ++ k))
catch_is cs body k = ap (λ l. I.OpenCatch (clauses_from (length body + 2) cs) ∷ l) (append_assoc body (I.Close ∷ I.Jump (clauses_length cs) ∷ clauses_code cs) k)

pub catch_clauses : (n : ℕ) (body k : Instrs) → drop (length body + 2) (body ++ I.Close ∷ I.Jump n ∷ k) ≡ k
catch_clauses n body k = drop-append-add body (I.Close ∷ I.Jump n ∷ k) 2

pub clause_is : (c : ClauseCode) (cs : List ClauseCode) (k : Instrs) → clauses_code (c ∷ cs) ++ k ≡ c.code ++ I.Jump (clauses_length cs) ∷ (clauses_code cs ++ k)
clause_is c cs k = append_assoc c.code (I.Jump (clauses_length cs) ∷ clauses_code cs) k

-- behind the first clause stand the others
pub clauses_next : (n : ℕ) (l : Instrs) (c : ClauseCode) (cs : List ClauseCode) (k : Instrs) →
    drop n l ≡ clauses_code (c ∷ cs) ++ k → drop (n + length c.code + 1) l ≡ clauses_code cs ++ k
clauses_next n l c cs k h = next (n + length c.code) l (I.Jump (clauses_length cs)) (clauses_code cs ++ k) (skip n l c.code (I.Jump (clauses_length cs) ∷ (clauses_code cs ++ k)) (h ∙ clause_is c cs k))
