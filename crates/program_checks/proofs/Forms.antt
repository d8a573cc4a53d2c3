-- The forms of code that jump: choices, loops, clauses, and what runs at last.
use Rattle.std.proofs.Common.{◌≡◌, ℕ, suc, ◌+◌, ◌-◌, ◌≤◌, Bool, List, [], ◌∷◌, ◌++◌, length, slice_get, All, Option, None, Some, refl, subst, length-append, arith}
use Rattle.std.proofs.lemmas.List.Elements.{All-nil, All-cons}
use Rattle.typed_program.specs.declared.expr.Conversion.{Conversion}
use Rattle.typed_program.specs.declared.expr.TypedOp.{TypedOp}
use Rattle.typed_program.specs.declared.expr.TypedOp.TheVariants as Op
use Rattle.stack_code.specs.declared.code.Instr.{Instr}
use Rattle.stack_code.specs.declared.code.Instr.TheVariants as I
use Rattle.stack_code.specs.declared.image.Clause.{Clause}
use Rattle.stack_code.specs.Checked.{ChargesAt, Within, FineAt}
use Rattle.stack_code.specs.Code.{Instrs, ClauseCode, operator_code, choice_code, turn_code, loop_code, each_code, finally_code, clauses_length, clauses_code, clauses_from, catch_code}
use Rattle.program_checks.proofs.Pieces.{At, at_head, at_tail, Fine, Closed, first, next, closed_nil, closed_then, charges}

module _ (b : Bool) where
  -- ---- operators

  joins : (i : ℕ → Instr) → ((n : ℕ) (code : List Instr) (pc : ℕ) → Within code pc n → FineAt b code pc (i n)) → (e : Instrs) → Closed b e → Closed b (i (length e + 1) ∷ (e ++ I.Truth ∷ []))
  joins i fine e h code pc at =
      let fits : pc + 1 + (length e + 1) ≤ length code = let f : pc + suc (length (e ++ I.Truth ∷ [])) ≤ length code = at.fits in omega (arith, length-append e (I.Truth ∷ [])) in
      first b code pc (i (length e + 1)) (e ++ I.Truth ∷ []) at (fine (length e + 1) code pc fits)
      (λ r. next b code (suc pc) e (I.Truth ∷ []) h r (λ t. (tt, tt)))

  pub operator_closed : (left : Conversion) (op : TypedOp) (right : Conversion) (e : Instrs) → Closed b e → Closed b (operator_code left op right e)
  operator_closed left Op.And right e h = joins (λ n. I.Both n) (λ n code pc w. w) e h
  operator_closed left Op.Or right e h = joins (λ n. I.Either n) (λ n code pc w. w) e h
  operator_closed left Op.Join right e h = closed_then b e (I.Calc left Op.Join right) (λ code pc. tt) h
  operator_closed left (Op.Arithmetic o n) right e h = closed_then b e (I.Calc left (Op.Arithmetic o n) right) (λ code pc. tt) h
  operator_closed left Op.Equal right e h = closed_then b e (I.Calc left Op.Equal right) (λ code pc. tt) h
  operator_closed left Op.Differs right e h = closed_then b e (I.Calc left Op.Differs right) (λ code pc. tt) h
  operator_closed left (Op.Order o) right e h = closed_then b e (I.Calc left (Op.Order o) right) (λ code pc. tt) h

  -- ---- choices

  pub choice_closed : (x y : Instrs) → Closed b x → Closed b y → Closed b (choice_code x y)
  choice_closed x y f g code pc at =
      let n : ℕ = length x + 1 in
      let behind : Instrs = I.Jump (length y) ∷ y in
      let fits : pc + 1 + (length x + 1) ≤ length code = let l : pc + suc (length (x ++ behind)) ≤ length code = at.fits in omega (arith, length-append x behind) in
      first b code pc (I.Unless n) (x ++ behind) at fits
      (λ r. next b code (suc pc) x behind f r
      (λ j. first b code (suc pc + length x) (I.Jump (length y)) y j (let l : suc pc + length x + suc (length y) ≤ length code = j.fits in omega arith)
      (λ k. g code (suc (suc pc + length x)) k)))

  -- ---- loops

  back_fine : (code : List Instr) (start pc test x y : ℕ) → start + test + 1 ≡ pc → ChargesAt code start → FineAt b code (suc (suc pc + x) + y) (I.Back (test + (x + (y + 3))))
  back_fine code start pc test x y distance c =
      let same : start ≡ suc (suc pc + x) + y - (test + (x + (y + 3))) = omega arith in
      (omega arith, subst (ChargesAt code) same c)

  -- what a loop repeats, with the place of its step
  turn_fine : (code : List Instr) (start pc test : ℕ) (x y : Instrs) → Closed b x → Closed b y → start + test + 1 ≡ pc → ChargesAt code start → At code pc (turn_code test x y) → Fine b code pc (turn_code test x y)
  turn_fine code start pc test x y f g distance c at =
      let n : ℕ = test + (length x + (length y + 3)) in
      let end : Instrs = I.Back n ∷ [] in
      let closing : Instrs = I.Close ∷ (y ++ end) in
      let fits : pc + suc (length x + suc (length y + 1)) ≤ length code = let l : pc + suc (length (x ++ closing)) ≤ length code = at.fits in omega (arith, length-append x closing, length-append y end) in
      first b code pc (I.OpenLoop (length x + 1) (length x + (length y + 2))) (x ++ closing) at (omega arith, omega arith)
      (λ r. next b code (suc pc) x closing f r
      (λ s. first b code (suc pc + length x) I.Close (y ++ end) s tt
      (λ t. next b code (suc (suc pc + length x)) y end g t
      (λ u. (back_fine code start pc test (length x) (length y) distance c, tt)))))

  pub loop_closed : (c x y : Instrs) → Closed b c → Closed b x → Closed b y → Closed b (loop_code c x y)
  loop_closed c x y h f g code pc at =
      let n : ℕ = length x + (length y + 3) in
      let turn : Instrs = turn_code (length c + 1) x y in
      first b code pc I.Step (c ++ I.Unless n ∷ turn) at tt
      (λ r. next b code (suc pc) c (I.Unless n ∷ turn) h r
      (λ s. first b code (suc pc + length c) (I.Unless n) turn s (unless_fits code (suc pc + length c) (length c + 1) x y s.fits)
      (λ t. turn_fine code pc (suc (suc pc + length c)) (length c + 1) x y f g (omega arith) (charges code pc pc I.Step (at_head code pc I.Step (c ++ I.Unless n ∷ turn) at) refl refl) t)))
    where
      unless_fits : (code : List Instr) (pc test : ℕ) (x y : Instrs) → pc + suc (length (turn_code test x y)) ≤ length code → pc + 1 + (length x + (length y + 3)) ≤ length code
      unless_fits code pc test x y l =
          let end : Instrs = I.Back (test + (length x + (length y + 3))) ∷ [] in
          omega (arith, length-append x (I.Close ∷ (y ++ end)), length-append y end)

  loop_length : (c x y : Instrs) → length (loop_code c x y) ≡ length c + (length x + (length y + 5))
  loop_length c x y =
      let end : Instrs = I.Back (length c + 1 + (length x + (length y + 3))) ∷ [] in
      let turn : Instrs = turn_code (length c + 1) x y in
      omega (arith, length-append c (I.Unless (length x + (length y + 3)) ∷ turn), length-append x (I.Close ∷ (y ++ end)), length-append y end)

  -- which runs what it repeats once before its test
  pub do_closed : (c x : Instrs) → Closed b c → Closed b x → Closed b (I.Jump (length c + 2) ∷ loop_code c x [])
  do_closed c x h f code pc at =
      first b code pc (I.Jump (length c + 2)) (loop_code c x []) at
      (let l : pc + suc (length (loop_code c x [])) ≤ length code = at.fits in omega (arith, loop_length c x []))
      (loop_closed c x [] h f (closed_nil b) code (suc pc))

  pub each_closed : (slot : ℕ) (how : Conversion) (x : Instrs) → Closed b x → Closed b (each_code slot how x)
  each_closed slot how x f code pc at =
      let n : ℕ = length x + 1 in
      let end : Instrs = I.Back n ∷ I.Close ∷ [] in
      let opened : Instr = I.OpenEach 0 (length x + 3) in
      let each : Instr = I.Each slot how n in
      let here : At code (suc pc) (each ∷ (x ++ end)) = at_tail code pc opened (each ∷ (x ++ end)) at in
      let fits : pc + suc (suc (length x + 2)) ≤ length code = let l : pc + suc (suc (length (x ++ end))) ≤ length code = at.fits in omega (arith, length-append x end) in
      let is : slice_get code (suc pc) ≡ Some each = at_head code (suc pc) each (x ++ end) here in
      first b code pc opened (each ∷ (x ++ end)) at (charges code (suc pc) (pc + 1 + 0) each is (omega arith) refl, omega arith)
      (λ r. first b code (suc pc) each (x ++ end) r (omega arith)
      (λ s. next b code (suc (suc pc)) x end f s
      (λ t. ((omega arith, charges code (suc pc) (suc (suc pc) + length x - n) each is (omega arith) refl), (tt, tt)))))

  -- ---- what catches, and what runs at last

  clauses_is : (cs : List ClauseCode) → length (clauses_code cs) ≡ clauses_length cs
  clauses_is [] = refl
  clauses_is (c ∷ cs) = let l = clauses_is cs in omega (arith, length-append c.code (I.Jump (clauses_length cs) ∷ clauses_code cs))

  clauses_within : (code : List Instr) (pc n : ℕ) (cs : List ClauseCode) → pc + 1 + n + clauses_length cs ≤ length code → All (λ (c : Clause). Within code pc c.target) (clauses_from n cs)
  clauses_within code pc n [] l = All-nil (λ (c : Clause). Within code pc c.target)
  clauses_within code pc n (c ∷ cs) l =
      All-cons (λ (x : Clause). Within code pc x.target) (record { kind = c.kind; slot = c.slot; target = n }) (clauses_from (n + length c.code + 1) cs)
      (omega arith) (clauses_within code pc (n + length c.code + 1) cs (omega arith))

  -- the code of each clause is closed
  abbrev pub AllClosed : List ClauseCode → Type 0
  AllClosed [] = Unit {0}
  AllClosed (c ∷ cs) = Closed b c.code × AllClosed cs

  clauses_closed : (cs : List ClauseCode) → AllClosed cs → Closed b (clauses_code cs)
  clauses_closed [] h = closed_nil b
  clauses_closed (c ∷ cs) h = λ code pc at.
      let n : ℕ = clauses_length cs in
      next b code pc c.code (I.Jump n ∷ clauses_code cs) h.0 at
      (λ j. first b code (pc + length c.code) (I.Jump n) (clauses_code cs) j (let l : pc + length c.code + suc (length (clauses_code cs)) ≤ length code = j.fits in omega (arith, clauses_is cs))
      (λ r. clauses_closed cs h.1 code (suc (pc + length c.code)) r))

  pub catch_closed : (cs : List ClauseCode) (x : Instrs) → AllClosed cs → Closed b x → Closed b (catch_code cs x)
  catch_closed cs x h f code pc at =
      let behind : Instrs = I.Jump (clauses_length cs) ∷ clauses_code cs in
      let closing : Instrs = I.Close ∷ behind in
      let fits : pc + 1 + (length x + 2) + clauses_length cs ≤ length code = let l : pc + suc (length (x ++ closing)) ≤ length code = at.fits in omega (arith, length-append x closing, clauses_is cs) in
      first b code pc (I.OpenCatch (clauses_from (length x + 2) cs)) (x ++ closing) at (clauses_within code pc (length x + 2) cs fits)
      (λ r. next b code (suc pc) x closing f r
      (λ s. first b code (suc pc + length x) I.Close behind s tt
      (λ t. first b code (suc (suc pc + length x)) (I.Jump (clauses_length cs)) (clauses_code cs) t (omega arith)
      (λ u. clauses_closed cs h code (suc (suc (suc pc + length x))) u))))

  abbrev pub ClosedOr : Option Instrs → Type 0
  ClosedOr None = Unit {0}
  ClosedOr (Some x) = Closed b x

  pub finally_closed : (last : Option Instrs) (x : Instrs) → ClosedOr last → Closed b x → Closed b (finally_code last x)
  finally_closed None x h f = f
  finally_closed (Some last) x h f = λ code pc at.
      let end : Instrs = last ++ I.Resume ∷ [] in
      first b code pc (I.OpenLast (length x + 1)) (x ++ I.Hold ∷ end) at (let l : pc + suc (length (x ++ I.Hold ∷ end)) ≤ length code = at.fits in omega (arith, length-append x (I.Hold ∷ end)))
      (λ r. next b code (suc pc) x (I.Hold ∷ end) f r
      (λ s. first b code (suc pc + length x) I.Hold end s tt
      (λ t. closed_then b last I.Resume (λ c p. tt) h code (suc (suc pc + length x)) t)))
