-- Formulas: comparisons and calls.
use Rattle.std.proofs.Common.{◌≡◌, ℕ, zero, suc, true, false, List, ◌∷◌, ◌++◌, drop, Some, None, Result, Ok, Err, inl, inr, refl, sym, ap, ◌∙◌, append_assoc}
use Rattle.apex_schema.specs.declared.rule.RuleTerm.{RuleTerm}
use Rattle.apex_schema.specs.declared.rule.Rule.{Rule}
use Rattle.formula_rules.specs.declared.fault.RuleFault.{RuleFault}
use Rattle.formula_rules.specs.declared.token.Token.{Token}
use Rattle.formula_rules.specs.declared.token.Token.TheVariants.{Word, Op, Open, Close}
use Rattle.formula_rules.specs.declared.words.Function.{Function}
use Rattle.formula_rules.specs.declared.words.Function.TheVariants as Function'
use Rattle.formula_rules.specs.Grammar.{Called, Each, OfEach, IsMeasure, IsTerm, IsComparison, IsInside, IsFormulaWithin}
use Rattle.formula_rules.specs.Readings.{is_unopened, is_closed, is_of_formulas, called, Opens, Told, Reads}
use Rattle.formula_rules.proofs.Told.{fails, denied, unopened, same_call, opened_call}

pub flat : (names : List (List ℕ)) (tokens : List Token) (at : ℕ) (answer : Result (Rule × ℕ) RuleFault) → Told (IsComparison names zero) is_unopened tokens at answer → Told (IsFormulaWithin names zero) is_unopened tokens at answer
unfolding IsFormulaWithin
flat names tokens at answer t = t

no_measure : (names : List (List ℕ)) (f : Function) (tokens : List Token) (t : RuleTerm) → is_of_formulas f ≡ true → IsMeasure names f tokens t → ⊥
no_measure names Function'.And tokens t h m = m
no_measure names Function'.Or tokens t h m = m
no_measure names Function'.Not tokens t h m = m
no_measure names Function'.IsBlank tokens t h m = m
no_measure names Function'.IsChanged tokens t h m = m
no_measure names Function'.IsNew tokens t h m = m
no_measure names Function'.PriorValue tokens t h m = absurd (cc)
no_measure names Function'.Len tokens t h m = absurd (cc)

no_inside : (names : List (List ℕ)) (within : List Token → Rule → Type 0) (f : Function) (tokens : List Token) (r : Rule) → is_of_formulas f ≡ false → IsInside names within f tokens r → ⊥
no_inside names within Function'.And tokens r h m = absurd (cc)
no_inside names within Function'.Or tokens r h m = absurd (cc)
no_inside names within Function'.Not tokens r h m = absurd (cc)
no_inside names within Function'.IsBlank tokens r h m = absurd (cc)
no_inside names within Function'.IsChanged tokens r h m = absurd (cc)
no_inside names within Function'.IsNew tokens r h m = absurd (cc)
no_inside names within Function'.PriorValue tokens r h m = m
no_inside names within Function'.Len tokens r h m = m

reads_call : (names : List (List ℕ)) (room : ℕ) (tokens : List Token) (at : ℕ) (answer : Result (Rule × ℕ) RuleFault)
    → Reads (Called (IsInside names (IsFormulaWithin names room))) tokens at answer → Reads (IsFormulaWithin names (suc room)) tokens at answer
unfolding IsFormulaWithin
reads_call names room tokens at (Ok r) (front, e, m) = (front, e, inr m)
reads_call names room tokens at (Err fault) h = tt

reads_comparison : (names : List (List ℕ)) (room : ℕ) (tokens : List Token) (at : ℕ) (answer : Result (Rule × ℕ) RuleFault)
    → Reads (IsComparison names (suc room)) tokens at answer → Reads (IsFormulaWithin names (suc room)) tokens at answer
unfolding IsFormulaWithin
reads_comparison names room tokens at (Ok r) (front, e, m) = (front, e, inl m)
reads_comparison names room tokens at (Err fault) h = tt

module _ (names : List (List ℕ)) (room : ℕ) (tokens : List Token) (at : ℕ) (answer : Result (Rule × ℕ) RuleFault) where
  -- where a function's word and `(` stand, the term in front is no single token
  no_term : (function : Function) (inside : ℕ) → Opens tokens at function inside → is_of_formulas function ≡ true
      → (front rest : List Token) (t : RuleTerm) → drop at tokens ≡ front ++ rest → is_unopened rest ≡ true → IsTerm names (suc room) front t → ⊥
  no_term function inside (word, is, opens) formulas front rest t e u (inl (token, single, m)) =
      let h : Word word ∷ Open ∷ drop inside tokens ≡ token ∷ rest = sym opens ∙ e ∙ ap (λ l. l ++ rest) single in
      let behind : rest ≡ Open ∷ drop inside tokens = cc h in
      let closed : is_unopened rest ≡ false = ap is_unopened behind in absurd (cc)
  no_term function inside opens formulas front rest t e u (inr m) =
      let s = same_call (IsMeasure names) tokens at function inside opens front rest t e m in
      no_measure names function s.0 t formulas s.2

  no_comparison : (function : Function) (inside : ℕ) → Opens tokens at function inside → is_of_formulas function ≡ true
      → (front rest : List Token) (r : Rule) → drop at tokens ≡ front ++ rest → IsComparison names (suc room) front r → ⊥
  no_comparison function inside opens formulas front rest r e (a, op, b, left, right, spelled, ta, tb, is) =
      no_term function inside opens formulas left (Op op ∷ (right ++ rest)) a (e ∙ ap (λ l. l ++ rest) spelled ∙ append_assoc left (Op op ∷ right) rest) refl ta

  pub call_formula : (function : Function) (inside : ℕ) → Opens tokens at function inside → is_of_formulas function ≡ true
      → Told (Called (IsInside names (IsFormulaWithin names room))) is_unopened tokens at answer → Told (IsFormulaWithin names (suc room)) is_unopened tokens at answer
  unfolding IsFormulaWithin
  call_formula function inside opens formulas t = record {
    reads = reads_call names room tokens at answer t.reads;
    gives = λ front rest r e u m. elim m [
      | inl n ↦ absurd (no_comparison function inside opens formulas front rest r e n)
      | inr n ↦ t.gives front rest r e u n
    ];
  }

  pub other_formula : ((front rest : List Token) (r : Rule) → drop at tokens ≡ front ++ rest → Called (IsInside names (IsFormulaWithin names room)) front r → ⊥)
      → Told (IsComparison names (suc room)) is_unopened tokens at answer → Told (IsFormulaWithin names (suc room)) is_unopened tokens at answer
  unfolding IsFormulaWithin
  other_formula none t = record {
    reads = reads_comparison names room tokens at answer t.reads;
    gives = λ front rest r e u m. elim m [
      | inl n ↦ t.gives front rest r e u n
      | inr n ↦ absurd (none front rest r e n)
    ];
  }

  pub term_formula : (function : Function) (inside : ℕ) → Opens tokens at function inside → is_of_formulas function ≡ false
      → Told (IsComparison names (suc room)) is_unopened tokens at answer → Told (IsFormulaWithin names (suc room)) is_unopened tokens at answer
  term_formula function inside opens terms t = other_formula (λ front rest r e m.
      let s = same_call (IsInside names (IsFormulaWithin names room)) tokens at function inside opens front rest r e m in
      no_inside names (IsFormulaWithin names room) function s.0 r terms s.2) t

  pub plain_formula : called (drop at tokens) ≡ None → Told (IsComparison names (suc room)) is_unopened tokens at answer → Told (IsFormulaWithin names (suc room)) is_unopened tokens at answer
  plain_formula none t = other_formula (λ front rest r e (function, inside, (word, is, spelled), m).
      let h : drop at tokens ≡ Word word ∷ Open ∷ (inside ++ Close ∷ rest) = e ∙ ap (λ l. l ++ rest) spelled ∙ opened_call word inside rest in
      let some : called (drop at tokens) ≡ Some function = ap called h ∙ is in absurd (cc)) t

-- ---- what stands in a function's parentheses

module _ (names : List (List ℕ)) (within : List Token → Rule → Type 0) (tokens : List Token) (at : ℕ) (fault : RuleFault) where
  pub no_each : (says : List Rule → Rule) → Told (Each within) is_closed tokens at (Err fault) → Told (OfEach within says) is_closed tokens at (Err fault)
  no_each says t = fails (OfEach within says) is_closed tokens at fault (λ front rest r bad e u (rules, m, is). denied (Each within) is_closed tokens at fault t bad front rest rules e u m)

  pub no_not : Told within is_unopened tokens at (Err fault) → Told (IsInside names within Function'.Not) is_closed tokens at (Err fault)
  no_not t = fails (IsInside names within Function'.Not) is_closed tokens at fault (λ front rest r bad e u (inner, m, is). denied within is_unopened tokens at fault t bad front rest inner e (unopened rest u) m)
