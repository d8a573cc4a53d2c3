-- Readings, put together.
use Rattle.std.proofs.Common.{◌≡◌, ℕ, Bool, true, false, List, [], ◌∷◌, ◌++◌, drop, Option, Some, None, Ok, Err, refl, sym, ap, ◌∙◌, subst, append_assoc}
use Rattle.formula_rules.specs.declared.fault.RuleFault.{RuleFault}
use Rattle.formula_rules.specs.declared.fault.RuleFault.TheVariants.{BadRule, NoMemory}
use Rattle.formula_rules.specs.declared.token.Token.{Token}
use Rattle.formula_rules.specs.declared.token.Token.TheVariants.{Word, Number, Text, Op, Open, Close, Comma}
use Rattle.formula_rules.specs.declared.words.Function.{Function}
use Rattle.apex_schema.specs.declared.rule.RuleOp.{RuleOp}
use Rattle.apex_schema.specs.declared.rule.RuleTerm.{RuleTerm}
use Rattle.apex_schema.specs.declared.rule.Rule.{Rule}
use Rattle.apex_schema.specs.declared.rule.Rule.TheVariants as Form
use Rattle.formula_rules.specs.Grammar.{function_of, One, OfField, field_of, Called, IsTerm, IsComparison}
use Rattle.formula_rules.specs.Readings.{is_unopened, is_closed, op_of, Opens, Told}

-- a fault that isn't want of memory says that nothing was meant
pub fails : {A : Type 0} (means : List Token → A → Type 0) (ends : List Token → Bool) (tokens : List Token) (at : ℕ) (fault : RuleFault)
    → ((front rest : List Token) (x : A) → fault ≡ BadRule → drop at tokens ≡ front ++ rest → ends rest ≡ true → means front x → ⊥)
    → Told means ends tokens at (Err fault)
fails means ends tokens at BadRule h = record { reads = tt; gives = λ front rest x e u m. h front rest x refl e u m }
fails means ends tokens at NoMemory h = record { reads = tt; gives = λ front rest x e u m. tt }

-- what a fault denies
pub denied : {A : Type 0} (means : List Token → A → Type 0) (ends : List Token → Bool) (tokens : List Token) (at : ℕ) (fault : RuleFault)
    → Told means ends tokens at (Err fault) → fault ≡ BadRule → (front rest : List Token) (x : A) → drop at tokens ≡ front ++ rest → ends rest ≡ true → means front x → ⊥
denied means ends tokens at BadRule t is front rest x e u m = t.gives front rest x e u m
denied means ends tokens at NoMemory t is front rest x e u m = absurd (cc)

pub unopened : (rest : List Token) → is_closed rest ≡ true → is_unopened rest ≡ true
unopened [] e = refl
unopened (Open ∷ ts) e = absurd (cc)
unopened (Close ∷ ts) e = refl
unopened (Comma ∷ ts) e = refl
unopened (Word w ∷ ts) e = refl
unopened (Number n ∷ ts) e = refl
unopened (Text t ∷ ts) e = refl
unopened (Op o ∷ ts) e = refl

-- ---- one token

pub one : {A : Type 0} (means : Token → Option A) (tokens : List Token) (at end : ℕ) (t : Token) (x : A)
    → drop at tokens ≡ t ∷ drop end tokens → means t ≡ Some x → Told (One means) is_unopened tokens at (Ok (x, end))
one means tokens at end t x e m = record {
  reads = (t ∷ [], e, (t, refl, m));
  gives = λ front rest y f u (s, g, n).
      let h : t ∷ drop end tokens ≡ s ∷ rest = sym e ∙ f ∙ ap (λ l. l ++ rest) g in
      let tokens_same : t ≡ s = cc h in
      let same : means t ≡ means s = ap means tokens_same in (cc, cc);
}

-- ---- a field, of which something is said

pub of_field : {A : Type 0} (names : List (List ℕ)) (says : ℕ → A) (tokens : List Token) (at n end : ℕ)
    → Told (One (field_of names)) is_unopened tokens at (Ok (n, end)) → Told (OfField names says) is_closed tokens at (Ok (says n, end))
of_field names says tokens at n end t = record {
  reads = (t.reads.0, t.reads.1, (n, t.reads.2, refl));
  gives = λ front rest y f u (m, o, is).
      let g = t.gives front rest m f (unopened rest u) o in (is ∙ ap says g.0, g.1);
}

pub no_field : {A : Type 0} (names : List (List ℕ)) (says : ℕ → A) (tokens : List Token) (at : ℕ) (fault : RuleFault)
    → Told (One (field_of names)) is_unopened tokens at (Err fault) → Told (OfField names says) is_closed tokens at (Err fault)
no_field names says tokens at fault t =
    fails (OfField names says) is_closed tokens at fault (λ front rest y bad e u (m, o, is). denied (One (field_of names)) is_unopened tokens at fault t bad front rest m e (unopened rest u) o)

-- ---- a call

pub opened_call : (word : List ℕ) (inside rest : List Token) → (Word word ∷ Open ∷ (inside ++ Close ∷ [])) ++ rest ≡ Word word ∷ Open ∷ (inside ++ Close ∷ rest)
opened_call word inside rest = ap (λ l. Word word ∷ Open ∷ l) (append_assoc inside (Close ∷ []) rest)

module _ {A : Type 0} (means : Function → List Token → A → Type 0) (tokens : List Token) (at : ℕ) (function : Function) (inside : ℕ) (opens : Opens tokens at function inside) where
  -- a call that stands here is of this function
  pub same_call : (front rest : List Token) (x : A) → drop at tokens ≡ front ++ rest → Called means front x
      → (within : List Token) × (drop inside tokens ≡ within ++ Close ∷ rest) × means function within x
  same_call front rest x e (other, within, (word, is, spelled), m) =
      let h : Word opens.0 ∷ Open ∷ drop inside tokens ≡ Word word ∷ Open ∷ (within ++ Close ∷ rest) = sym opens.2 ∙ e ∙ ap (λ l. l ++ rest) spelled ∙ opened_call word within rest in
      let words : opens.0 ≡ word = cc h in
      let functions : function_of opens.0 ≡ function_of word = ap function_of words in
      let same : other ≡ function = cc in
      (within, cc h, subst (λ f. means f within x) same m)

  pub call_fails : (fault : RuleFault) → Told (means function) is_closed tokens inside (Err fault) → Told (Called means) is_unopened tokens at (Err fault)
  call_fails fault t = fails (Called means) is_unopened tokens at fault (λ front rest x bad e u m.
      let s = same_call front rest x e m in denied (means function) is_closed tokens inside fault t bad s.0 (Close ∷ rest) x s.1 refl s.2)

  pub call_open : (x : A) (end : ℕ) → Told (means function) is_closed tokens inside (Ok (x, end)) → is_closed (drop end tokens) ≡ false → Told (Called means) is_unopened tokens at (Err BadRule)
  call_open x end t not_closed = fails (Called means) is_unopened tokens at BadRule (λ front rest y bad e u m.
      let s = same_call front rest y e m in
      let g = t.gives s.0 (Close ∷ rest) y s.1 refl s.2 in
      let closed : is_closed (drop end tokens) ≡ true = ap is_closed (sym g.1) in absurd (cc))

  pub call_told : (x : A) (end behind : ℕ) → Told (means function) is_closed tokens inside (Ok (x, end)) → drop end tokens ≡ Close ∷ drop behind tokens
      → Told (Called means) is_unopened tokens at (Ok (x, behind))
  call_told x end behind t close =
      let within = t.reads.0 in record {
        reads = (
          Word opens.0 ∷ Open ∷ (within ++ Close ∷ []),
          opens.2 ∙ ap (λ l. Word opens.0 ∷ Open ∷ l) (t.reads.1 ∙ ap (λ l. within ++ l) close) ∙ sym (opened_call opens.0 within (drop behind tokens)),
          (function, within, (opens.0, opens.1, refl), t.reads.2),
        );
        gives = λ front rest y e u m.
            let s = same_call front rest y e m in
            let g = t.gives s.0 (Close ∷ rest) y s.1 refl s.2 in
            (g.0, cc);
      }

-- ---- a comparison

module _ (names : List (List ℕ)) (room : ℕ) (tokens : List Token) (at : ℕ) where
  -- what a comparison that stands here is made of
  compared : (front rest : List Token) (r : Rule) → drop at tokens ≡ front ++ rest → IsComparison names room front r
      → (a : RuleTerm) × (op : RuleOp) × (b : RuleTerm) × (left : List Token) × (right : List Token) × (drop at tokens ≡ left ++ Op op ∷ (right ++ rest)) ×
      IsTerm names room left a × IsTerm names room right b × (r ≡ Form.Compare a op b)
  compared front rest r e (a, op, b, left, right, spelled, ta, tb, is) =
      (a, op, b, left, right, e ∙ ap (λ l. l ++ rest) spelled ∙ append_assoc left (Op op ∷ right) rest, ta, tb, is)

  pub left_fails : (fault : RuleFault) → Told (IsTerm names room) is_unopened tokens at (Err fault) → Told (IsComparison names room) is_unopened tokens at (Err fault)
  left_fails fault t = fails (IsComparison names room) is_unopened tokens at fault (λ front rest r bad e u m.
      let c = compared front rest r e m in
      denied (IsTerm names room) is_unopened tokens at fault t bad c.3 (Op c.1 ∷ (c.4 ++ rest)) c.0 c.5 refl c.6)

  module _ (a : RuleTerm) (middle : ℕ) (t : Told (IsTerm names room) is_unopened tokens at (Ok (a, middle))) where
    -- the term in front and the tokens behind it
    first : (front rest : List Token) (r : Rule) → drop at tokens ≡ front ++ rest → IsComparison names room front r
        → (op : RuleOp) × (b : RuleTerm) × (right : List Token) × (drop middle tokens ≡ Op op ∷ (right ++ rest)) × IsTerm names room right b × (r ≡ Form.Compare a op b)
    first front rest r e m =
        let c = compared front rest r e m in
        let g = t.gives c.3 (Op c.1 ∷ (c.4 ++ rest)) c.0 c.5 refl c.6 in
        (c.1, c.2, c.4, sym g.1, c.7, c.8 ∙ ap (λ x. Form.Compare x c.1 c.2) g.0)

    pub op_fails : op_of (drop middle tokens) ≡ None → Told (IsComparison names room) is_unopened tokens at (Err BadRule)
    op_fails none = fails (IsComparison names room) is_unopened tokens at BadRule (λ front rest r bad e u m.
        let c = first front rest r e m in
        let some : op_of (drop middle tokens) ≡ Some c.0 = ap op_of c.3 in absurd (cc))

    module _ (op : RuleOp) (behind : ℕ) (is_op : drop middle tokens ≡ Op op ∷ drop behind tokens) where
      second : (front rest : List Token) (r : Rule) → drop at tokens ≡ front ++ rest → IsComparison names room front r
          → (b : RuleTerm) × (right : List Token) × (drop behind tokens ≡ right ++ rest) × IsTerm names room right b × (r ≡ Form.Compare a op b)
      second front rest r e m =
          let c = first front rest r e m in
          let h : Op op ∷ drop behind tokens ≡ Op c.0 ∷ (c.2 ++ rest) = sym is_op ∙ c.3 in
          let same : c.0 ≡ op = cc h in
          (c.1, c.2, cc h, c.4, c.5 ∙ ap (λ o. Form.Compare a o c.1) same)

      pub right_fails : (fault : RuleFault) → Told (IsTerm names room) is_unopened tokens behind (Err fault) → Told (IsComparison names room) is_unopened tokens at (Err fault)
      right_fails fault s = fails (IsComparison names room) is_unopened tokens at fault (λ front rest r bad e u m.
          let c = second front rest r e m in denied (IsTerm names room) is_unopened tokens behind fault s bad c.1 rest c.0 c.2 u c.3)

      pub compares : (b : RuleTerm) (end : ℕ) → Told (IsTerm names room) is_unopened tokens behind (Ok (b, end)) → Told (IsComparison names room) is_unopened tokens at (Ok (Form.Compare a op b, end))
      compares b end s =
          let left = t.reads.0 in let right = s.reads.0 in record {
            reads = (
              left ++ Op op ∷ right,
              t.reads.1 ∙ ap (λ l. left ++ l) (is_op ∙ ap (λ l. Op op ∷ l) s.reads.1) ∙ sym (append_assoc left (Op op ∷ right) (drop end tokens)),
              (a, op, b, left, right, refl, t.reads.2, s.reads.2, refl),
            );
            gives = λ front rest r e u m.
                let c = second front rest r e m in
                let g = s.gives c.1 rest c.0 c.2 u c.3 in
                (c.4 ∙ ap (λ x. Form.Compare a op x) g.0, g.1);
          }
