-- A text is one formula at most: what is read of it is read in one way.
use Rattle.std.proofs.Common.{◌≡◌, inl, inr, ℕ, zero, suc, Bool, true, false, List, [], ◌∷◌, ◌++◌, Option, refl, sym, ap, ap₂, ◌∙◌, subst, append_assoc}
use Rattle.std.proofs.lemmas.Option.{same_Some}
use Rattle.apex_schema.specs.declared.schema.Object.{Object}
use Rattle.apex_schema.specs.declared.rule.RuleTerm.{RuleTerm}
use Rattle.apex_schema.specs.declared.rule.Rule.{Rule}
use Rattle.apex_schema.specs.declared.rule.Rule.TheVariants as Form
use Rattle.formula_rules.specs.declared.token.Token.{Token}
use Rattle.formula_rules.specs.declared.token.Token.TheVariants.{Word, Number, Text, Op, Open, Close, Comma}
use Rattle.formula_rules.specs.declared.words.Function.{Function}
use Rattle.formula_rules.specs.declared.words.Function.TheVariants as Function'
use Rattle.formula_rules.specs.Grammar.{function_of, field_of, term_of, One, OfField, Calls, Called, Each, OfEach, IsMeasure, IsTerm, IsComparison, IsInside, IsFormulaWithin, IsFormula, field_names}
use Rattle.formula_rules.specs.Readings.{is_unopened, is_closed}
use Rattle.formula_rules.specs.Tokens.{token_at, HasTokens}

-- tokens begin in one way at most with some that mean something, where those behind them end these
abbrev Once : {A : Type 0} → (List Token → A → Type 0) → (List Token → Bool) → Type 0
Once {A} means ends = (front first : List Token) (x y : A) (rest other : List Token) → front ++ rest ≡ first ++ other → ends rest ≡ true → ends other ≡ true → means front x → means first y → (x ≡ y) × (rest ≡ other)

unopened : (rest : List Token) → is_closed rest ≡ true → is_unopened rest ≡ true
unopened [] e = refl
unopened (Open ∷ ts) e = absurd (cc)
unopened (Close ∷ ts) e = refl
unopened (Comma ∷ ts) e = refl
unopened (Word w ∷ ts) e = refl
unopened (Number n ∷ ts) e = refl
unopened (Text t ∷ ts) e = refl
unopened (Op o ∷ ts) e = refl

-- ---- single tokens

one_once : {A : Type 0} (means : Token → Option A) (ends : List Token → Bool) → Once (One means) ends
one_once means ends front first x y rest other e u v (s, is, m) (t, at, n) =
    let h : s ∷ rest ≡ t ∷ other = ap (λ l. l ++ rest) (sym is) ∙ e ∙ ap (λ l. l ++ other) at in
    let tokens : s ≡ t = cc h in
    let rests : rest ≡ other = cc h in
    (same_Some x y (sym m ∙ ap means tokens ∙ n), rests)

field_once : {A : Type 0} (names : List (List ℕ)) (says : ℕ → A) (ends : List Token → Bool) → Once (OfField names says) ends
field_once names says ends front first x y rest other e u v (f, o, is) (g, p, at) =
    let k = one_once (field_of names) ends front first f g rest other e u v o p in (is ∙ ap says k.0 ∙ sym at, k.1)

-- ---- calls

opened : (word : List ℕ) (inside rest : List Token) → (Word word ∷ Open ∷ (inside ++ Close ∷ [])) ++ rest ≡ Word word ∷ Open ∷ (inside ++ Close ∷ rest)
opened word inside rest = ap (λ l. Word word ∷ Open ∷ l) (append_assoc inside (Close ∷ []) rest)

-- two calls that stand at one place are of one function
module _ (f g : Function) (front first within inside rest other : List Token) (e : front ++ rest ≡ first ++ other) (c : Calls f within front) (d : Calls g inside first) where
  begins : Word c.0 ∷ Open ∷ (within ++ Close ∷ rest) ≡ Word d.0 ∷ Open ∷ (inside ++ Close ∷ other)
  begins = sym (opened c.0 within rest) ∙ ap (λ l. l ++ rest) (sym c.2) ∙ e ∙ ap (λ l. l ++ other) d.2 ∙ opened d.0 inside other

  one_function : f ≡ g
  one_function =
      let h = begins in
      let words : c.0 ≡ d.0 = cc h in
      same_Some f g (sym c.1 ∙ ap function_of words ∙ d.1)

  insides : within ++ Close ∷ rest ≡ inside ++ Close ∷ other
  insides = let h = begins in cc h

closes : (rest other : List Token) → Close ∷ rest ≡ Close ∷ other → rest ≡ other
closes rest other e = cc e

call_once : {A : Type 0} (means : Function → List Token → A → Type 0) → ((f : Function) → Once (means f) is_closed) → Once (Called means) is_unopened
call_once means once front first x y rest other e u v (f, within, c, m) (g, inside, d, n) =
    let k = once g within inside x y (Close ∷ rest) (Close ∷ other) (insides f g front first within inside rest other e c d) refl refl
    (subst (λ fn. means fn within x) (one_function f g front first within inside rest other e c d) m) n in
    (k.0, closes rest other k.1)

-- where one token stands alone no call begins
no_call : {A : Type 0} (means : Token → Option A) (f : Function) (front first inside rest other : List Token) (x : A) → front ++ rest ≡ first ++ other → is_unopened rest ≡ true → One means front x → Calls f inside first → ⊥
no_call means f front first inside rest other x e u (t, is, m) (word, named, spelled) =
    let h : t ∷ rest ≡ Word word ∷ Open ∷ (inside ++ Close ∷ other) = ap (λ l. l ++ rest) (sym is) ∙ e ∙ ap (λ l. l ++ other) spelled ∙ opened word inside other in
    let behind : rest ≡ Open ∷ (inside ++ Close ∷ other) = cc h in
    let no : is_unopened rest ≡ false = ap is_unopened behind in absurd (cc)

-- ---- terms

measure_once : (names : List (List ℕ)) (f : Function) → Once (IsMeasure names f) is_closed
measure_once names Function'.And front first x y rest other e u v m n = absurd m
measure_once names Function'.Or front first x y rest other e u v m n = absurd m
measure_once names Function'.Not front first x y rest other e u v m n = absurd m
measure_once names Function'.IsBlank front first x y rest other e u v m n = absurd m
measure_once names Function'.IsChanged front first x y rest other e u v m n = absurd m
measure_once names Function'.IsNew front first x y rest other e u v m n = absurd m
measure_once names Function'.PriorValue front first x y rest other e u v m n = field_once names _ is_closed front first x y rest other e u v m n
measure_once names Function'.Len front first x y rest other e u v m n = field_once names _ is_closed front first x y rest other e u v m n

term_once : (names : List (List ℕ)) (room : ℕ) → Once (IsTerm names room) is_unopened
term_once names zero front first x y rest other e u v m n = one_once (term_of names) is_unopened front first x y rest other e u v m n
term_once names (suc room) front first x y rest other e u v (inl m) (inl n) = one_once (term_of names) is_unopened front first x y rest other e u v m n
term_once names (suc room) front first x y rest other e u v (inl m) (inr n) = absurd (no_call (term_of names) n.0 front first n.1 rest other x e u m n.2)
term_once names (suc room) front first x y rest other e u v (inr m) (inl n) = absurd (no_call (term_of names) m.0 first front m.1 other rest y (sym e) v n m.2)
term_once names (suc room) front first x y rest other e u v (inr m) (inr n) = call_once (IsMeasure names) (measure_once names) front first x y rest other e u v m n

-- ---- comparisons

module _ (names : List (List ℕ)) (room : ℕ) where
  comparison_once : Once (IsComparison names room) is_unopened
  comparison_once front first r s rest other e u v (a, op, b, left, right, spelled, ta, tb, is) (c, sign, d, begin, end, written, tc, td, at) =
      let h : left ++ Op op ∷ (right ++ rest) ≡ begin ++ Op sign ∷ (end ++ other) =
      sym (append_assoc left (Op op ∷ right) rest) ∙ ap (λ l. l ++ rest) (sym spelled) ∙ e ∙ ap (λ l. l ++ other) written ∙ append_assoc begin (Op sign ∷ end) other in
      let k = term_once names room left begin a c (Op op ∷ (right ++ rest)) (Op sign ∷ (end ++ other)) h refl refl ta tc in
      let behind : Op op ∷ (right ++ rest) ≡ Op sign ∷ (end ++ other) = k.1 in
      let ops : op ≡ sign = cc behind in
      let rights : right ++ rest ≡ end ++ other = cc behind in
      let j = term_once names room right end b d rest other rights u v tb td in
      (is ∙ ap (λ t. Form.Compare t op b) k.0 ∙ ap (λ o. Form.Compare c o b) ops ∙ ap (λ t. Form.Compare c sign t) j.0 ∙ sym at, j.1)

-- ---- formulas with commas between them

module _ {A : Type 0} (means : List Token → A → Type 0) (once : Once means is_unopened) where
  -- no comma stands behind the last
  no_comma : (front first more : List Token) (x y : A) (rest other : List Token) → front ++ rest ≡ (first ++ Comma ∷ more) ++ other → is_closed rest ≡ true → means front x → means first y → ⊥
  no_comma front first more x y rest other e u m n =
      let k = once front first x y rest (Comma ∷ (more ++ other)) (e ∙ append_assoc first (Comma ∷ more) other) (unopened rest u) refl m n in
      let no : is_closed rest ≡ false = ap is_closed k.1 in absurd (cc)

  each_once : Once (Each means) is_closed
  each_once front first [] ys rest other e u v m n = absurd m
  each_once front first (x ∷ []) [] rest other e u v m n = absurd n
  each_once front first (x ∷ z ∷ xs) [] rest other e u v m n = absurd n
  each_once front first (x ∷ []) (y ∷ []) rest other e u v m n =
      let k = once front first x y rest other e (unopened rest u) (unopened other v) m n in (ap (λ z. z ∷ []) k.0, k.1)
  each_once front first (x ∷ []) (y ∷ z ∷ ys) rest other e u v m (begin, more, is, n, o) =
      absurd (no_comma front begin more x y rest other (e ∙ ap (λ l. l ++ other) is) u m n)
  each_once front first (x ∷ z ∷ xs) (y ∷ []) rest other e u v (begin, more, is, m, o) n =
      absurd (no_comma first begin more y x other rest (sym e ∙ ap (λ l. l ++ rest) is) v n m)
  each_once front first (x ∷ z ∷ xs) (y ∷ w ∷ ys) rest other e u v (begin, more, is, m, o) (head, tail, at, n, p) =
      let h : begin ++ Comma ∷ (more ++ rest) ≡ head ++ Comma ∷ (tail ++ other) =
      sym (append_assoc begin (Comma ∷ more) rest) ∙ ap (λ l. l ++ rest) (sym is) ∙ e ∙ ap (λ l. l ++ other) at ∙ append_assoc head (Comma ∷ tail) other in
      let k = once begin head x y (Comma ∷ (more ++ rest)) (Comma ∷ (tail ++ other)) h refl refl m n in
      let behind : Comma ∷ (more ++ rest) ≡ Comma ∷ (tail ++ other) = k.1 in
      let tails : more ++ rest ≡ tail ++ other = cc behind in
      let j = each_once more tail (z ∷ xs) (w ∷ ys) rest other tails u v o p in
      (ap₂ (λ q qs. q ∷ qs) k.0 j.0, j.1)

-- ---- formulas

module _ (names : List (List ℕ)) (within : List Token → Rule → Type 0) where
  module _ (once : Once within is_unopened) where
    of_each_once : (says : List Rule → Rule) → Once (OfEach within says) is_closed
    of_each_once says front first r s rest other e u v (rules, m, is) (others, n, at) =
        let k = each_once within once front first rules others rest other e u v m n in (is ∙ ap says k.0 ∙ sym at, k.1)

    inside_once : (f : Function) → Once (IsInside names within f) is_closed
    inside_once Function'.And front first r s rest other e u v m n = of_each_once Form.And front first r s rest other e u v m n
    inside_once Function'.Or front first r s rest other e u v m n = of_each_once Form.Or front first r s rest other e u v m n
    inside_once Function'.Not front first r s rest other e u v (inner, m, is) (also, n, at) =
        let k = once front first inner also rest other e (unopened rest u) (unopened other v) m n in (is ∙ ap Form.Not k.0 ∙ sym at, k.1)
    inside_once Function'.IsBlank front first r s rest other e u v m n = field_once names _ is_closed front first r s rest other e u v m n
    inside_once Function'.IsChanged front first r s rest other e u v m n = field_once names _ is_closed front first r s rest other e u v m n
    inside_once Function'.IsNew front first r s rest other e u v (is, m) (at, n) = (m ∙ sym n, ap (λ l. l ++ rest) (sym is) ∙ e ∙ ap (λ l. l ++ other) at)
    inside_once Function'.PriorValue front first r s rest other e u v m n = absurd m
    inside_once Function'.Len front first r s rest other e u v m n = absurd m

  -- a call is a term or a formula, and not both
  not_measured : (f : Function) (front first : List Token) (t : RuleTerm) (r : Rule) → IsMeasure names f front t → IsInside names within f first r → ⊥
  not_measured Function'.And front first t r m n = m
  not_measured Function'.Or front first t r m n = m
  not_measured Function'.Not front first t r m n = m
  not_measured Function'.IsBlank front first t r m n = m
  not_measured Function'.IsChanged front first t r m n = m
  not_measured Function'.IsNew front first t r m n = m
  not_measured Function'.PriorValue front first t r m n = n
  not_measured Function'.Len front first t r m n = n

  no_term : (room : ℕ) (front first rest other : List Token) (t : RuleTerm) (r : Rule) → front ++ rest ≡ first ++ other → is_unopened rest ≡ true → IsTerm names (suc room) front t → Called (IsInside names within) first r → ⊥
  no_term room front first rest other t r e u (inl m) (g, inside, d, n) = no_call (term_of names) g front first inside rest other t e u m d
  no_term room front first rest other t r e u (inr (f, within', c, m)) (g, inside, d, n) =
      not_measured g within' inside t r (subst (λ fn. IsMeasure names fn within' t) (one_function f g front first within' inside rest other e c d) m) n

  no_comparison : (room : ℕ) (front first rest other : List Token) (r s : Rule) → front ++ rest ≡ first ++ other → IsComparison names (suc room) front r → Called (IsInside names within) first s → ⊥
  no_comparison room front first rest other r s e (a, op, b, left, right, spelled, ta, tb, is) n =
      no_term room left first (Op op ∷ (right ++ rest)) other a s (sym (append_assoc left (Op op ∷ right) rest) ∙ ap (λ l. l ++ rest) (sym spelled) ∙ e) refl ta n

within_once : (names : List (List ℕ)) (room : ℕ) → Once (IsFormulaWithin names room) is_unopened
unfolding IsFormulaWithin
within_once names zero front first r s rest other e u v m n = comparison_once names zero front first r s rest other e u v m n
within_once names (suc room) front first r s rest other e u v (inl m) (inl n) = comparison_once names (suc room) front first r s rest other e u v m n
within_once names (suc room) front first r s rest other e u v (inl m) (inr n) = absurd (no_comparison names (IsFormulaWithin names room) room front first rest other r s e m n)
within_once names (suc room) front first r s rest other e u v (inr m) (inl n) = absurd (no_comparison names (IsFormulaWithin names room) room first front other rest s r (sym e) n m)
within_once names (suc room) front first r s rest other e u v (inr m) (inr n) =
    call_once (IsInside names (IsFormulaWithin names room)) (inside_once names (IsFormulaWithin names room) (within_once names room)) front first r s rest other e u v m n

-- ---- texts

tokens_once : (text : List ℕ) (ts us : List Token) → HasTokens text ts → HasTokens text us → ts ≡ us
tokens_once text [] [] h k = refl
tokens_once text [] (u ∷ us) h (rest, is, k) = absurd (cc (ap token_at (sym h) ∙ is))
tokens_once text (t ∷ ts) [] (rest, is, h) k = absurd (cc (ap token_at (sym k) ∙ is))
tokens_once text (t ∷ ts) (u ∷ us) (rest, is, h) (other, at, k) =
    let pair = same_Some (t, rest) (u, other) (sym is ∙ at) in
    ap (λ p. p.0 ∷ ts) pair ∙ ap (λ l. u ∷ l) (tokens_once other ts us (subst (λ p. HasTokens p.1 ts) pair h) k)

pub formula_once : (o : Object) (text : List ℕ) (r s : Rule) → IsFormula o text r → IsFormula o text s → s ≡ r
formula_once o text r s f g =
    let tokens : g.tokens ≡ f.tokens = tokens_once text g.tokens f.tokens g.spelled f.spelled in
    (within_once (field_names o.fields) 64 g.tokens f.tokens s r [] [] (ap (λ l. l ++ []) tokens) refl refl g.read f.read).0
