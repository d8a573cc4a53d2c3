-- Formulas with commas between them.
use Rattle.std.proofs.lemmas.List.{append-nil}
use Rattle.std.proofs.Common.{◌≡◌, ℕ, true, false, List, [], ◌∷◌, ◌++◌, drop, Ok, Err, refl, sym, ap, ◌∙◌, subst, append_assoc}
use Rattle.formula_rules.specs.declared.fault.RuleFault.{RuleFault}
use Rattle.formula_rules.specs.declared.token.Token.{Token}
use Rattle.formula_rules.specs.declared.token.Token.TheVariants.{Comma}
use Rattle.formula_rules.specs.Grammar.{Each}
use Rattle.formula_rules.specs.Readings.{is_unopened, is_closed, is_comma, Told}
use Rattle.formula_rules.proofs.Told.{fails, denied, unopened}

-- more items, each behind a comma
abbrev Behind : {A : Type 0} → (List Token → A → Type 0) → List Token → List A → Type 0
Behind means tokens [] = tokens ≡ []
Behind means tokens (x ∷ xs) = (first : List Token) × (rest : List Token) × (tokens ≡ Comma ∷ (first ++ rest)) × means first x × Behind means rest xs

-- items with commas between them are an item, and items each behind a comma
pub parted : {A : Type 0} (means : List Token → A → Type 0) (tokens : List Token) (x : A) (xs : List A) → Each means tokens (x ∷ xs)
    → (first : List Token) × (rest : List Token) × (tokens ≡ first ++ rest) × means first x × Behind means rest xs
parted means tokens x [] m = (tokens, [], sym (append-nil tokens), m, refl)
parted means tokens x (y ∷ xs) (first, rest, is, m, more) =
    let p = parted means rest y xs more in
    (first, Comma ∷ rest, is, m, (p.0, p.1, ap (λ l. Comma ∷ l) p.2, p.3, p.4))

pub joined : {A : Type 0} (means : List Token → A → Type 0) (first rest : List Token) (x : A) (xs : List A) → means first x → Behind means rest xs → Each means (first ++ rest) (x ∷ xs)
joined means first rest x [] m is = subst (λ l. means (first ++ l) x) (sym is) (subst (λ l. means l x) (sym (append-nil first)) m)
joined means first rest x (y ∷ xs) m (next, more, is, n, o) =
    (first, next ++ more, ap (λ l. first ++ l) is, m, joined means next more y xs n o)

behind_more : {A : Type 0} (means : List Token → A → Type 0) (more next : List Token) (xs : List A) (y : A) → Behind means more xs → means next y → Behind means (more ++ Comma ∷ next) (xs ++ y ∷ [])
behind_more means more next [] y is m =
    (next, [], ap (λ l. l ++ Comma ∷ next) is ∙ ap (λ l. Comma ∷ l) (sym (append-nil next)), m, refl)
behind_more means more next (x ∷ xs) y (first, rest, is, n, o) m =
    (first, rest ++ Comma ∷ next, ap (λ l. l ++ Comma ∷ next) is ∙ ap (λ l. Comma ∷ l) (append_assoc first rest (Comma ∷ next)), n, behind_more means rest next xs y o m)

-- what is behind an item is no `(`
behind_unopened : {A : Type 0} (means : List Token → A → Type 0) (more rest : List Token) (xs : List A) → Behind means more xs → is_closed rest ≡ true → is_unopened (more ++ rest) ≡ true
behind_unopened means more rest [] is u = ap (λ l. is_unopened (l ++ rest)) is ∙ unopened rest u
behind_unopened means more rest (x ∷ xs) (first, other, is, n, o) u = ap (λ l. is_unopened (l ++ rest)) is

-- from one place to another stand these, the first of them without a comma; and whatever stands from the first place on begins with them
pub record SoFar {A : Type 0} (means : List Token → A → Type 0) (tokens : List Token) (at : ℕ) (done : List A) (end : ℕ) : Type 0 where
  pub first : List Token
  pub more : List Token
  pub x : A
  pub xs : List A
  pub are : done ≡ x ∷ xs
  pub spelled : drop at tokens ≡ (first ++ more) ++ drop end tokens
  pub one : means first x
  pub others : Behind means more xs
  pub gives : (front rest : List Token) (ys : List A) → drop at tokens ≡ front ++ rest → is_closed rest ≡ true → Each means front ys
      → (left : List Token) × (zs : List A) × (ys ≡ done ++ zs) × (drop end tokens ≡ left ++ rest) × Behind means left zs

module _ {A : Type 0} (means : List Token → A → Type 0) (tokens : List Token) (at : ℕ) where
  each_parted : (front rest : List Token) (ys : List A) → drop at tokens ≡ front ++ rest → Each means front ys
      → (y : A) × (zs : List A) × (first : List Token) × (more : List Token) × (ys ≡ y ∷ zs) × (drop at tokens ≡ first ++ (more ++ rest)) × means first y × Behind means more zs
  each_parted front rest [] e m = absurd m
  each_parted front rest (y ∷ zs) e m =
      let p = parted means front y zs m in
      (y, zs, p.0, p.1, refl, e ∙ ap (λ l. l ++ rest) p.2 ∙ append_assoc p.0 p.1 rest, p.3, p.4)

  pub none_first : (fault : RuleFault) → Told means is_unopened tokens at (Err fault) → Told (Each means) is_closed tokens at (Err fault)
  none_first fault t = fails (Each means) is_closed tokens at fault (λ front rest ys bad e u m.
      let p = each_parted front rest ys e m in
      denied means is_unopened tokens at fault t bad p.2 (p.3 ++ rest) p.0 p.5 (behind_unopened means p.3 rest p.1 p.7 u) p.6)

  pub begun : (x : A) (end : ℕ) → Told means is_unopened tokens at (Ok (x, end)) → SoFar means tokens at (x ∷ []) end
  begun x end t = record {
    first = t.reads.0;
    more = [];
    x = x;
    xs = [];
    are = refl;
    spelled = t.reads.1 ∙ ap (λ l. l ++ drop end tokens) (sym (append-nil t.reads.0));
    one = t.reads.2;
    others = refl;
    gives = λ front rest ys e u m.
        let p = each_parted front rest ys e m in
        let g = t.gives p.2 (p.3 ++ rest) p.0 p.5 (behind_unopened means p.3 rest p.1 p.7 u) p.6 in
        (p.3, p.1, p.4 ∙ ap (λ y. y ∷ p.1) g.0, sym g.1, p.7);
  }

  module _ (done : List A) (end : ℕ) (s : SoFar means tokens at done end) where
    -- where a comma stands, one more item stands behind it
    next_of : (behind : ℕ) → drop end tokens ≡ Comma ∷ drop behind tokens → (left rest : List Token) (zs : List A) → drop end tokens ≡ left ++ rest → is_closed rest ≡ true → Behind means left zs
        → (z : A) × (more : List A) × (first : List Token) × (other : List Token) × (zs ≡ z ∷ more) × (drop behind tokens ≡ first ++ (other ++ rest)) × means first z × Behind means other more
    next_of behind comma left rest [] e u is =
        let closed : is_closed (drop end tokens) ≡ is_closed rest = ap is_closed e ∙ ap (λ l. is_closed (l ++ rest)) is in
        let open' : is_closed (drop end tokens) ≡ false = ap is_closed comma in absurd (cc)
    next_of behind comma left rest (z ∷ more) e u (first, other, is, m, o) =
        let h : Comma ∷ drop behind tokens ≡ Comma ∷ ((first ++ other) ++ rest) = sym comma ∙ e ∙ ap (λ l. l ++ rest) is in
        let same : drop behind tokens ≡ (first ++ other) ++ rest = cc h in
        (z, more, first, other, refl, same ∙ append_assoc first other rest, m, o)

    pub none_next : (behind : ℕ) → drop end tokens ≡ Comma ∷ drop behind tokens → (fault : RuleFault) → Told means is_unopened tokens behind (Err fault) → Told (Each means) is_closed tokens at (Err fault)
    none_next behind comma fault t = fails (Each means) is_closed tokens at fault (λ front rest ys bad e u m.
        let g = s.gives front rest ys e u m in
        let n = next_of behind comma g.0 rest g.1 g.3 u g.4 in
        denied means is_unopened tokens behind fault t bad n.2 (n.3 ++ rest) n.0 n.5 (behind_unopened means n.3 rest n.1 n.7 u) n.6)

    pub one_more : (behind : ℕ) → drop end tokens ≡ Comma ∷ drop behind tokens → (x : A) (next : ℕ) → Told means is_unopened tokens behind (Ok (x, next)) → SoFar means tokens at (done ++ x ∷ []) next
    one_more behind comma x next t =
        let front = t.reads.0 in record {
          first = s.first;
          more = s.more ++ Comma ∷ front;
          x = s.x;
          xs = s.xs ++ x ∷ [];
          are = ap (λ l. l ++ x ∷ []) s.are;
          spelled = s.spelled ∙ ap (λ l. (s.first ++ s.more) ++ l) (comma ∙ ap (λ l. Comma ∷ l) t.reads.1)
              ∙ sym (append_assoc (s.first ++ s.more) (Comma ∷ front) (drop next tokens)) ∙ ap (λ l. l ++ drop next tokens) (append_assoc s.first s.more (Comma ∷ front));
          one = s.one;
          others = behind_more means s.more front s.xs x s.others t.reads.2;
          gives = λ front rest ys e u m.
              let g = s.gives front rest ys e u m in
              let n = next_of behind comma g.0 rest g.1 g.3 u g.4 in
              let h = t.gives n.2 (n.3 ++ rest) n.0 n.5 (behind_unopened means n.3 rest n.1 n.7 u) n.6 in
              (n.3, n.1, g.2 ∙ ap (λ l. done ++ l) (n.4 ∙ ap (λ y. y ∷ n.1) h.0) ∙ sym (append_assoc done (x ∷ []) n.1), sym h.1, n.7);
        }

    -- where no comma stands, that is all
    last_of : is_comma (drop end tokens) ≡ false → (left rest : List Token) (zs : List A) → drop end tokens ≡ left ++ rest → Behind means left zs → (zs ≡ []) × (rest ≡ drop end tokens)
    last_of bare left rest [] e is = (refl, sym (e ∙ ap (λ l. l ++ rest) is))
    last_of bare left rest (z ∷ more) e (first, other, is, m, o) =
        let yes : is_comma (drop end tokens) ≡ true = ap is_comma e ∙ ap (λ l. is_comma (l ++ rest)) is in absurd (cc)

    pub ended : is_comma (drop end tokens) ≡ false → Told (Each means) is_closed tokens at (Ok (done, end))
    ended bare = record {
      reads = (s.first ++ s.more, s.spelled, subst (λ l. Each means (s.first ++ s.more) l) (sym s.are) (joined means s.first s.more s.x s.xs s.one s.others));
      gives = λ front rest ys e u m.
          let g = s.gives front rest ys e u m in
          let l = last_of bare g.0 rest g.1 g.3 g.4 in
          (g.2 ∙ ap (λ zs. done ++ zs) l.0 ∙ append-nil done, l.1);
    }
