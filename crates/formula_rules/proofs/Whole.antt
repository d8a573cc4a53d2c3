-- Readings of all tokens, and of a whole text.
use Rattle.std.proofs.lemmas.List.{append-nil, length-drop, drop_all}
use Rattle.std.proofs.lemmas.Option.{same_Some}
use Rattle.std.proofs.Common.{arith, ◌≡◌, ◌≤◌, ◌<◌, ℕ, true, false, IsTrue, List, [], ◌∷◌, ◌++◌, length, drop, Ok, Err, refl, sym, ap, ◌∙◌, subst}
use Rattle.apex_schema.specs.declared.schema.Object.{Object}
use Rattle.apex_schema.specs.declared.rule.Rule.{Rule}
use Rattle.schema_plans.specs.Formulas.{rule_fits}
use Rattle.formula_rules.specs.declared.fault.RuleFault.{RuleFault}
use Rattle.formula_rules.specs.declared.fault.RuleFault.TheVariants.{BadRule, NoMemory}
use Rattle.formula_rules.specs.declared.token.Token.{Token}
use Rattle.formula_rules.specs.Tokens.{token_at, HasTokens}
use Rattle.formula_rules.specs.Grammar.{field_names, IsFormulaWithin, IsFormula}
use Rattle.formula_rules.specs.Readings.{is_unopened, Told, IsWhole, AreTokens}

module _ {A : Type 0} (means : List Token → A → Type 0) (tokens : List Token) where
  pub all_read : (x : A) (end : ℕ) → Told means is_unopened tokens 0 (Ok (x, end)) → length tokens ≤ end → IsWhole means tokens (Ok x)
  all_read x end t long =
      let none : drop end tokens ≡ [] = drop_all end tokens long in
      let front = t.reads.0 in
      let same : tokens ≡ front = t.reads.1 ∙ ap (λ l. front ++ l) none ∙ append-nil front in
      (subst (λ l. means l x) (sym same) t.reads.2, λ y m. (t.gives tokens [] y (sym (append-nil tokens)) refl m).0)

  pub rest_left : (x : A) (end : ℕ) → Told means is_unopened tokens 0 (Ok (x, end)) → end < length tokens → IsWhole means tokens (Err BadRule)
  rest_left x end t short = λ y m.
      let g = t.gives tokens [] y (sym (append-nil tokens)) refl m in
      let l : 0 ≡ length (drop end tokens) = ap length g.1 in
      absurd (omega (arith, length-drop end tokens))

  pub not_read : (fault : RuleFault) → Told means is_unopened tokens 0 (Err fault) → IsWhole means tokens (Err fault)
  not_read BadRule t = λ y m. t.gives tokens [] y (sym (append-nil tokens)) refl m
  not_read NoMemory t = tt

-- a text has one list of tokens
pub tokens_one : (text : List ℕ) (ts us : List Token) → HasTokens text ts → HasTokens text us → ts ≡ us
tokens_one text [] [] h k = refl
tokens_one text [] (u ∷ us) h (rest, is, k) = absurd (cc (ap token_at (sym h) ∙ is))
tokens_one text (t ∷ ts) [] (rest, is, h) k = absurd (cc (ap token_at (sym k) ∙ is))
tokens_one text (t ∷ ts) (u ∷ us) (rest, is, h) (other, is', k) =
    let pair = same_Some (t, rest) (u, other) (sym is ∙ is') in
    ap (λ p. p.0 ∷ ts) pair ∙ ap (λ l. u ∷ l) (tokens_one other ts us (subst (λ p. HasTokens p.1 ts) pair h) k)

module _ (object : Object) (text : List ℕ) (tokens : List Token) (spelled : HasTokens text tokens) where
  -- a formula of the text is one of these tokens
  read_of : (r : Rule) → IsFormula object text r → IsFormulaWithin (field_names object.fields) 64 tokens r
  read_of r f = subst (λ ts. IsFormulaWithin (field_names object.fields) 64 ts r) (tokens_one text f.tokens tokens f.spelled spelled) f.read

  pub reads : (names : List (List ℕ)) → names ≡ field_names object.fields → (r : Rule) → IsWhole (IsFormulaWithin names 64) tokens (Ok r) → IsTrue (rule_fits object.fields r) → IsFormula object text r
  reads names is r w fits = record { tokens = tokens; spelled = spelled; read = subst (λ n. IsFormulaWithin n 64 tokens r) is w.0; fits = fits }

  pub only : (names : List (List ℕ)) → names ≡ field_names object.fields → (r : Rule) → IsWhole (IsFormulaWithin names 64) tokens (Ok r) → (other : Rule) → IsFormula object text other → other ≡ r
  only names is r w other f = w.1 other (subst (λ n. IsFormulaWithin n 64 tokens other) (sym is) (read_of other f))

  pub unread : (names : List (List ℕ)) → names ≡ field_names object.fields → (fault : RuleFault) → IsWhole (IsFormulaWithin names 64) tokens (Err fault) → fault ≡ BadRule → (r : Rule) → IsFormula object text r → ⊥
  unread names is BadRule w bad r f = w r (subst (λ n. IsFormulaWithin n 64 tokens r) (sym is) (read_of r f))
  unread names is NoMemory w bad r f = absurd (cc)

  pub unfit : (names : List (List ℕ)) → names ≡ field_names object.fields → (r : Rule) → IsWhole (IsFormulaWithin names 64) tokens (Ok r) → rule_fits object.fields r ≡ false → (other : Rule) → IsFormula object text other → ⊥
  unfit names is r w bad other f =
      let same : rule_fits object.fields other ≡ rule_fits object.fields r = ap (rule_fits object.fields) (only names is r w other f) in
      let fits : rule_fits object.fields other ≡ true = f.fits in absurd (cc)

pub unspelled : (object : Object) (text : List ℕ) (fault : RuleFault) → AreTokens text (Err fault) → fault ≡ BadRule → (r : Rule) → IsFormula object text r → ⊥
unspelled object text BadRule h bad r f = h f.tokens f.spelled
unspelled object text NoMemory h bad r f = absurd (cc)
