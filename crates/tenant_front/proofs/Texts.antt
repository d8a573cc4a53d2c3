-- A text has one tree or one fault, and not both; so have all units.
use Rattle.std.proofs.Common.{◌≡◌, inl, inr, ℕ, List, [], ◌∷◌, sym, ap₂, ◌∙◌, subst}
use Rattle.apex_lexer.specs.Reading.{Shown}
use Rattle.apex_lexer.proofs.Readings.{only_tokens}
use Rattle.apex_syntax.specs.declared.unit.Unit.{Unit as Tree}
use Rattle.bundle_read.specs.declared.entries.UnitPlan.{UnitPlan}
use Rattle.fault_words.specs.declared.fault.Fault.{Fault}
use Rattle.token_grammar.specs.Notation.{Rule, Reads, Stops, span_at}
use Rattle.token_grammar.proofs.Laws.{reads_one, stops_one, apart}
use Rattle.tenant_units.specs.Faults.{Tells, IsBytesFault, IsTokensFault, IsFaultOf, IsTree, lex_word, parse_word}
use Rattle.tenant_units.specs.Trees.{unit_rule, AreUnits, IsFirstFault}
use Rattle.tenant_units.proofs.Places.{tells_one}

module _ {A : Type 0} (rule : List Shown → Rule A) (text : List ℕ) where
  pub tree_once : (x y : A) → IsTree rule text x → IsTree rule text y → y ≡ x
  tree_once x y t u =
      let same : u.tokens ≡ t.tokens = only_tokens text t.tokens u.tokens t.has u.has in
      let reads : Reads t.tokens (rule t.tokens) 0 y u.end = subst (λ l. Reads l (rule l) 0 y u.end) same u.reads in
      (reads_one t.tokens (rule t.tokens) 0 y x u.end t.end reads t.reads).0

  module _ (name : List ℕ) where
    bytes_once : (fault other : Fault) → IsBytesFault name text fault → IsBytesFault name text other → other ≡ fault
    bytes_once fault other f g =
        let e = f.refused.only g.word g.span.from g.span.to g.refused.fault in
        let moved : Tells name text f.span.from (lex_word g.word) other = subst (λ p. Tells name text p (lex_word g.word) other) e.1 g.tells in
        tells_one name text f.span.from (lex_word f.word) fault other f.tells (subst (λ w. Tells name text f.span.from (lex_word w) other) e.0 moved)

    tokens_fault_once : (fault other : Fault) → IsTokensFault rule name text fault → IsTokensFault rule name text other → other ≡ fault
    tokens_fault_once fault other f g =
        let same : g.tokens ≡ f.tokens = only_tokens text f.tokens g.tokens f.has g.has in
        let stops : Stops f.tokens (rule f.tokens) 0 g.word g.place = subst (λ l. Stops l (rule l) 0 g.word g.place) same g.stops in
        let e = stops_one f.tokens (rule f.tokens) 0 g.word f.word g.place f.place stops f.stops in
        let there : Tells name text (span_at f.tokens g.place).from (parse_word g.word) other = subst (λ l. Tells name text (span_at l g.place).from (parse_word g.word) other) same g.tells in
        let moved : Tells name text (span_at f.tokens f.place).from (parse_word g.word) other = subst (λ p. Tells name text (span_at f.tokens p).from (parse_word g.word) other) e.1 there in
        tells_one name text (span_at f.tokens f.place).from (parse_word f.word) fault other f.tells (subst (λ w. Tells name text (span_at f.tokens f.place).from (parse_word w) other) e.0 moved)

    pub fault_once : (fault other : Fault) → IsFaultOf rule name text fault → IsFaultOf rule name text other → other ≡ fault
    fault_once fault other (inl f) (inl g) = bytes_once fault other f g
    fault_once fault other (inl f) (inr g) = absurd (f.refused.none g.tokens g.has)
    fault_once fault other (inr f) (inl g) = absurd (g.refused.none f.tokens f.has)
    fault_once fault other (inr f) (inr g) = tokens_fault_once fault other f g

    pub tree_or_fault : (tree : A) (fault : Fault) → IsTree rule text tree → IsFaultOf rule name text fault → ⊥
    tree_or_fault tree fault t (inl f) = f.refused.none t.tokens t.has
    tree_or_fault tree fault t (inr f) =
        let same : f.tokens ≡ t.tokens = only_tokens text t.tokens f.tokens t.has f.has in
        apart t.tokens (rule t.tokens) 0 tree t.end f.word f.place t.reads (subst (λ l. Stops l (rule l) 0 f.word f.place) same f.stops)

-- ---- units

pub units_once : (ps : List UnitPlan) (trees others : List Tree) → AreUnits ps trees → AreUnits ps others → others ≡ trees
units_once [] trees others h k = k ∙ sym h
units_once (p ∷ ps) [] others h k = absurd h
units_once (p ∷ ps) (t ∷ trees) [] h k = absurd k
units_once (p ∷ ps) (t ∷ trees) (u ∷ others) h k = ap₂ (λ x l. x ∷ l) (tree_once unit_rule p.text t u h.0 k.0) (units_once ps trees others h.1 k.1)

pub unit_fault_once : (ps : List UnitPlan) (fault other : Fault) → IsFirstFault ps fault → IsFirstFault ps other → other ≡ fault
unit_fault_once [] fault other h k = absurd h
unit_fault_once (p ∷ ps) fault other (inl f) (inl g) = fault_once unit_rule p.text p.name fault other f g
unit_fault_once (p ∷ ps) fault other (inl f) (inr ((t, is), k)) = absurd (tree_or_fault unit_rule p.text p.name t fault is f)
unit_fault_once (p ∷ ps) fault other (inr ((t, is), h)) (inl g) = absurd (tree_or_fault unit_rule p.text p.name t other is g)
unit_fault_once (p ∷ ps) fault other (inr (t, h)) (inr (u, k)) = unit_fault_once ps fault other h k

pub units_or_fault : (ps : List UnitPlan) (trees : List Tree) (fault : Fault) → AreUnits ps trees → IsFirstFault ps fault → ⊥
units_or_fault [] trees fault h k = k
units_or_fault (p ∷ ps) [] fault h k = h
units_or_fault (p ∷ ps) (t ∷ trees) fault h (inl f) = tree_or_fault unit_rule p.text p.name t fault h.0 f
units_or_fault (p ∷ ps) (t ∷ trees) fault h (inr (u, k)) = units_or_fault ps trees fault h.1 k
