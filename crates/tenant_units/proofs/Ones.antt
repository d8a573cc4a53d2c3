-- A text has one tree or one fault, and not both.
use Rattle.std.proofs.Common.{◌≡◌, inl, inr, ⊎_elim, ℕ, List, sym, ap, subst}
use Rattle.apex_text.specs.declared.place.Span.{Span}
use Rattle.apex_lexer.specs.declared.lexeme.LexWord.{LexWord}
use Rattle.apex_lexer.specs.declared.token.Token.{Token}
use Rattle.apex_lexer.specs.Reading.{Shown, HasTokens, Refused as HasNoTokens}
use Rattle.apex_syntax.specs.declared.unit.Unit.{Unit as Tree}
use Rattle.fault_words.specs.declared.fault.Fault.{Fault}
use Rattle.token_grammar.specs.declared.fault.ParseWord.{ParseWord}
use Rattle.token_grammar.specs.Notation.{Rule, Reads, Stops, seen, span_at}
use Rattle.token_grammar.specs.Readings.{Refused}
use Rattle.apex_parse_stmt.specs.Units.{WholeUnit}
use Rattle.token_grammar.proofs.Laws.{reads_one, stops_one, apart}
use Rattle.tenant_units.specs.declared.fault.UnitFault.{UnitFault}
use Rattle.tenant_units.specs.declared.fault.UnitFault.TheVariants.{Wrong, NoMemory}
use Rattle.tenant_units.specs.Faults.{Tells, IsTold, IsBytesFault, IsTokensFault, IsFaultOf, IsTree, OnlyTree, OnlyFault, NoTree, lex_word, parse_word}
use Rattle.tenant_units.proofs.Places.{tells_one}

-- ---- a text that has tokens

module _ (rule : List Shown → Rule Tree) (name text : List ℕ) (tokens : List Shown) (has : HasTokens text tokens) (one : (other : List Shown) → HasTokens text other → other ≡ tokens) where
  no_bytes : (fault : Fault) → IsBytesFault name text fault → ⊥
  no_bytes fault f = f.refused.none tokens has

  read_here : (tree : Tree) (t : IsTree rule text tree) → Reads tokens (rule tokens) 0 tree t.end
  read_here tree t = subst (λ l. Reads l (rule l) 0 tree t.end) (one t.tokens t.has) t.reads

  stops_here : (fault : Fault) (f : IsTokensFault rule name text fault) → Stops tokens (rule tokens) 0 f.word f.place
  stops_here fault f = subst (λ l. Stops l (rule l) 0 f.word f.place) (one f.tokens f.has) f.stops

  tells_here : (fault : Fault) (f : IsTokensFault rule name text fault) → Tells name text (span_at tokens f.place).from (parse_word f.word) fault
  tells_here fault f = subst (λ l. Tells name text (span_at l f.place).from (parse_word f.word) fault) (one f.tokens f.has) f.tells

  pub one_tree : (tree : Tree) (end : ℕ) → Reads tokens (rule tokens) 0 tree end → OnlyTree rule name text tree
  one_tree tree end reads = (
    (λ other t. (reads_one tokens (rule tokens) 0 other tree t.end end (read_here other t) reads).0),
    (λ fault f. ⊎_elim (no_bytes fault) (λ k. apart tokens (rule tokens) 0 tree end k.word k.place reads (stops_here fault k)) f),
  )

  module _ (word : ParseWord) (place : ℕ) (stops : Stops tokens (rule tokens) 0 word place) where
    same_fault : (fault other : Fault) → Tells name text (span_at tokens place).from (parse_word word) fault → IsTokensFault rule name text other → other ≡ fault
    same_fault fault other tells k =
        let e = stops_one tokens (rule tokens) 0 k.word word k.place place (stops_here other k) stops in
        let moved : Tells name text (span_at tokens place).from (parse_word k.word) other = subst (λ p. Tells name text (span_at tokens p).from (parse_word k.word) other) e.1 (tells_here other k) in
        let named : Tells name text (span_at tokens place).from (parse_word word) other = subst (λ w. Tells name text (span_at tokens place).from (parse_word w) other) e.0 moved in
        tells_one name text (span_at tokens place).from (parse_word word) fault other tells named

    pub no_tree : (f : UnitFault) → IsTold name text (span_at tokens place).from (parse_word word) f → NoTree rule name text f
    no_tree (Wrong fault) h = inr (record { tokens = tokens; has = has; word = word; place = place; stops = stops; tells = h })
    no_tree NoMemory h = tt

    pub one_fault : (f : UnitFault) → IsTold name text (span_at tokens place).from (parse_word word) f → OnlyFault rule name text f
    one_fault (Wrong fault) h = (
      (λ other f. ⊎_elim (λ k. absurd (no_bytes other k)) (λ k. same_fault fault other h k) f),
      (λ tree t. apart tokens (rule tokens) 0 tree t.end word place (read_here tree t) stops),
    )
    one_fault NoMemory h = tt

module _ (rule : List Shown → Rule Tree) (name text : List ℕ) (tokens : List Token) (has : HasTokens text (seen tokens)) (one : (other : List Shown) → HasTokens text other → other ≡ seen tokens) where
  pub whole_tree : (tree : Tree) → WholeUnit tokens (rule (seen tokens)) tree → IsTree rule text tree
  whole_tree tree w = record { tokens = seen tokens; has = has; end = w.end; reads = w.found.reads }

  pub whole_only : (tree : Tree) → WholeUnit tokens (rule (seen tokens)) tree → OnlyTree rule name text tree
  whole_only tree w = one_tree rule name text (seen tokens) has one tree w.end w.found.reads

  module _ (word : ParseWord) (span : Span) (h : Refused tokens (rule (seen tokens)) 0 word span) (f : UnitFault) (told : IsTold name text span.from (parse_word word) f) where
    told_there : IsTold name text (span_at (seen tokens) h.place).from (parse_word word) f
    told_there = subst (λ s. IsTold name text s.from (parse_word word) f) h.is_span told

    pub refused_tree : NoTree rule name text f
    refused_tree = no_tree rule name text (seen tokens) has one word h.place h.stops f told_there

    pub refused_only : OnlyFault rule name text f
    refused_only = one_fault rule name text (seen tokens) has one word h.place h.stops f told_there

-- ---- a text that has none

module _ (rule : List Shown → Rule Tree) (name text : List ℕ) (word : LexWord) (span : Span) (refused : HasNoTokens text word span) where
  same_bytes : (fault other : Fault) → Tells name text span.from (lex_word word) fault → IsBytesFault name text other → other ≡ fault
  same_bytes fault other tells k =
      let e = refused.only k.word k.span.from k.span.to k.refused.fault in
      let moved : Tells name text span.from (lex_word k.word) other = subst (λ p. Tells name text p (lex_word k.word) other) e.1 k.tells in
      let named : Tells name text span.from (lex_word word) other = subst (λ w. Tells name text span.from (lex_word w) other) e.0 moved in
      tells_one name text span.from (lex_word word) fault other tells named

  pub no_tokens : (f : UnitFault) → IsTold name text span.from (lex_word word) f → NoTree rule name text f
  no_tokens (Wrong fault) h = inl (record { word = word; span = span; refused = refused; tells = h })
  no_tokens NoMemory h = tt

  pub no_tokens_only : (f : UnitFault) → IsTold name text span.from (lex_word word) f → OnlyFault rule name text f
  no_tokens_only (Wrong fault) h = ((λ other f. ⊎_elim (λ k. same_bytes fault other h k) (λ k. absurd (refused.none k.tokens k.has)) f), (λ tree t. refused.none t.tokens t.has))
  no_tokens_only NoMemory h = tt
