-- A text is read in one way.
use Rattle.std.proofs.Common.{arith, ◌≡◌, ⊎_elim, inl, inr, ◌+◌, ◌-◌, ◌<◌, ◌≤◌, ℕ, suc, Bool, true, false, List, [], ◌∷◌, ◌++◌, length, take, drop, map, Option, Some, refl, sym, ap, ◌∙◌, subst, append_assoc, append-nil, length-drop}
use Rattle.std.specs.Str.{IsUtf8, IsValidUpTo}
use Rattle.std.proofs.lemmas.List.{map-append}
use Rattle.std.proofs.Math.Seq.{take-length}
use Rattle.std.proofs.lemmas.Bool.Decides.{leb_tells}
use Rattle.civil_dates.specs.Texts.{date_value, moment_value}
use Rattle.apex_lexer.specs.declared.token.TokenKind.TheVariants.{Date, Moment}
use Rattle.apex_lexer.specs.declared.token.Token.{Token}
use Rattle.apex_lexer.specs.declared.lexeme.LexWord.{LexWord}
use Rattle.apex_lexer.specs.declared.lexeme.Lexeme.{Lexeme}
use Rattle.apex_lexer.specs.declared.lexeme.Lexeme.TheVariants.{Apart, Says, Wrong}
use Rattle.apex_text.specs.declared.place.Span.{Span}
use Rattle.apex_lexer.specs.declared.lexer.Fault.{Fault}
use Rattle.apex_lexer.specs.declared.lexer.Step.TheVariants as Step
use Rattle.apex_lexer.specs.Lexemes.{plain, DateSays, MomentSays, Dated, Spells}
use Rattle.apex_lexer.specs.Brackets.{inside}
use Rattle.apex_lexer.specs.Reading.{Piece, IsFirst, Reads, Shown, shown, said, tokens_of, IsSound, AreSound, end_at, HasTokens, HasFault, Slices, Rise, EndsLast, Refused}
use Rattle.apex_lexer.specs.Passes.{NoEnds, Faulty, Gives, SoFar, Breaks, HasAll}
use Rattle.apex_lexer.proofs.Dates.{dated_begins}

some_is : {A : Type 0} (o : Option A) (a b : A) → o ≡ Some a → o ≡ Some b → a ≡ b
some_is o a b e f = let g : Some a ≡ Some b = sym e ∙ f in cc

date_once : (bytes : List ℕ) (a b : Lexeme) → DateSays bytes a → DateSays bytes b → a ≡ b
date_once bytes a b x y =
    ⊎_elim
    (λ p. ⊎_elim (λ q. p.2 ∙ ap (λ n. Says (Date n)) (some_is (date_value bytes) p.0 q.0 p.1 q.1) ∙ sym q.2) (λ q. absurd (q.0 p.0 p.1)) y)
    (λ p. ⊎_elim (λ q. absurd (p.0 q.0 q.1)) (λ q. p.1 ∙ sym q.1) y)
    x

moment_once : (bytes : List ℕ) (a b : Lexeme) → MomentSays bytes a → MomentSays bytes b → a ≡ b
moment_once bytes a b x y =
    ⊎_elim
    (λ p. ⊎_elim (λ q. p.2 ∙ ap (λ n. Says (Moment n)) (some_is (moment_value bytes) p.0 q.0 p.1 q.1) ∙ sym q.2) (λ q. absurd (q.0 p.0 p.1)) y)
    (λ p. ⊎_elim (λ q. absurd (p.0 q.0 q.1)) (λ q. p.1 ∙ sym q.1) y)
    x

dated_once : (bytes : List ℕ) (a b : Lexeme) → Dated bytes a → Dated bytes b → a ≡ b
dated_once bytes a b x y =
    ⊎_elim
    (λ p. ⊎_elim (λ q. date_once bytes a b p.2 q.2) (λ q. let m = p.0 in let n = q.0 in absurd (omega arith)) y)
    (λ p. ⊎_elim (λ q. let m = p.0 in let n = q.0 in absurd (omega arith)) (λ q. moment_once bytes a b p.2 q.2) y)
    x

spells_once : (dates : Bool) (bytes : List ℕ) (a b : Lexeme) → Spells dates bytes a → Spells dates bytes b → a ≡ b
spells_once false bytes a b x y = some_is (plain bytes) a b x y
spells_once true bytes a b x y =
    ⊎_elim
    (λ p. ⊎_elim (λ q. dated_once bytes a b p q) (λ q. absurd (q.0 (dated_begins bytes a p))) y)
    (λ p. ⊎_elim (λ q. absurd (p.0 (dated_begins bytes b q))) (λ q. some_is (plain bytes) a b p.1 q.1) y)
    x

first_once : (dates : Bool) (text : List ℕ) (m n : ℕ) (a b : Lexeme) → IsFirst dates text m a → IsFirst dates text n b → (m ≡ n) × (a ≡ b)
first_once dates text m n a b x y =
    ⊎_elim
    (λ h. absurd (x.longest n b (let l = h.1 in omega arith) y.within y.spells))
    (λ h. ⊎_elim
    (λ g. absurd (y.longest m a (let l = g.1 in omega arith) x.within x.spells))
    (λ g. let e : m ≡ n = let l = g.1 in let k = h.1 in omega arith in (e, spells_once dates (take n text) a b (subst (λ k. Spells dates (take k text) a) e x.spells) y.spells))
    (leb_tells (suc n) m))
    (leb_tells (suc m) n)

nothing_left : (dates : Bool) (text : List ℕ) (at n : ℕ) (a : Lexeme) → length text ≤ at → IsFirst dates (drop at text) n a → ⊥
nothing_left dates text at n a le f = let l = length-drop at text in let s = f.some in let w = f.within in absurd (omega arith)

piece_is : (p q : Piece) → p.size ≡ q.size → p.lexeme ≡ q.lexeme → p ≡ q
piece_is p q e f = λ i. record { size = e i; lexeme = f i }

whole_once : (text : List ℕ) (at : ℕ) (ps qs : List Piece) → Reads text at ps (length text) → Reads text at qs (length text) → ps ≡ qs
whole_once text at [] [] r s = refl
whole_once text at [] (q ∷ qs) r s = absurd (nothing_left (inside text at) text at q.size q.lexeme (omega arith) s.0)
whole_once text at (p ∷ ps) [] r s = absurd (nothing_left (inside text at) text at p.size p.lexeme (omega arith) r.0)
whole_once text at (p ∷ ps) (q ∷ qs) r s =
    let e = first_once (inside text at) (drop at text) p.size q.size p.lexeme q.lexeme r.0 s.0 in
    ap (λ x. x ∷ ps) (piece_is p q e.0 e.1) ∙ ap (λ l. q ∷ l) (whole_once text (at + q.size) ps qs (subst (λ n. Reads text (at + n) ps (length text)) e.0 r.1) s.1)

unsound : (a : Lexeme) (word : LexWord) (low high : ℕ) → a ≡ Wrong word low high → IsSound a → ⊥
unsound a word low high e s = subst IsSound e s

-- behind sound pieces a fault stands
record Stops (text : List ℕ) (at : ℕ) (word : LexWord) (from to : ℕ) : Type 0 where
  pub size : ℕ
  pub low : ℕ
  pub high : ℕ
  pub first : IsFirst (inside text at) (drop at text) size (Wrong word low high)
  pub is_from : from ≡ at + low
  pub is_to : to ≡ at + high

fault_not_whole : (text : List ℕ) (at : ℕ) (ps qs : List Piece) (stop : ℕ) (word : LexWord) (from to : ℕ) → Reads text at ps stop → AreSound ps → Stops text stop word from to → Reads text at qs (length text) → AreSound qs → ⊥
fault_not_whole text at [] [] stop word from to r a f s b = nothing_left (inside text stop) text stop f.size (Wrong word f.low f.high) (omega arith) f.first
fault_not_whole text at [] (q ∷ qs) stop word from to r a f s b =
    let here : IsFirst (inside text at) (drop at text) f.size (Wrong word f.low f.high) = subst (λ n. IsFirst (inside text n) (drop n text) f.size (Wrong word f.low f.high)) (sym r) f.first in
    let e = first_once (inside text at) (drop at text) q.size f.size q.lexeme (Wrong word f.low f.high) s.0 here in
    unsound q.lexeme word f.low f.high e.1 b.0
fault_not_whole text at (p ∷ ps) [] stop word from to r a f s b = nothing_left (inside text at) text at p.size p.lexeme (omega arith) r.0
fault_not_whole text at (p ∷ ps) (q ∷ qs) stop word from to r a f s b =
    let e = first_once (inside text at) (drop at text) p.size q.size p.lexeme q.lexeme r.0 s.0 in
    fault_not_whole text (at + q.size) ps qs stop word from to (subst (λ n. Reads text (at + n) ps stop) e.0 r.1) a.1 f s.1 b.1

-- which word a fault has, and where it stands
abbrev pub Same : LexWord → ℕ → ℕ → LexWord → ℕ → ℕ → Type 0
Same word from to other a b = (other ≡ word) × (a ≡ from) × (b ≡ to)

parts : (v w : LexWord) (a b c d : ℕ) → Wrong v a b ≡ Wrong w c d → (v ≡ w) × (a ≡ c) × (b ≡ d)
parts v w a b c d e = (cc, cc, cc)

fault_once : (text : List ℕ) (at : ℕ) (ps qs : List Piece) (stop end : ℕ) (word other : LexWord) (from to a b : ℕ) → Reads text at ps stop → AreSound ps → Stops text stop word from to → Reads text at qs end → AreSound qs → Stops text end other a b → Same word from to other a b
fault_once text at [] [] stop end word other from to a b r x f s y g =
    let one : stop ≡ end = sym r ∙ s in
    let e = first_once (inside text end) (drop end text) f.size g.size (Wrong word f.low f.high) (Wrong other g.low g.high) (subst (λ n. IsFirst (inside text n) (drop n text) f.size (Wrong word f.low f.high)) one f.first) g.first in
    let p = parts word other f.low f.high g.low g.high e.1 in
    let m = p.1 in let n = p.2 in let i = f.is_from in let j = g.is_from in let k = f.is_to in let l = g.is_to in
    (sym p.0, omega arith, omega arith)
fault_once text at [] (q ∷ qs) stop end word other from to a b r x f s y g =
    let here : IsFirst (inside text at) (drop at text) f.size (Wrong word f.low f.high) = subst (λ n. IsFirst (inside text n) (drop n text) f.size (Wrong word f.low f.high)) (sym r) f.first in
    let e = first_once (inside text at) (drop at text) q.size f.size q.lexeme (Wrong word f.low f.high) s.0 here in
    absurd (unsound q.lexeme word f.low f.high e.1 y.0)
fault_once text at (p ∷ ps) [] stop end word other from to a b r x f s y g =
    let here : IsFirst (inside text at) (drop at text) g.size (Wrong other g.low g.high) = subst (λ n. IsFirst (inside text n) (drop n text) g.size (Wrong other g.low g.high)) (sym s) g.first in
    let e = first_once (inside text at) (drop at text) p.size g.size p.lexeme (Wrong other g.low g.high) r.0 here in
    absurd (unsound p.lexeme other g.low g.high e.1 x.0)
fault_once text at (p ∷ ps) (q ∷ qs) stop end word other from to a b r x f s y g =
    let e = first_once (inside text at) (drop at text) p.size q.size p.lexeme q.lexeme r.0 s.0 in
    fault_once text (at + q.size) ps qs stop end word other from to a b (subst (λ n. Reads text (at + n) ps stop) e.0 r.1) x.1 f s.1 y.1 g

stops : (text : List ℕ) (word : LexWord) (from to : ℕ) (f : HasFault text word from to) → Stops text f.at word from to
stops text word from to f = record { size = f.size; low = f.low; high = f.high; first = f.first; is_from = f.is_from; is_to = f.is_to }

pub one_fault : (text : List ℕ) (word other : LexWord) (from to a b : ℕ) → HasFault text word from to → HasFault text other a b → Same word from to other a b
one_fault text word other from to a b f g =
    fault_once text 0 f.pieces g.pieces f.at g.at word other from to a b f.reads f.sound (stops text word from to f) g.reads g.sound (stops text other a b g)

pub no_tokens : (text : List ℕ) (word : LexWord) (from to : ℕ) → HasFault text word from to → (tokens : List Shown) → HasTokens text tokens → ⊥
no_tokens text word from to f tokens h = fault_not_whole text 0 f.pieces h.pieces f.at word from to f.reads f.sound (stops text word from to f) h.reads h.sound

pub only_tokens : (text : List ℕ) (tokens others : List Shown) → HasTokens text tokens → HasTokens text others → others ≡ tokens
only_tokens text tokens others h g =
    g.are ∙ ap (λ ps. tokens_of text 0 ps ++ end_at (length text) ∷ []) (whole_once text 0 g.pieces h.pieces g.reads h.reads) ∙ sym h.are

-- ---- one piece more

reads_more : (text : List ℕ) (a at : ℕ) (ps : List Piece) (p : Piece) → Reads text a ps at → IsFirst (inside text at) (drop at text) p.size p.lexeme → Reads text a (ps ++ p ∷ []) (at + p.size)
reads_more text a at [] p r f = (subst (λ n. IsFirst (inside text n) (drop n text) p.size p.lexeme) (sym r) f, ap (λ n. n + p.size) r)
reads_more text a at (q ∷ ps) p r f = (r.0, reads_more text (a + q.size) at ps p r.1 f)

tokens_more : (text : List ℕ) (a at : ℕ) (ps : List Piece) (p : Piece) → Reads text a ps at → tokens_of text a (ps ++ p ∷ []) ≡ tokens_of text a ps ++ said p.lexeme at p.size (take p.size (drop at text))
tokens_more text a at [] p r = append-nil (said p.lexeme a p.size (take p.size (drop a text))) ∙ ap (λ n. said p.lexeme n p.size (take p.size (drop n text))) r
tokens_more text a at (q ∷ ps) p r =
    ap (λ l. said q.lexeme a q.size (take q.size (drop a text)) ++ l) (tokens_more text (a + q.size) at ps p r.1)
    ∙ sym (append_assoc (said q.lexeme a q.size (take q.size (drop a text))) (tokens_of text (a + q.size) ps) (said p.lexeme at p.size (take p.size (drop at text))))

sound_more : (ps : List Piece) (p : Piece) → AreSound ps → IsSound p.lexeme → AreSound (ps ++ p ∷ [])
sound_more [] p a s = (s, tt)
sound_more (q ∷ ps) p a s = (a.0, sound_more ps p a.1 s)

no_ends_more : (ts us : List Shown) → NoEnds ts → NoEnds us → NoEnds (ts ++ us)
no_ends_more [] us a b = b
no_ends_more (t ∷ ts) us a b = (a.0, no_ends_more ts us a.1 b)

pub nothing_read : (text : List ℕ) → SoFar text 0 []
nothing_read text = record { pieces = []; reads = refl; sound = tt; are = refl; no_ends = tt }

pub so_far_more : (text : List ℕ) (at size : ℕ) (tokens more : List Shown) (lexeme : Lexeme) → SoFar text at tokens → IsFirst (inside text at) (drop at text) size lexeme → IsSound lexeme → NoEnds (said lexeme at size (take size (drop at text)))
    → more ≡ tokens ++ said lexeme at size (take size (drop at text)) → SoFar text (at + size) more
so_far_more text at size tokens more lexeme s f sound ends e =
    let p : Piece = record { size = size; lexeme = lexeme } in record {
      pieces = s.pieces ++ p ∷ [];
      reads = reads_more text 0 at s.pieces p s.reads f;
      sound = sound_more s.pieces p s.sound sound;
      are = e ∙ ap (λ l. l ++ said lexeme at size (take size (drop at text))) s.are ∙ sym (tokens_more text 0 at s.pieces p s.reads);
      no_ends = subst NoEnds (sym e) (no_ends_more tokens (said lexeme at size (take size (drop at text))) s.no_ends ends);
    }

pub fault_found : (text : List ℕ) (at size : ℕ) (tokens : List Shown) (word : LexWord) (low high from to : ℕ) → SoFar text at tokens → IsFirst (inside text at) (drop at text) size (Wrong word low high) → from ≡ at + low → to ≡ at + high → HasFault text word from to
fault_found text at size tokens word low high from to s f e g = record { pieces = s.pieces; at = at; reads = s.reads; sound = s.sound; size = size; low = low; high = high; first = f; is_from = e; is_to = g }

-- ---- all tokens

slices_of : (text : List ℕ) (at : ℕ) (ps : List Piece) → Slices text (tokens_of text at ps ++ end_at (length text) ∷ [])
slices_of text at [] = (let e : length text - length text ≡ 0 = omega arith in ap (λ n. take n (drop (length text) text)) (sym e), tt)
slices_of text at (p ∷ ps) = by p.lexeme
    (slices_of text (at + p.size) ps)
  where
    by : (l : Lexeme) → Slices text (tokens_of text (at + p.size) ps ++ end_at (length text) ∷ []) → Slices text ((said l at p.size (take p.size (drop at text)) ++ tokens_of text (at + p.size) ps) ++ end_at (length text) ∷ [])
    by Apart h = h
    by (Says kind) h = (let e : at + p.size - at ≡ p.size = omega arith in ap (λ n. take n (drop at text)) (sym e), h)
    by (Wrong word low high) h = h

rise_of : (text : List ℕ) (low at : ℕ) (ps : List Piece) → low ≤ at → Reads text at ps (length text) → Rise low (tokens_of text at ps ++ end_at (length text) ∷ [])
rise_of text low at [] le r = (omega arith, omega arith, tt)
rise_of text low at (p ∷ ps) le r = by p.lexeme (rise_of text low (at + p.size) ps (omega arith) r.1) (rise_of text (at + p.size) (at + p.size) ps (omega arith) r.1)
  where
    by : (l : Lexeme) → Rise low (tokens_of text (at + p.size) ps ++ end_at (length text) ∷ []) → Rise (at + p.size) (tokens_of text (at + p.size) ps ++ end_at (length text) ∷ [])
        → Rise low ((said l at p.size (take p.size (drop at text)) ++ tokens_of text (at + p.size) ps) ++ end_at (length text) ∷ [])
    by Apart h g = h
    by (Says kind) h g = (le, omega arith, g)
    by (Wrong word a b) h g = h

ends_of : (ts : List Shown) (place : ℕ) → NoEnds ts → EndsLast (ts ++ end_at place ∷ [])
ends_of [] place n = refl
ends_of (t ∷ []) place n = (n.0, refl)
ends_of (t ∷ u ∷ ts) place n = (n.0, ends_of (u ∷ ts) place n.1)

pub all_tokens : (text : List ℕ) (tokens all : List Shown) → SoFar text (length text) tokens → IsUtf8 text → all ≡ tokens ++ end_at (length text) ∷ [] → HasAll text all
all_tokens text tokens all s u e =
    let are : all ≡ tokens_of text 0 s.pieces ++ end_at (length text) ∷ [] = e ∙ ap (λ l. l ++ end_at (length text) ∷ []) s.are in
    let found : HasTokens text all = record { utf8 = u; pieces = s.pieces; reads = s.reads; sound = s.sound; are = are } in record {
      found = found;
      only = λ other h. only_tokens text all other found h;
      slices = subst (Slices text) (sym are) (slices_of text 0 s.pieces);
      rise = subst (Rise 0) (sym are) (rise_of text 0 0 s.pieces (omega arith) s.reads);
      ends = subst EndsLast (sym e) (ends_of tokens (length text) s.no_ends);
    }

-- ---- the first fault

valid_not_utf8 : (text : List ℕ) (at : ℕ) → IsValidUpTo text at → IsUtf8 text → ⊥
valid_not_utf8 text at v u = v.longest (length text) v.short (subst IsUtf8 (sym (take-length text)) u)

one_valid : (text : List ℕ) (a b : ℕ) → IsValidUpTo text a → IsValidUpTo text b → a ≡ b
one_valid text a b v w =
    ⊎_elim
    (λ h. absurd (v.longest b (let l = h.1 in omega arith) w.front))
    (λ h. ⊎_elim (λ g. absurd (w.longest a (let l = g.1 in omega arith) v.front)) (λ g. let l = g.1 in let k = h.1 in omega arith) (leb_tells (suc b) a))
    (leb_tells (suc a) b)

-- a fault that comes before each byte that begins no character
refused_fault : (text : List ℕ) (word : LexWord) (span : Span) → HasFault text word span.from span.to → ((at : ℕ) → IsValidUpTo text at → span.from < at) → Refused text word span
refused_fault text word span f later = record {
  fault = inr (f, later);
  only = λ other from to g.
      ⊎_elim
      (λ h. let le = h.1.first word span.from span.to f in let lt = later from h.1.valid in absurd (omega arith))
      (λ h. one_fault text word other span.from span.to from to f h.0)
      g;
  none = no_tokens text word span.from span.to f;
}

pub refused_utf8 : (text : List ℕ) (word : LexWord) (span : Span) → HasFault text word span.from span.to → IsUtf8 text → Refused text word span
refused_utf8 text word span f u = refused_fault text word span f (λ at v. absurd (valid_not_utf8 text at v u))

pub refused_before : (text : List ℕ) (word : LexWord) (span : Span) (invalid : Fault) → HasFault text word span.from span.to → Breaks text invalid → span.from < invalid.span.from → Refused text word span
refused_before text word span invalid f b lt = refused_fault text word span f (λ at v. let e = one_valid text at invalid.span.from v b.valid in omega arith)

-- a byte that begins no character, before each fault
refused_broken : (text : List ℕ) (invalid : Fault) → Breaks text invalid → ((word : LexWord) (a b : ℕ) → HasFault text word a b → invalid.span.from ≤ a) → Refused text invalid.word invalid.span
refused_broken text invalid b first = record {
  fault = inl (b.word, record { valid = b.valid; one = b.one; first = first });
  only = λ other from to g.
      ⊎_elim
      (λ h. let e = one_valid text from invalid.span.from h.1.valid b.valid in let o = h.1.one in let p = b.one in (h.0 ∙ sym b.word, e, omega arith))
      (λ h. let lt = h.1 invalid.span.from b.valid in let le = first other from to h.0 in absurd (omega arith))
      g;
  none = λ tokens h. b.broken h.utf8;
}

pub broken_before : (text : List ℕ) (word : LexWord) (span : Span) (invalid : Fault) → HasFault text word span.from span.to → Breaks text invalid → invalid.span.from ≤ span.from → Refused text invalid.word invalid.span
broken_before text word span invalid f b le = refused_broken text invalid b (λ other from to g. let s = one_fault text word other span.from span.to from to f g in let e = s.1 in omega arith)

pub broken_whole : (text : List ℕ) (tokens : List Shown) (invalid : Fault) → SoFar text (length text) tokens → Breaks text invalid → Refused text invalid.word invalid.span
broken_whole text tokens invalid s b =
    refused_broken text invalid b (λ word from to f. absurd (fault_not_whole text 0 f.pieces s.pieces f.at word from to f.reads f.sound (stops text word from to f) s.reads s.sound))

pub shown_more : (tokens all : List Token) (t : Token) → all ≡ tokens ++ t ∷ [] → map shown all ≡ map shown tokens ++ shown t ∷ []
shown_more tokens all t e = ap (map shown) e ∙ map-append shown tokens (t ∷ [])

-- ---- steps

pub apart_more : (text : List ℕ) (at size : ℕ) (tokens : List Shown) (lexeme : Lexeme) → SoFar text at tokens → IsFirst (inside text at) (drop at text) size lexeme → lexeme ≡ Apart → SoFar text (at + size) tokens
apart_more text at size tokens lexeme s f e = so_far_more text at size tokens tokens Apart s (subst (IsFirst (inside text at) (drop at text) size) e f) tt tt (sym (append-nil tokens))

pub says_more : (text : List ℕ) (at size : ℕ) (tokens all : List Token) (lexeme : Lexeme) (t : Token) → SoFar text at (map shown tokens) → IsFirst (inside text at) (drop at text) size lexeme
    → Gives lexeme at size (take size (drop at text)) (Step.Says t) → all ≡ tokens ++ t ∷ [] → SoFar text (at + size) (map shown all)
says_more text at size tokens all lexeme t s f g e =
    so_far_more text at size (map shown tokens) (map shown all) (Says t.kind) s (subst (IsFirst (inside text at) (drop at text) size) g.0 f) tt (g.1, tt) (shown_more tokens all t e ∙ ap (λ x. map shown tokens ++ x ∷ []) g.2)

pub fault_more : (text : List ℕ) (at size : ℕ) (tokens : List Shown) (lexeme : Lexeme) (fault : Fault) → SoFar text at tokens → IsFirst (inside text at) (drop at text) size lexeme → Faulty lexeme at fault → HasFault text fault.word fault.span.from fault.span.to
fault_more text at size tokens lexeme fault s f g =
    fault_found text at size tokens fault.word g.low g.high fault.span.from fault.span.to s (subst (IsFirst (inside text at) (drop at text) size) g.is f) g.from g.to
