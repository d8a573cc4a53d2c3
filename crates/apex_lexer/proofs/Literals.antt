-- Text literals and comments.
use Rattle.std.proofs.Common.{arith, ◌≡◌, ◌+◌, ◌-◌, ◌<◌, ◌≤◌, ◌&&◌, not, ℕ, zero, suc, Bool, true, false, cond, eqb, List, [], ◌∷◌, ◌++◌, length, take, drop, get_or, Option, Some, None, IfSome, refl, sym, ap, ◌∙◌, subst, append_assoc, append-nil, drop-cons, length-drop, drop-drop}
use Rattle.std.proofs.lemmas.List.{length-take-le, drop-take}
use Rattle.std.proofs.Math.Seq.{take-add}
use Rattle.std.proofs.lemmas.Bool.{eqb-true}
use Rattle.std.specs.List.{list_all}
use Rattle.apex_lexer.specs.declared.lexeme.LexWord.TheVariants.{OpenText, OpenComment}
use Rattle.apex_lexer.specs.declared.lexeme.Lexeme.TheVariants.{Apart, Wrong}
use Rattle.apex_lexer.specs.declared.scan.Found.{Found}
use Rattle.apex_lexer.specs.Lexemes.{Unended, Broken, Ends, ending, is_escape, bad_escape, closed_text, quoted_by, quoted, after_block, block_by, slashed, front, is_on_line}
use Rattle.apex_lexer.specs.Scans.{begins, noted_escape, behind_first, Fits, IsLongest}
use Rattle.apex_lexer.proofs.Runs.{front_most, run_all, run_more}

-- what stands behind the first n bytes, up to a place and past it
pub between : ℕ → List ℕ → ℕ → List ℕ
between n text i = take (i - n) (drop n text)

pub behind : (n i m : ℕ) (text : List ℕ) → n ≤ i → i ≤ m → drop n (take m text) ≡ between n text i ++ take (m - i) (drop i text)
unfolding between
behind n i m text ni im =
    let a : n + (m - n) ≡ m = omega arith in
    let b : m - n ≡ (i - n) + (m - i) = omega arith in
    let c : n + (i - n) ≡ i = omega arith in
    ap (λ k. drop n (take k text)) (sym a) ∙ drop-take n (m - n) text ∙ ap (λ k. take k (drop n text)) b ∙ take-add (i - n) (m - i) (drop n text)
    ∙ ap (λ l. take (i - n) (drop n text) ++ take (m - i) l) (drop_add n (i - n) text ∙ ap (λ k. drop k text) c)
  where
    drop_add : (a b : ℕ) (xs : List ℕ) → drop b (drop a xs) ≡ drop (a + b) xs
    drop_add a b xs = drop-drop b a xs

pub between_long : (n i : ℕ) (text : List ℕ) → n ≤ i → i ≤ length text → n + length (between n text i) ≡ i
unfolding between
between_long n i text ni le = let d = length-drop n text in let t = length-take-le (i - n) (drop n text) (omega arith) in omega arith

pub between_more : (n i : ℕ) (text : List ℕ) → n ≤ i → i < length text → between n text (i + 1) ≡ between n text i ++ get_or text i 0 ∷ []
between_more n i text ni lt =
    let a : i + 1 - (i + 1) ≡ 0 = omega arith in
    let long = between_long n (i + 1) text (omega arith) (omega arith) in
    sym (append-nil (between n text (i + 1))) ∙ ap (λ k. between n text (i + 1) ++ take k (drop (i + 1) text)) (sym a) ∙ sym (behind n (i + 1) (i + 1) text (omega arith) (omega arith))
    ∙ behind n i (i + 1) text ni (omega arith) ∙ (let b : i + 1 - i ≡ 1 = omega arith in ap (λ k. between n text i ++ take k (drop i text)) b)
    ∙ ap (λ l. between n text i ++ take 1 l) (drop-cons text i 0 lt)

pub between_none : (n : ℕ) (text : List ℕ) → between n text n ≡ []
unfolding between
between_none n text = let e : n - n ≡ 0 = omega arith in ap (λ k. take k (drop n text)) e

-- ---- text literals

abbrev pub or_else : Option ℕ → Option ℕ → Option ℕ
or_else (Some at) other = Some at
or_else None other = other

-- what was read of a text literal up to a place
pub record TextSoFar (text : List ℕ) (i : ℕ) (escaped : Bool) (bad : Option ℕ) : Type 0 where
  pub ends : (t : List ℕ) → ending false (between 1 text i ++ t) ≡ ending escaped t
  pub bads : (t : List ℕ) → bad_escape false 1 (between 1 text i ++ t) ≡ or_else bad (bad_escape escaped i t)
  pub small : IfSome bad (λ at. at < i)

pub text_start : (text : List ℕ) → TextSoFar text 1 false None
text_start text = record {
  ends = λ t. ap (λ l. ending false (l ++ t)) (between_none 1 text);
  bads = λ t. ap (λ l. bad_escape false 1 (l ++ t)) (between_none 1 text);
  small = tt;
}

pub open_here : (text : List ℕ) (i : ℕ) (escaped : Bool) (bad : Option ℕ) → 1 ≤ i → i ≤ length text → TextSoFar text i escaped bad → behind_first quoted (take i text) ≡ Some (Wrong OpenText 0 i)
open_here text i escaped bad past le s =
    let long = between_long 1 i text past le in
    let z : i - i ≡ 0 = omega arith in
    let here : drop 1 (take i text) ≡ between 1 text i ++ [] = behind 1 i i text past (omega arith) ∙ ap (λ k. between 1 text i ++ take k (drop i text)) z in
    let n : suc (length (between 1 text i ++ [])) ≡ i = ap (λ l. suc (length l)) (append-nil (between 1 text i)) ∙ omega arith in
    ap quoted here ∙ ap (λ e. quoted_by e (between 1 text i ++ [])) (s.ends [] ∙ unended escaped) ∙ ap (λ k. Some (Wrong OpenText 0 k)) n
  where
    unended : (escaped : Bool) → ending escaped [] ≡ Unended
    unended true = refl
    unended false = refl

module _ (text : List ℕ) (i : ℕ) (lt : i < length text) (past : 1 ≤ i) where
  one_more : (t : List ℕ) → between 1 text (i + 1) ++ t ≡ between 1 text i ++ get_or text i 0 ∷ t
  one_more t = ap (λ l. l ++ t) (between_more 1 i text past lt) ∙ append_assoc (between 1 text i) (get_or text i 0 ∷ []) t

  small_more : (bad : Option ℕ) → IfSome bad (λ at. at < i) → IfSome bad (λ at. at < i + 1)
  small_more None h = tt
  small_more (Some at) h = omega arith

  -- a byte that neither ends the line nor the literal
  pub text_more : (escaped : Bool) (bad : Option ℕ) → eqb (get_or text i 0) 10 ≡ false → (not escaped && eqb (get_or text i 0) 39) ≡ false → TextSoFar text i escaped bad
      → TextSoFar text (i + 1) (not escaped && eqb (get_or text i 0) 92) (noted_escape escaped bad (get_or text i 0) i)
  text_more escaped bad line quote s = record {
    ends = λ t. ap (ending false) (one_more t) ∙ s.ends (b ∷ t) ∙ go escaped quote t;
    bads = λ t. ap (bad_escape false 1) (one_more t) ∙ s.bads (b ∷ t) ∙ noted escaped bad t
        ∙ (let e : suc i ≡ i + 1 = omega arith in ap (λ n. or_else (noted_escape escaped bad b i) (bad_escape (not escaped && eqb b 92) n t)) e);
    small = below escaped bad s.small;
  }
    where
      b : ℕ
      b = get_or text i 0

      go : (escaped : Bool) → (not escaped && eqb b 39) ≡ false → (t : List ℕ) → ending escaped (b ∷ t) ≡ ending (not escaped && eqb b 92) t
      go true q t = ap (λ x. cond x Broken (ending false t)) line
      go false q t = ap (λ x. cond x (Ends t) (cond (eqb b 10) Broken (ending (eqb b 92) t))) q ∙ ap (λ x. cond x Broken (ending (eqb b 92) t)) line

      noted : (escaped : Bool) (bad : Option ℕ) (t : List ℕ) → or_else bad (bad_escape escaped i (b ∷ t)) ≡ or_else (noted_escape escaped bad b i) (bad_escape (not escaped && eqb b 92) (suc i) t)
      noted escaped (Some at) t = refl
      noted false None t = refl
      noted true None t = by (is_escape b)
        where
          by : (x : Bool) → cond x (bad_escape false (suc i) t) (Some (i - 1)) ≡ or_else (cond (not x) (Some (i - 1)) None) (bad_escape false (suc i) t)
          by true = refl
          by false = refl

      below : (escaped : Bool) (bad : Option ℕ) → IfSome bad (λ at. at < i) → IfSome (noted_escape escaped bad b i) (λ at. at < i + 1)
      below escaped (Some at) h = omega arith
      below escaped None h = by (escaped && not (is_escape b))
        where
          by : (x : Bool) → IfSome (cond x (Some (i - 1)) None) (λ at. at < i + 1)
          by true = omega arith
          by false = tt

  past_here : (m : ℕ) → i < m → m ≤ length text → drop 1 (take m text) ≡ between 1 text i ++ get_or text i 0 ∷ take (m - i - 1) (drop (suc i) text)
  past_here m im le =
      let e : m - i ≡ suc (m - i - 1) = omega arith in
      behind 1 i m text past (omega arith) ∙ ap (λ l. between 1 text i ++ take (m - i) l) (drop-cons text i 0 lt) ∙ ap (λ k. between 1 text i ++ take k (get_or text i 0 ∷ drop (suc i) text)) e

  broken : (escaped : Bool) (t : List ℕ) → get_or text i 0 ≡ 10 → ending escaped (get_or text i 0 ∷ t) ≡ Broken
  broken true t e = ap (λ b. cond (eqb b 10) Broken (ending false t)) e
  broken false t e = ap (λ b. cond (eqb b 39) (Ends t) (cond (eqb b 10) Broken (ending (eqb b 92) t))) e

  -- the line ends here
  pub text_broken : (escaped : Bool) (bad : Option ℕ) → get_or text i 0 ≡ 10 → TextSoFar text i escaped bad → IsLongest (behind_first quoted) text (record { size = i; lexeme = Wrong OpenText 0 i })
  text_broken escaped bad feed s = record {
    some = omega arith;
    fits = (omega arith, omega arith);
    within = omega arith;
    spells = open_here text i escaped bad past (omega arith) s;
    longest = λ m im le. ap quoted (past_here m im le)
        ∙ ap (λ e. quoted_by e (between 1 text i ++ get_or text i 0 ∷ take (m - i - 1) (drop (suc i) text))) (s.ends (get_or text i 0 ∷ take (m - i - 1) (drop (suc i) text)) ∙ broken escaped (take (m - i - 1) (drop (suc i) text)) feed);
  }

  -- a quote ends the literal here
  pub text_closed : (bad : Option ℕ) → get_or text i 0 ≡ 39 → TextSoFar text i false bad → IsLongest (behind_first quoted) text (record { size = i + 1; lexeme = closed_text bad })
  text_closed bad quote s = record {
    some = omega arith;
    fits = fit bad s.small;
    within = omega arith;
    spells = ap quoted (here ∙ ap (λ b. p ++ b ∷ []) quote) ∙ ap (λ e. quoted_by e (p ++ 39 ∷ [])) (s.ends (39 ∷ [])) ∙ ap (λ o. Some (closed_text o)) (s.bads (39 ∷ []) ∙ keep bad);
    longest = λ m im le. past_end m (omega arith) le (m - i - 1) refl;
  }
    where
      p : List ℕ
      p = between 1 text i

      here : drop 1 (take (i + 1) text) ≡ p ++ get_or text i 0 ∷ []
      here = past_here (i + 1) (omega arith) (omega arith) ∙ (let z : i + 1 - i - 1 ≡ 0 = omega arith in ap (λ k. p ++ get_or text i 0 ∷ take k (drop (suc i) text)) z)

      fit : (bad : Option ℕ) → IfSome bad (λ at. at < i) → Fits (i + 1) (closed_text bad)
      fit None h = λ e. cc
      fit (Some at) h = (omega arith, omega arith)

      keep : (bad : Option ℕ) → or_else bad None ≡ bad
      keep None = refl
      keep (Some at) = refl

      more : (k : ℕ) (xs : List ℕ) → 0 < k → k ≤ length xs → quoted_by (Ends (take k xs)) (p ++ 39 ∷ take k xs) ≡ None
      more zero xs pos le = absurd (omega arith)
      more (suc k) [] pos le = absurd (omega arith)
      more (suc k) (x ∷ xs) pos le = refl

      past_end : (m : ℕ) → i + 1 < m → m ≤ length text → (k : ℕ) → m - i - 1 ≡ k → quoted (drop 1 (take m text)) ≡ None
      past_end m im le k e = ap quoted (past_here m (omega arith) le ∙ ap (λ j. p ++ get_or text i 0 ∷ take j (drop (suc i) text)) e ∙ ap (λ b. p ++ b ∷ take k (drop (suc i) text)) quote)
          ∙ ap (λ x. quoted_by x (p ++ 39 ∷ take k (drop (suc i) text))) (s.ends (39 ∷ take k (drop (suc i) text))) ∙ more k (drop (suc i) text) (omega arith) (let d = length-drop (suc i) text in omega arith)

-- the text ends here
pub text_open : (text : List ℕ) (i : ℕ) (escaped : Bool) (bad : Option ℕ) → 0 < length text → i ≡ length text → TextSoFar text i escaped bad → IsLongest (behind_first quoted) text (record { size = length text; lexeme = Wrong OpenText 0 (length text) })
text_open text i escaped bad some end s = record {
  some = some;
  fits = (some, omega arith);
  within = omega arith;
  spells = ap (λ k. behind_first quoted (take k text)) (sym end) ∙ open_here text i escaped bad (omega arith) (omega arith) s ∙ ap (λ k. Some (Wrong OpenText 0 k)) end;
  longest = λ m im le. absurd (omega arith);
}

-- ---- comments

-- what was read of a block comment up to a place
pub record BlockSoFar (text : List ℕ) (i : ℕ) (star : Bool) : Type 0 where
  pub ends : (t : List ℕ) → after_block false (between 2 text i ++ t) ≡ after_block star t

pub block_start : (text : List ℕ) → BlockSoFar text 2 false
block_start text = record { ends = λ t. ap (λ l. after_block false (l ++ t)) (between_none 2 text) }

-- behind a slash and an asterisk
starred : (text : List ℕ) → 2 ≤ length text → begins (λ b. eqb b 42) (drop 1 text) ≡ true → (n : ℕ) → 2 ≤ n → n ≤ length text → slashed (drop 1 (take n text)) ≡ block_by (after_block false (drop 2 (take n text))) n
starred [] long e n past le = absurd (omega arith)
starred (a ∷ []) long e n past le = absurd (omega arith)
starred (a ∷ b ∷ bs) long e zero past le = absurd (omega arith)
starred (a ∷ b ∷ bs) long e (suc zero) past le = absurd (omega arith)
starred (a ∷ b ∷ bs) long e (suc (suc n)) past le =
    ap (λ x. slashed (x ∷ take n bs)) (eqb-true b 42 e) ∙ (let k : length (take n bs) ≡ n = length-take-le n bs (omega arith) in ap (λ j. block_by (after_block false (take n bs)) (suc (suc j))) k)

module _ (text : List ℕ) (i : ℕ) (lt : i < length text) (past : 2 ≤ i) where
  star_more : (t : List ℕ) → between 2 text (i + 1) ++ t ≡ between 2 text i ++ get_or text i 0 ∷ t
  star_more t = ap (λ l. l ++ t) (between_more 2 i text past lt) ∙ append_assoc (between 2 text i) (get_or text i 0 ∷ []) t

  pub block_more : (star : Bool) → (star && eqb (get_or text i 0) 47) ≡ false → BlockSoFar text i star → BlockSoFar text (i + 1) (eqb (get_or text i 0) 42)
  block_more star e s = record {
    ends = λ t. ap (after_block false) (star_more t) ∙ s.ends (get_or text i 0 ∷ t) ∙ ap (λ x. cond x (Some t) (after_block (eqb (get_or text i 0) 42) t)) e;
  }

  star_here : (m : ℕ) → i < m → m ≤ length text → drop 2 (take m text) ≡ between 2 text i ++ get_or text i 0 ∷ take (m - i - 1) (drop (suc i) text)
  star_here m im le =
      let e : m - i ≡ suc (m - i - 1) = omega arith in
      behind 2 i m text past (omega arith) ∙ ap (λ l. between 2 text i ++ take (m - i) l) (drop-cons text i 0 lt) ∙ ap (λ k. between 2 text i ++ take k (get_or text i 0 ∷ drop (suc i) text)) e

  -- the comment ends here
  pub block_closed : (star : Bool) → begins (λ b. eqb b 42) (drop 1 text) ≡ true → (star && eqb (get_or text i 0) 47) ≡ true → BlockSoFar text i star → IsLongest (behind_first slashed) text (record { size = i + 1; lexeme = Apart })
  block_closed star second e s = record {
    some = omega arith;
    fits = tt;
    within = omega arith;
    spells = starred text (omega arith) second (i + 1) (omega arith) (omega arith) ∙ ap (λ o. block_by o (i + 1)) (at (i + 1) (omega arith) (omega arith) 0 (omega arith));
    longest = λ m im le. starred text (omega arith) second m (omega arith) le ∙ ap (λ o. block_by o m) (at m (omega arith) le (m - i - 1) refl) ∙ more (m - i - 1) (drop (suc i) text) m (omega arith) (let d = length-drop (suc i) text in omega arith);
  }
    where
      at : (m : ℕ) → i < m → m ≤ length text → (k : ℕ) → m - i - 1 ≡ k → after_block false (drop 2 (take m text)) ≡ Some (take k (drop (suc i) text))
      at m im le k is = ap (after_block false) (star_here m im le) ∙ s.ends (get_or text i 0 ∷ take (m - i - 1) (drop (suc i) text))
          ∙ ap (λ x. cond x (Some (take (m - i - 1) (drop (suc i) text))) (after_block (eqb (get_or text i 0) 42) (take (m - i - 1) (drop (suc i) text)))) e ∙ ap (λ j. Some (take j (drop (suc i) text))) is

      more : (k : ℕ) (xs : List ℕ) (m : ℕ) → 0 < k → k ≤ length xs → block_by (Some (take k xs)) m ≡ None
      more zero xs m pos le = absurd (omega arith)
      more (suc k) [] m pos le = absurd (omega arith)
      more (suc k) (x ∷ xs) m pos le = refl

-- the text ends here
pub block_open : (text : List ℕ) (i : ℕ) (star : Bool) → 2 ≤ length text → i ≡ length text → begins (λ b. eqb b 42) (drop 1 text) ≡ true → BlockSoFar text i star → IsLongest (behind_first slashed) text (record { size = length text; lexeme = Wrong OpenComment 0 (length text) })
block_open text i star long end second s = record {
  some = omega arith;
  fits = (omega arith, omega arith);
  within = omega arith;
  spells =
      (let z : i - i ≡ 0 = omega arith in
      let here : drop 2 (take i text) ≡ between 2 text i ++ [] = behind 2 i i text (omega arith) (omega arith) ∙ ap (λ k. between 2 text i ++ take k (drop i text)) z in
      starred text long second (length text) long (omega arith) ∙ ap (λ o. block_by o (length text)) (ap (λ k. after_block false (drop 2 (take k text))) (sym end) ∙ ap (after_block false) here ∙ s.ends []));
  longest = λ m im le. absurd (omega arith);
}

-- a comment to the end of its line
pub line_longest : (text : List ℕ) (found : Found) → 2 ≤ length text → begins (λ b. eqb b 47) (drop 1 text) ≡ true → found.size ≡ 2 + front is_on_line (drop 2 text) → found.lexeme ≡ Apart → IsLongest (behind_first slashed) text found
line_longest [] found long e size is = absurd (omega arith)
line_longest (a ∷ []) found long e size is = absurd (omega arith)
line_longest (a ∷ b ∷ bs) found long e size is =
    let most = front_most is_on_line bs in record {
      some = omega arith;
      fits = subst (Fits found.size) (sym is) tt;
      within = omega arith;
      spells = at found.size (omega arith) (eqb-true b 47 e) ∙ ap (λ k. cond (list_all is_on_line (take k bs)) (Some Apart) None) (let k : found.size - 2 ≡ front is_on_line bs = omega arith in k)
          ∙ ap (λ t. cond t (Some Apart) None) (run_all is_on_line bs) ∙ ap Some (sym is);
      longest = λ m im le. at m (omega arith) (eqb-true b 47 e) ∙ ap (λ t. cond t (Some Apart) None) (run_more is_on_line bs (m - 2) (omega arith) (omega arith));
    }
  where
    at : (m : ℕ) → 2 ≤ m → b ≡ 47 → behind_first slashed (take m (a ∷ b ∷ bs)) ≡ cond (list_all is_on_line (take (m - 2) bs)) (Some Apart) None
    at zero le h = absurd (omega arith)
    at (suc zero) le h = absurd (omega arith)
    at (suc (suc m)) le h =
        let k : suc (suc m) - 2 ≡ m = omega arith in
        ap (λ x. slashed (x ∷ take m bs)) h ∙ ap (λ j. cond (list_all is_on_line (take j bs)) (Some Apart) None) (sym k)

-- a text with a second byte is longer than one
pub second_long : (test : ℕ → Bool) (text : List ℕ) → begins test (drop 1 text) ≡ true → 2 ≤ length text
second_long test [] e = cc
second_long test (a ∷ []) e = cc
second_long test (a ∷ b ∷ bs) e = omega arith
