-- The pieces that texts begin with, class by class.
use Rattle.std.proofs.Common.{leb, ◌≡◌, ◌≢◌, ⊎_elim, ℕ, zero, suc, ◌+◌, ◌<◌, ◌≤◌, ◌&&◌, ◌||◌, nat_lt, Bool, true, false, cond, eqb, bytes_eq, List, [], ◌∷◌, length, take, drop, get_or, Option, Some, None, refl, sym, ap, ◌∙◌, subst, arith}
use Rattle.std.specs.List.{list_all}
use Rattle.std.specs.Char.{is_ascii_digit, is_ascii_alphabetic}
use Rattle.std.proofs.lemmas.List.{length-take-le}
use Rattle.std.proofs.lemmas.Bool.{eqb-true}
use Rattle.std.proofs.lemmas.Bool.Decides.{leb_tells}
use Rattle.apex_lexer.specs.declared.token.Keyword.{Keyword}
use Rattle.apex_lexer.specs.declared.token.Sign.{Sign}
use Rattle.apex_lexer.specs.declared.token.TokenKind.TheVariants.{Sign as IsSign, End}
use Rattle.apex_lexer.specs.declared.lexeme.LexWord.TheVariants.{BadChar}
use Rattle.apex_lexer.specs.declared.lexeme.Lexeme.{Lexeme}
use Rattle.apex_lexer.specs.declared.lexeme.Lexeme.TheVariants.{Apart, Says, Wrong}
use Rattle.apex_lexer.specs.declared.scan.Found.{Found}
use Rattle.apex_lexer.specs.Words.{value_of, sign_words, sign_of, keyword_of, kind_of, word_kind}
use Rattle.apex_lexer.specs.Lexemes.{is_word_byte, is_blank, goes_on, front, run, word, sign_or, sign, number, quoted, slashed, plain}
use Rattle.apex_lexer.specs.Scans.{begins, sign_if, behind_first, Fits, IsLongest, is_second}
use Rattle.std.specs.Bool.{Decides}
use Rattle.std.proofs.lemmas.Slice.Eq.{bytes_eq-Decides}
use Rattle.apex_lexer.proofs.Bools.{both}
use Rattle.apex_lexer.proofs.Rows.{short, too_long}
use Rattle.apex_lexer.proofs.Runs.{front_most, front_some, run_all, run_more}

-- ---- runs

module _ (test : ℕ → Bool) (text : List ℕ) (found : Found) where
  -- a run is the longest piece, where pieces are runs
  pub run_longest : (l : List ℕ → Lexeme) → begins test text ≡ true → found.size ≡ front test text → found.lexeme ≡ l (take found.size text) → Fits found.size found.lexeme → IsLongest (λ bytes. run test bytes (l bytes)) text found
  run_longest l first size is fits = record {
    fits = fits;
    some = let s = front_some test text first in omega arith;
    within = let m = front_most test text in omega arith;
    spells = ap (λ t. cond t (Some (l (take found.size text))) None) (ap (λ n. list_all test (take n text)) size ∙ run_all test text) ∙ ap Some (sym is);
    longest = λ m lt le. ap (λ t. cond t (Some (l (take m text))) None) (run_more test text m (omega arith) le);
  }

letter_word : (text : List ℕ) → begins is_ascii_alphabetic text ≡ true → begins is_word_byte text ≡ true
letter_word [] e = cc
letter_word (b ∷ bs) e = ap (λ t. t || (is_ascii_digit b || eqb b 95)) e

kind_no_end : (o : Option Keyword) → kind_of o ≢ End
kind_no_end None = λ e. cc
kind_no_end (Some k) = λ e. cc

word_no_end : (bytes : List ℕ) → word_kind bytes ≢ End
word_no_end bytes = kind_no_end (keyword_of bytes)

pub word_longest : (text : List ℕ) (found : Found) → begins is_ascii_alphabetic text ≡ true → found.size ≡ front is_word_byte text → found.lexeme ≡ Says (word_kind (take found.size text)) → IsLongest word text found
word_longest text found letter size is = run_longest is_word_byte text found (λ bytes. Says (word_kind bytes)) (letter_word text letter) size is (subst (Fits found.size) (sym is) (word_no_end (take found.size text)))

-- ---- signs

signs_short : short 3 sign_words ≡ true
unfolding sign_words
signs_short = refl

no_sign : (bytes : List ℕ) → 1 < length bytes → sign_of bytes ≡ None → sign bytes ≡ None
no_sign [] lt e = absurd (omega arith)
no_sign (b ∷ []) lt e = absurd (omega arith)
no_sign (b ∷ c ∷ bs) lt e = ap (λ o. sign_or o (b ∷ c ∷ bs)) e

if_within : (size : ℕ) (text : List ℕ) → size ≤ length text → sign_if size text ≡ sign_of (take size text)
if_within size text le = ap (λ t. cond t (sign_of (take size text)) None) (⊎_elim (λ h. h.0) (λ h. absurd (let l = h.1 in omega arith)) (leb_tells size (length text)))

if_some : (size : ℕ) (text : List ℕ) (s : Sign) → sign_if size text ≡ Some s → (size ≤ length text) × (sign_of (take size text) ≡ Some s)
if_some size text s e =
    ⊎_elim
    (λ h. (h.1, sym (ap (λ t. cond t (sign_of (take size text)) None) h.0) ∙ e))
    (λ h. let f : None ≡ Some s = sym (ap (λ t. cond t (sign_of (take size text)) None) h.0) ∙ e in cc)
    (leb_tells size (length text))

if_short : (size : ℕ) (text : List ℕ) → length text < size → sign_if size text ≡ None
if_short size text lt = ap (λ t. cond t (sign_of (take size text)) None) (⊎_elim (λ h. absurd (let l = h.1 in omega arith)) (λ h. h.0) (leb_tells size (length text)))

-- no sign is longer than one that is found, where longer ones were looked for
module _ (text : List ℕ) (size : ℕ) (none : (n : ℕ) → size < n → n ≤ 3 → sign_if n text ≡ None) where
  no_longer : (m : ℕ) → 0 < size → size < m → m ≤ length text → sign (take m text) ≡ None
  no_longer m some lt le =
      let n : length (take m text) ≡ m = length-take-le m text le in
      no_sign (take m text) (omega arith)
      (⊎_elim
      (λ h. sym (if_within m text le) ∙ none m lt (let l = h.1 in omega arith))
      (λ h. too_long 3 sign_words (take m text) signs_short (let l = h.1 in omega arith))
      (leb_tells m 3))

  pub sign_longest : (s : Sign) → 0 < size → sign_if size text ≡ Some s → IsLongest sign text (record { size = size; lexeme = Says (IsSign s) })
  sign_longest s some e =
      let f = if_some size text s e in record {
        some = some;
        fits = λ e. cc;
        within = f.0;
        spells = ap (λ o. sign_or o (take size text)) f.1;
        longest = λ m lt le. no_longer m some lt le;
      }

pub bad_longest : (text : List ℕ) → 0 < length text → ((n : ℕ) → 0 < n → n ≤ 3 → sign_if n text ≡ None) → IsLongest sign text (record { size = 1; lexeme = Wrong BadChar 0 1 })
bad_longest [] some none = absurd (omega arith)
bad_longest (b ∷ bs) some none = record {
  some = omega arith;
  fits = (omega arith, omega arith);
  within = omega arith;
  spells = ap (λ o. sign_or o (b ∷ [])) (sym (if_within 1 (b ∷ bs) (omega arith)) ∙ none 1 (omega arith) (omega arith));
  longest = λ m lt le. no_longer (b ∷ bs) 1 (λ n l h. none n (omega arith) h) m (omega arith) lt le;
}

abbrev second_fits : List ℕ → Bool
second_fits [] = true
second_fits (a ∷ []) = true
second_fits (a ∷ b ∷ bs) = is_second b

-- no sign has another second byte
abbrev seconds : List (List ℕ × Sign) → Bool
seconds [] = true
seconds (row ∷ rows) = second_fits row.0 && seconds rows

all_seconds : seconds sign_words ≡ true
unfolding sign_words
all_seconds = refl

other_word : (w : List ℕ) (a b : ℕ) (bs : List ℕ) → second_fits w ≡ true → is_second b ≡ false → bytes_eq w (a ∷ b ∷ bs) ≡ false
other_word w a b bs fits other = by (bytes_eq w (a ∷ b ∷ bs)) (bytes_eq-Decides w (a ∷ b ∷ bs))
  where
    by : (t : Bool) → Decides t (w ≡ a ∷ b ∷ bs) → t ≡ false
    by false d = refl
    by true d = let e : false ≡ true = sym other ∙ sym (ap second_fits (d.0 refl)) ∙ fits in cc

not_found : (rows : List (List ℕ × Sign)) (a b : ℕ) (bs : List ℕ) → seconds rows ≡ true → is_second b ≡ false → value_of rows (a ∷ b ∷ bs) ≡ None
not_found [] a b bs fits other = refl
not_found (row ∷ rows) a b bs fits other =
    let f = both (second_fits row.0) (seconds rows) fits in
    ap (λ t. cond t (Some row.1) (value_of rows (a ∷ b ∷ bs))) (other_word row.0 a b bs f.0 other) ∙ not_found rows a b bs f.1 other

-- no sign of two bytes or more where the second one is none of these
pub no_long_sign : (text : List ℕ) (n : ℕ) → begins is_second (drop 1 text) ≡ false → sign_if (suc (suc n)) text ≡ None
no_long_sign [] n e = if_short (suc (suc n)) [] (omega arith)
no_long_sign (a ∷ []) n e = if_short (suc (suc n)) (a ∷ []) (omega arith)
no_long_sign (a ∷ b ∷ bs) n e = by (leb (suc (suc n)) (length (a ∷ b ∷ bs)))
  where
    by : (t : Bool) → cond t (sign_of (a ∷ b ∷ take n bs)) None ≡ None
    by true = not_found sign_words a b (take n bs) all_seconds e
    by false = refl

-- no sign of these sizes
pub none_of_three : (text : List ℕ) → sign_if 3 text ≡ None → (n : ℕ) → 2 < n → n ≤ 3 → sign_if n text ≡ None
none_of_three text three n lt le = let e : n ≡ 3 = omega arith in ap (λ k. sign_if k text) e ∙ three

pub none_of_two : (text : List ℕ) → sign_if 3 text ≡ None → sign_if 2 text ≡ None → (n : ℕ) → 1 < n → n ≤ 3 → sign_if n text ≡ None
none_of_two text three two n lt le =
    ⊎_elim (λ h. none_of_three text three n (let l = h.1 in omega arith) le) (λ h. let e : n ≡ 2 = let l = h.1 in omega arith in ap (λ k. sign_if k text) e ∙ two) (leb_tells 3 n)

pub none_of_one : (text : List ℕ) → sign_if 3 text ≡ None → sign_if 2 text ≡ None → sign_if 1 text ≡ None → (n : ℕ) → 0 < n → n ≤ 3 → sign_if n text ≡ None
none_of_one text three two one n lt le =
    ⊎_elim (λ h. none_of_two text three two n (let l = h.1 in omega arith) le) (λ h. let e : n ≡ 1 = let l = h.1 in omega arith in ap (λ k. sign_if k text) e ∙ one) (leb_tells 2 n)

-- ---- classes by the first byte

-- pieces of a class are pieces
pub of_class : (f : List ℕ → Option Lexeme) (text : List ℕ) (found : Found) → ((m : ℕ) → 0 < m → m ≤ length text → plain (take m text) ≡ f (take m text)) → IsLongest f text found → IsLongest plain text found
of_class f text found same h = record {
  some = h.some;
  fits = h.fits;
  within = h.within;
  spells = same found.size h.some h.within ∙ h.spells;
  longest = λ m lt le. same m (let s = h.some in omega arith) le ∙ h.longest m lt le;
}

pub word_class : (text : List ℕ) → begins is_ascii_alphabetic text ≡ true → (m : ℕ) → 0 < m → m ≤ length text → plain (take m text) ≡ word (take m text)
word_class [] e m lt le = absurd (omega arith)
word_class (b ∷ bs) e zero lt le = absurd (omega arith)
word_class (b ∷ bs) e (suc m) lt le = rw e refl

pub number_class : (text : List ℕ) → begins is_ascii_alphabetic text ≡ false → begins is_ascii_digit text ≡ true → (m : ℕ) → 0 < m → m ≤ length text → plain (take m text) ≡ number (take m text)
number_class [] d e m lt le = absurd (omega arith)
number_class (b ∷ bs) d e zero lt le = absurd (omega arith)
number_class (b ∷ bs) d e (suc m) lt le = rw d (rw e refl)

-- the first byte of a text is of none of these kinds
pub record Other (text : List ℕ) : Type 0 where
  pub some : 0 < length text
  pub letter : begins is_ascii_alphabetic text ≡ false
  pub digit : begins is_ascii_digit text ≡ false
  pub blank : begins is_blank text ≡ false

pub blank_class : (text : List ℕ) → begins is_blank text ≡ true → (m : ℕ) → 0 < m → m ≤ length text → plain (take m text) ≡ run is_blank (take m text) Apart
blank_class [] e m lt le = absurd (omega arith)
blank_class (b ∷ bs) e zero lt le = absurd (omega arith)
blank_class (b ∷ bs) e (suc m) lt le =
    let none = blank_other b e in
    rw none.0 (rw none.1 (rw e refl))
  where
    blank_other : (b : ℕ) → is_blank b ≡ true → (is_ascii_alphabetic b ≡ false) × (is_ascii_digit b ≡ false)
    blank_other b e = (grind arith, grind arith)

pub quote_class : (text : List ℕ) → Other text → get_or text 0 0 ≡ 39 → (m : ℕ) → 0 < m → m ≤ length text → plain (take m text) ≡ behind_first quoted (take m text)
quote_class [] o e m lt le = absurd (omega arith)
quote_class (b ∷ bs) o e zero lt le = absurd (omega arith)
quote_class (b ∷ bs) o e (suc m) lt le = ap (λ x. plain (x ∷ take m bs)) e

pub slash_class : (text : List ℕ) → Other text → get_or text 0 0 ≡ 47 → (m : ℕ) → 0 < m → m ≤ length text → plain (take m text) ≡ behind_first slashed (take m text)
slash_class [] o e m lt le = absurd (omega arith)
slash_class (b ∷ bs) o e zero lt le = absurd (omega arith)
slash_class (b ∷ bs) o e (suc m) lt le = ap (λ x. plain (x ∷ take m bs)) e

pub sign_class : (text : List ℕ) → Other text → (get_or text 0 0 ≡ 39 → ⊥) → (get_or text 0 0 ≡ 47 → ⊥) → get_or text 0 0 < 128 → (m : ℕ) → 0 < m → m ≤ length text → plain (take m text) ≡ sign (take m text)
sign_class [] o q s low m lt le = absurd (omega arith)
sign_class (b ∷ bs) o q s low zero lt le = absurd (omega arith)
sign_class (b ∷ bs) o q s low (suc m) lt le =
    let no_quote : eqb b 39 ≡ false = is_not b 39 q in
    let no_slash : eqb b 47 ≡ false = is_not b 47 s in
    let ascii : nat_lt b 128 ≡ true = ⊎_elim (λ h. h.0) (λ h. absurd (let l = h.1 in omega arith)) (leb_tells (suc b) 128) in
    rw o.letter (rw o.digit (rw o.blank (rw no_quote (rw no_slash (rw ascii refl)))))
  where
    is_not : (a n : ℕ) → (a ≡ n → ⊥) → eqb a n ≡ false
    is_not a n h = by (eqb a n) refl
      where
        by : (t : Bool) → eqb a n ≡ t → t ≡ false
        by true e = absurd (h (eqb-true a n e))
        by false e = refl

pub stray_class : (text : List ℕ) → 128 ≤ get_or text 0 0 → (m : ℕ) → 0 < m → m ≤ length text → plain (take m text) ≡ run goes_on (drop 1 (take m text)) (Wrong BadChar 0 (length (take m text)))
stray_class [] high m lt le = absurd (omega arith)
stray_class (b ∷ bs) high zero lt le = absurd (omega arith)
stray_class (b ∷ bs) high (suc m) lt le =
    let letter : is_ascii_alphabetic b ≡ false = grind arith in
    let digit : is_ascii_digit b ≡ false = grind arith in
    let blank : is_blank b ≡ false = grind arith in
    let no_quote : eqb b 39 ≡ false = grind arith in
    let no_slash : eqb b 47 ≡ false = grind arith in
    let wide : nat_lt b 128 ≡ false = ⊎_elim (λ h. absurd (let l = h.1 in omega arith)) (λ h. h.0) (leb_tells (suc b) 128) in
    rw letter (rw digit (rw blank (rw no_quote (rw no_slash (rw wide refl)))))

pub stray_longest : (text : List ℕ) (found : Found) → 0 < length text → 128 ≤ get_or text 0 0 → found.size ≡ 1 + front goes_on (drop 1 text) → found.lexeme ≡ Wrong BadChar 0 found.size → IsLongest plain text found
stray_longest [] found some high size is = absurd (omega arith)
stray_longest (b ∷ bs) found some high size is =
    let most = front_most goes_on bs in
    of_class (λ bytes. run goes_on (drop 1 bytes) (Wrong BadChar 0 (length bytes))) (b ∷ bs) found (stray_class (b ∷ bs) high) (record {
      some = omega arith;
      fits = subst (Fits found.size) (sym is) (omega arith, omega arith);
      within = omega arith;
      spells =
          (let one : found.size ≡ suc (front goes_on bs) = omega arith in
          let long : length (take (front goes_on bs) bs) ≡ front goes_on bs = length-take-le (front goes_on bs) bs most in
          ap (λ n. run goes_on (drop 1 (take n (b ∷ bs))) (Wrong BadChar 0 (length (take n (b ∷ bs))))) one ∙ ap (λ t. cond t (Some (Wrong BadChar 0 (suc (length (take (front goes_on bs) bs))))) None) (run_all goes_on bs)
          ∙ ap (λ n. Some (Wrong BadChar 0 (suc n))) long ∙ ap (λ n. Some (Wrong BadChar 0 n)) (sym one) ∙ ap Some (sym is));
      longest = λ m lt le. past m (omega arith) le (λ n l h. run_more goes_on bs n l h) (omega arith);
    })
  where
    past : (m : ℕ) → 0 < m → m ≤ length (b ∷ bs) → ((n : ℕ) → front goes_on bs < n → n ≤ length bs → list_all goes_on (take n bs) ≡ false) → suc (front goes_on bs) < m → run goes_on (drop 1 (take m (b ∷ bs))) (Wrong BadChar 0 (length (take m (b ∷ bs)))) ≡ None
    past zero above le more lt = absurd (omega arith)
    past (suc m) above le more lt = ap (λ t. cond t (Some (Wrong BadChar 0 (suc (length (take m bs))))) None) (more m (omega arith) (omega arith))

-- a slash that begins no comment
pub slash_sign : (text : List ℕ) (found : Found) → get_or text 0 0 ≡ 47 → begins (λ b. eqb b 47) (drop 1 text) ≡ false → begins (λ b. eqb b 42) (drop 1 text) ≡ false → IsLongest sign text found → IsLongest (behind_first slashed) text found
slash_sign text found first no_line no_block h = record {
  some = h.some;
  fits = h.fits;
  within = h.within;
  spells = same text found.size first no_line no_block h.some h.within ∙ h.spells;
  longest = λ m lt le. same text m first no_line no_block (let s = h.some in omega arith) le ∙ h.longest m lt le;
}
  where
    same : (text : List ℕ) (m : ℕ) → get_or text 0 0 ≡ 47 → begins (λ b. eqb b 47) (drop 1 text) ≡ false → begins (λ b. eqb b 42) (drop 1 text) ≡ false → 0 < m → m ≤ length text → slashed (drop 1 (take m text)) ≡ sign (take m text)
    same [] m first line block lt le = absurd (omega arith)
    same (a ∷ bs) zero first line block lt le = absurd (omega arith)
    same (a ∷ bs) (suc zero) first line block lt le = ap (λ x. sign (x ∷ [])) (sym first)
    same (a ∷ []) (suc (suc m)) first line block lt le = absurd (omega arith)
    same (a ∷ b ∷ bs) (suc (suc m)) first line block lt le = rw line (rw block (ap (λ z. sign (z ∷ b ∷ take m bs)) (sym first)))
