-- Runs of bytes, and the tokens of a text from a place on.
use Rattle.std.proofs.Common.{arith, get_or, option_map, Err, ◌≢◌, ◌≡◌, ◌≤◌, ◌<◌, ◌+◌, ℕ, zero, suc, Bool, true, false, cond, List, [], ◌∷◌, ◌++◌, length, take, drop, Some, None, refl, sym, ap, ◌∙◌, subst, append_assoc}
use Rattle.formula_rules.specs.declared.token.Token.{Token}
use Rattle.formula_rules.specs.declared.token.Token.TheVariants.{Text}
use Rattle.std.proofs.lemmas.Bool.Decides.{nat_tests}
use Rattle.std.proofs.lemmas.List.{append-nil}
use Rattle.std.proofs.lemmas.Option.{same_Some}
use Rattle.std.proofs.lemmas.Str.{IsUtf8-from_is_utf8, is_utf8-from_IsUtf8}
use Rattle.std.proofs.Math.Numerals.{add-one}
use Rattle.std.proofs.Math.Seq.{drop-cons}
use Rattle.formula_rules.specs.declared.fault.RuleFault.{RuleFault}
use Rattle.formula_rules.specs.declared.fault.RuleFault.TheVariants.{BadRule, NoMemory}
use Rattle.formula_rules.specs.Readings.{NextIs, AreTokens}
use Rattle.std.specs.Str.{IsUtf8, is_utf8}
use Rattle.formula_rules.specs.Tokens.{run, behind, is_blank, is_number_byte, is_quoted, text_of, closed, text_at, token_at, HasTokens}

take_step : (c : Bool) (b : ℕ) (bs rs : List ℕ) → take (length rs) bs ≡ rs → take (length (cond c (b ∷ rs) [])) (b ∷ bs) ≡ cond c (b ∷ rs) []
take_step true b bs rs e = ap (λ l. b ∷ l) e
take_step false b bs rs e = refl

pub take_run : (is : ℕ → Bool) (text : List ℕ) → take (length (run is text)) text ≡ run is text
take_run is [] = refl
take_run is (b ∷ bs) = take_step (is b) b bs (run is bs) (take_run is bs)

drop_step : (c : Bool) (b : ℕ) (bs rs more : List ℕ) → drop (length rs) bs ≡ more → drop (length (cond c (b ∷ rs) [])) (b ∷ bs) ≡ cond c more (b ∷ bs)
drop_step true b bs rs more e = e
drop_step false b bs rs more e = refl

pub drop_run : (is : ℕ → Bool) (text : List ℕ) → drop (length (run is text)) text ≡ behind is text
drop_run is [] = refl
drop_run is (b ∷ bs) = drop_step (is b) b bs (run is bs) (behind is bs) (drop_run is bs)

short_step : (c : Bool) (b : ℕ) (bs rs : List ℕ) → length rs ≤ length bs → length (cond c (b ∷ rs) []) ≤ length (b ∷ bs)
short_step true b bs rs h = omega arith
short_step false b bs rs h = omega arith

pub run_short : (is : ℕ → Bool) (text : List ℕ) → length (run is text) ≤ length text
run_short is [] = omega arith
run_short is (b ∷ bs) = short_step (is b) b bs (run is bs) (run_short is bs)

-- a run is a run
again_step : (c : Bool) (b : ℕ) (rs : List ℕ) (is : ℕ → Bool) → is b ≡ c → run is rs ≡ rs → run is (cond c (b ∷ rs) []) ≡ cond c (b ∷ rs) []
again_step true b rs is e h = ap (λ c. cond c (b ∷ run is rs) []) e ∙ ap (λ l. b ∷ l) h
again_step false b rs is e h = refl

pub run_again : (is : ℕ → Bool) (text : List ℕ) → run is (run is text) ≡ run is text
run_again is [] = refl
run_again is (b ∷ bs) = again_step (is b) b (run is bs) is refl (run_again is bs)

-- ---- numbers are ASCII

number_byte_small : (b : ℕ) → is_number_byte b ≡ true → b < 128
number_byte_small b h = grind (arith, nat_tests)

small_step : (c : Bool) (b : ℕ) (rs : List ℕ) (i : ℕ) → is_number_byte b ≡ c → ((k : ℕ) → get_or rs k 0 < 128) → get_or (cond c (b ∷ rs) []) i 0 < 128
small_step true b rs zero e h = number_byte_small b e
small_step true b rs (suc i) e h = h i
small_step false b rs i e h = omega arith

pub number_run_ascii : (text : List ℕ) (i : ℕ) → get_or (run is_number_byte text) i 0 < 128
number_run_ascii [] i = omega arith
number_run_ascii (b ∷ bs) i = small_step (is_number_byte b) b (run is_number_byte bs) i refl (number_run_ascii bs)

-- ---- texts

pub is_text : (bytes : List ℕ) → IsUtf8 bytes → text_of bytes ≡ Some bytes
is_text bytes h = ap (λ c. cond c (Some bytes) None) (is_utf8-from_IsUtf8 bytes h)

no_text_step : (bytes : List ℕ) (c : Bool) → is_utf8 bytes ≡ c → (IsUtf8 bytes → ⊥) → cond c (Some bytes) None ≡ None
no_text_step bytes true e h = absurd (h (IsUtf8-from_is_utf8 bytes e))
no_text_step bytes false e h = refl

pub no_text : (bytes : List ℕ) → (IsUtf8 bytes → ⊥) → text_of bytes ≡ None
no_text bytes h = no_text_step bytes (is_utf8 bytes) refl h

pub quoted_is : (inside : List ℕ) (size : ℕ) (text : List ℕ) → take size inside ≡ run is_quoted inside → drop size inside ≡ behind is_quoted inside → size < length inside → text_of (take size inside) ≡ Some text
    → text_at inside ≡ Some (Text text, drop (size + 1) inside)
quoted_is inside size text front rest short is =
    let next : drop size inside ≡ get_or inside size 0 ∷ drop (size + 1) inside = rw (add-one, drop-cons inside size 0) in
    ap (λ l. closed l (behind is_quoted inside)) (sym front) ∙ ap (closed (take size inside)) (sym rest ∙ next) ∙ ap (λ o. option_map (λ (t : List ℕ). (Text t, drop (size + 1) inside)) o) is

-- ---- the tokens of a text from a place on

-- blanks are passed once
pub behind_again : (is : ℕ → Bool) (text : List ℕ) → behind is (behind is text) ≡ behind is text
behind_again is [] = refl
behind_again is (b ∷ bs) = again (is b) b (behind is bs) bs is refl (behind_again is bs) where
  again : (c : Bool) (b : ℕ) (rest bs : List ℕ) (is : ℕ → Bool) → is b ≡ c → behind is rest ≡ rest → behind is (cond c rest (b ∷ bs)) ≡ cond c rest (b ∷ bs)
  again true b rest bs is e h = h
  again false b rest bs is e h = ap (λ c. cond c (behind is bs) (b ∷ bs)) e

-- these tokens stand before a place, and the others from it on
pub record SoFar (text : List ℕ) (tokens : List Token) (at : ℕ) : Type 0 where
  pub within : at ≤ length text
  pub more : (others : List Token) → HasTokens (drop at text) others → HasTokens text (tokens ++ others)
  pub all : (every : List Token) → HasTokens text every → (others : List Token) × (every ≡ tokens ++ others) × HasTokens (drop at text) others

pub none_yet : (text : List ℕ) → SoFar text [] 0
none_yet text = record { within = omega arith; more = λ others h. h; all = λ every h. (every, refl, h) }

module _ (text : List ℕ) (tokens : List Token) (at : ℕ) (s : SoFar text tokens at) where
  next_are : (t : Token) (end : ℕ) → token_at (behind is_blank (drop at text)) ≡ Some (t, drop end text) → (others : List Token) → HasTokens (drop at text) others
      → (rest : List Token) × (others ≡ t ∷ rest) × HasTokens (drop end text) rest
  next_are t end is [] h = absurd (none_some (ap token_at (sym h) ∙ is)) where
    none_some : {A : Type 0} {x : A} → None ≡ Some x → ⊥
    none_some e = absurd (cc)
  next_are t end is (u ∷ rest) (left, here, h) =
      let pair = same_Some (u, left) (t, drop end text) (sym here ∙ is) in
      (rest, ap (λ p. p.0 ∷ rest) pair, subst (λ p. HasTokens p.1 rest) pair h)

  pub one_token : (t : Token) (end : ℕ) → end ≤ length text → token_at (behind is_blank (drop at text)) ≡ Some (t, drop end text) → SoFar text (tokens ++ t ∷ []) end
  one_token t end short is = record {
    within = short;
    more = λ others h. subst (λ l. HasTokens text l) (sym (append_assoc tokens (t ∷ []) others)) (s.more (t ∷ others) (drop end text, is, h));
    all = λ every h.
        let a = s.all every h in
        let n = next_are t end is a.0 a.2 in
        (n.0, a.1 ∙ ap (λ l. tokens ++ l) n.1 ∙ sym (append_assoc tokens (t ∷ []) n.0), n.2);
  }

  pub all_tokens : behind is_blank (drop at text) ≡ [] → HasTokens text tokens
  all_tokens h = subst (λ l. HasTokens text l) (append-nil tokens) (s.more [] h)

  pub no_token : token_at (behind is_blank (drop at text)) ≡ None → behind is_blank (drop at text) ≢ [] → (every : List Token) → HasTokens text every → ⊥
  no_token none some every h = stuck (s.all every h) where
    stuck : (others : List Token) × (every ≡ tokens ++ others) × HasTokens (drop at text) others → ⊥
    stuck ([], e, h) = some h
    stuck (t ∷ rest, e, (left, here, h)) = absurd (cc)

  pub no_tokens : (fault : RuleFault) → NextIs text at (Err fault) → AreTokens text (Err fault)
  no_tokens BadRule h = no_token h.1 h.0
  no_tokens NoMemory h = tt
