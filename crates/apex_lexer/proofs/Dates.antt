-- Dates and moments at the front of a text.
use Rattle.std.proofs.Common.{arith, ◌≡◌, ⊎_elim, inl, inr, ◌+◌, ◌-◌, ◌≤◌, ℕ, Bool, true, false, List, length, take, drop, Option, Some, None, refl, sym, ap, ◌∙◌, ◌&&◌, eqb}
use Rattle.std.proofs.lemmas.List.{length-take-le, length-take, take-take, drop-take, get_or-take}
use Rattle.civil_dates.specs.Texts.{is_three, begins_date, begins_moment, BeginsDate, BeginsMoment}
use Rattle.civil_dates.proofs.TextSteps.{fields_decide, begins_decide, moment_long as begins_long}
use Rattle.apex_lexer.specs.declared.lexeme.Lexeme.{Lexeme}
use Rattle.apex_lexer.specs.declared.scan.Found.{Found}
use Rattle.apex_lexer.specs.Lexemes.{plain, DateSays, MomentSays, Dated}
use Rattle.apex_lexer.specs.Reading.{IsFirst}
use Rattle.apex_lexer.specs.Scans.{IsLongest}

pub date_long : (text : List ℕ) → BeginsDate text → 10 ≤ length text
date_long text d = let f = (fields_decide 4 45 (take 10 text)).0 d in let e = f.0 in let l = length-take 10 text in omega arith

pub moment_long : (text : List ℕ) → BeginsMoment text → 20 ≤ length text
moment_long text m = begins_long text ((begins_decide text).0 m)

moment_date : (text : List ℕ) → BeginsMoment text → BeginsDate text
moment_date text m = ((begins_decide text).0 m).0

-- a front that is long enough begins as the whole does
date_same : (text : List ℕ) (m : ℕ) → 10 ≤ m → begins_date (take m text) ≡ begins_date text
date_same text m le = ap (is_three 4 45) (take-take 10 m text le)

clock_same : (text : List ℕ) (m : ℕ) → 20 ≤ m → take 8 (drop 11 (take m text)) ≡ take 8 (drop 11 text)
clock_same text m le =
    let k : 11 + (m - 11) ≡ m = omega arith in
    ap (take 8) (ap (λ n. drop 11 (take n text)) (sym k) ∙ drop-take 11 (m - 11) text) ∙ take-take 8 (m - 11) (drop 11 text) (omega arith)

moment_same : (text : List ℕ) (m : ℕ) → 20 ≤ m → begins_moment (take m text) ≡ begins_moment text
moment_same text m le =
    let date = date_same text m (omega arith) in
    let sign = get_or-take m text 10 0 (omega arith) in
    let time = clock_same text m le in
    let zone = get_or-take m text 19 0 (omega arith) in
    λ i. date i && (eqb (sign i) 84 && (is_three 2 58 (time i) && eqb (zone i) 90))

-- a front that begins so
date_whole : (text : List ℕ) (m : ℕ) → BeginsDate (take m text) → BeginsDate text
date_whole text m d = let l = date_long (take m text) d in let t = length-take m text in sym (date_same text m (omega arith)) ∙ d

moment_whole : (text : List ℕ) (m : ℕ) → BeginsMoment (take m text) → BeginsMoment text
moment_whole text m d = let l = moment_long (take m text) d in let t = length-take m text in sym (moment_same text m (omega arith)) ∙ d

date_front : (text : List ℕ) (m : ℕ) → 10 ≤ m → BeginsDate text → BeginsDate (take m text)
date_front text m le d = date_same text m le ∙ d

moment_front : (text : List ℕ) (m : ℕ) → 20 ≤ m → BeginsMoment text → BeginsMoment (take m text)
moment_front text m le d = moment_same text m le ∙ d

-- what has a date or moment's form begins as a date
pub dated_begins : (bytes : List ℕ) (l : Lexeme) → Dated bytes l → BeginsDate bytes
dated_begins bytes l d = ⊎_elim (λ h. h.1) (λ h. moment_date bytes h.1) d

none_some : {A : Type 0} {B : Type 0} (o : Option B) (b : B) → o ≡ None → o ≡ Some b → A
none_some o b n s = let e : None ≡ Some b = sym n ∙ s in cc

-- the longest piece, dates apart, is the first one where non date begins
pub plain_first : (dates : Bool) (text : List ℕ) (found : Found) → IsLongest plain text found → (dates ≡ true → BeginsDate text → ⊥) → IsFirst dates text found.size found.lexeme
plain_first false text found h non = record {
  some = h.some;
  within = h.within;
  spells = h.spells;
  longest = λ m other lt le s. none_some (plain (take m text)) other (h.longest m lt le) s;
}
plain_first true text found h non = record {
  some = h.some;
  within = h.within;
  spells = inr (λ d. non refl (date_whole text found.size d), h.spells);
  longest = λ m other lt le s. ⊎_elim (λ d. non refl (date_whole text m (dated_begins (take m text) other d))) (λ p. none_some (plain (take m text)) other (h.longest m lt le) p.1) s;
}

pub moment_first : (text : List ℕ) (l : Lexeme) → BeginsMoment text → MomentSays (take 20 text) l → IsFirst true text 20 l
moment_first text l b says =
    let long = moment_long text b in record {
      some = omega arith;
      within = long;
      spells = inl (inr (length-take-le 20 text long, moment_front text 20 (omega arith) b, says));
      longest = λ m other lt le s.
          let n = length-take-le m text le in
          ⊎_elim (λ d. ⊎_elim (λ h. let e = h.0 in absurd (omega arith)) (λ h. let e = h.0 in absurd (omega arith)) d)
          (λ p. p.0 (date_front text m (omega arith) (moment_date text b))) s;
    }

pub date_first : (text : List ℕ) (l : Lexeme) → BeginsDate text → (BeginsMoment text → ⊥) → DateSays (take 10 text) l → IsFirst true text 10 l
date_first text l b non says =
    let long = date_long text b in record {
      some = omega arith;
      within = long;
      spells = inl (inl (length-take-le 10 text long, date_front text 10 (omega arith) b, says));
      longest = λ m other lt le s.
          let n = length-take-le m text le in
          ⊎_elim (λ d. ⊎_elim (λ h. let e = h.0 in absurd (omega arith)) (λ h. non (moment_whole text m h.1)) d)
          (λ p. p.0 (date_front text m (omega arith) b)) s;
    }
