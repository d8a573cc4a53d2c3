-- Number literals.
use Rattle.std.proofs.Common.{◌≡◌, ◌≢◌, ℕ, zero, suc, ◌+◌, ◌-◌, ◌<◌, ◌≤◌, ◌&&◌, ◌^◌, pos, leb, nat_lt, Bool, true, false, cond, eqb, List, [], ◌∷◌, length, take, drop, Some, None, refl, sym, ap, ◌∙◌, subst, arith, length-drop}
use Rattle.std.specs.List.{list_all}
use Rattle.std.specs.Char.{is_ascii_digit}
use Rattle.std.proofs.lemmas.List.{length-take-le, drop-take}
use Rattle.std.specs.Str.Parse.{digits_value}
use Rattle.apex_lexer.specs.declared.token.TokenKind.{TokenKind}
use Rattle.apex_lexer.specs.declared.token.TokenKind.TheVariants.{Long, Decimal, End}
use Rattle.apex_lexer.specs.declared.lexeme.LexWord.TheVariants.{WideLiteral}
use Rattle.apex_lexer.specs.declared.lexeme.Lexeme.TheVariants.{Says, Wrong}
use Rattle.apex_lexer.specs.declared.lexeme.Lexeme.{Lexeme}
use Rattle.apex_lexer.specs.Lexemes.{front, within, millionths, decimal, number_of, number}
use Rattle.apex_lexer.specs.Scans.{begins, is_long_letter, has_part, Fits, Goes, IsLongest}
use Rattle.apex_lexer.proofs.Runs.{front_most, front_some, run_all, run_more, front_take}

shorter : (k m : ℕ) (xs : List ℕ) → k ≤ m → take k (take m xs) ≡ take k xs
shorter zero m xs le = refl
shorter (suc k) zero xs le = absurd (omega arith)
shorter (suc k) (suc m) [] le = refl
shorter (suc k) (suc m) (x ∷ xs) le = ap (λ l. x ∷ l) (shorter k m xs (omega arith))

cut : (k m : ℕ) (xs : List ℕ) → k ≤ m → drop k (take m xs) ≡ take (m - k) (drop k xs)
cut k m xs le = let e : k + (m - k) ≡ m = omega arith in ap (λ n. drop k (take n xs)) (sym e) ∙ drop-take k (m - k) xs

-- a number, behind its digits
number_at : (text : List ℕ) (m : ℕ) → front is_ascii_digit text ≤ m → number (take m text) ≡ number_of (take (front is_ascii_digit text) text) (take (m - front is_ascii_digit text) (drop (front is_ascii_digit text) text))
number_at text m le =
    let k = front is_ascii_digit text in
    let e : front is_ascii_digit (take m text) ≡ k = front_take is_ascii_digit text m le in
    ap (λ n. number_of (take n (take m text)) (drop n (take m text))) e ∙ ap (λ w. number_of w (drop k (take m text))) (shorter k m text le) ∙ ap (number_of (take k text)) (cut k m text le)

second_false : (a b : Bool) → b ≡ false → (a && b) ≡ false
second_false true b e = e
second_false false b e = refl

long_not_dot : (b : ℕ) → is_long_letter b ≡ true → eqb b 46 ≡ false
long_not_dot b e = grind arith

pub long_goes : (whole rest : List ℕ) (l : Lexeme) → begins is_long_letter rest ≡ true → ((c : ℕ) → is_long_letter c ≡ true → number_of whole (c ∷ []) ≡ Some l) → Fits (length whole + 1) l → Goes whole rest 1 l
long_goes whole [] l e is fits = cc
long_goes whole (c ∷ r) l e is fits = record {
  within = omega arith;
  fits = fits;
  spells = is c e;
  longest = more r;
}
  where
    more : (r : List ℕ) (m : ℕ) → 1 < m → m ≤ length (c ∷ r) → number_of whole (take m (c ∷ r)) ≡ None
    more r zero lt le = absurd (omega arith)
    more r (suc zero) lt le = absurd (omega arith)
    more [] (suc (suc m)) lt le = absurd (omega arith)
    more (d ∷ ds) (suc (suc m)) lt le = ap (λ t. cond (t && list_all is_ascii_digit (d ∷ take m ds)) (Some (decimal whole (d ∷ take m ds))) None) (long_not_dot c e)

pub part_goes : (whole rest : List ℕ) (l : Lexeme) → has_part rest ≡ true → decimal whole (take (front is_ascii_digit (drop 1 rest)) (drop 1 rest)) ≡ l → Fits (length whole + suc (front is_ascii_digit (drop 1 rest))) l → Goes whole rest (suc (front is_ascii_digit (drop 1 rest))) l
part_goes whole [] l e is fits = cc
part_goes whole (b ∷ []) l e is fits = let f : false ≡ true = sym (second_false (eqb b 46) false refl) ∙ e in cc
part_goes whole (b ∷ d ∷ ds) l e is fits =
    let p = front is_ascii_digit (d ∷ ds) in
    let dot : eqb b 46 ≡ true = first (eqb b 46) (is_ascii_digit d) e in
    let digit : is_ascii_digit d ≡ true = second (eqb b 46) (is_ascii_digit d) e in
    let some = front_some is_ascii_digit (d ∷ ds) digit in
    let one : p ≡ suc (p - 1) = omega arith in record {
      fits = fits;
      within = let f = front_most is_ascii_digit (d ∷ ds) in omega arith;
      spells = go (p - 1) p one dot (run_all is_ascii_digit (d ∷ ds)) ∙ ap Some is;
      longest = λ m lt le. past m dot (omega arith) le (λ n l h. run_more is_ascii_digit (d ∷ ds) n l h) lt;
    }
  where
    first : (x y : Bool) → (x && y) ≡ true → x ≡ true
    first true y h = refl
    first false y h = h

    second : (x y : Bool) → (x && y) ≡ true → y ≡ true
    second true y h = h
    second false y h = cc

    go : (q p : ℕ) → p ≡ suc q → eqb b 46 ≡ true → list_all is_ascii_digit (take p (d ∷ ds)) ≡ true → number_of whole (take (suc p) (b ∷ d ∷ ds)) ≡ Some (decimal whole (take p (d ∷ ds)))
    go q p one dot all =
        ap (λ n. number_of whole (b ∷ take n (d ∷ ds))) one ∙ ap (λ t. cond (t && list_all is_ascii_digit (d ∷ take q ds)) (Some (decimal whole (d ∷ take q ds))) None) dot
        ∙ ap (λ t. cond t (Some (decimal whole (d ∷ take q ds))) None) (sym (ap (λ n. list_all is_ascii_digit (take n (d ∷ ds))) one) ∙ all)
        ∙ ap (λ n. Some (decimal whole (take n (d ∷ ds)))) (sym one)

    past : (m : ℕ) → eqb b 46 ≡ true → 1 < m → m ≤ length (b ∷ d ∷ ds) → ((n : ℕ) → front is_ascii_digit (d ∷ ds) < n → n ≤ length (d ∷ ds) → list_all is_ascii_digit (take n (d ∷ ds)) ≡ false)
        → suc (front is_ascii_digit (d ∷ ds)) < m → number_of whole (take m (b ∷ d ∷ ds)) ≡ None
    past zero dot two le all lt = absurd (omega arith)
    past (suc zero) dot two le all lt = absurd (omega arith)
    past (suc (suc m)) dot two le all lt =
        ap (λ t. cond t (Some (decimal whole (d ∷ take m ds))) None) (second_false (eqb b 46) (list_all is_ascii_digit (d ∷ take m ds)) (all (suc m) (omega arith) (omega arith)))

pub whole_goes : (whole rest : List ℕ) (l : Lexeme) → begins is_long_letter rest ≡ false → has_part rest ≡ false → number_of whole [] ≡ Some l → Fits (length whole + 0) l → Goes whole rest 0 l
whole_goes whole rest l long part is fits = record { fits = fits; within = omega arith; spells = is; longest = λ m lt le. more rest m lt le long part }
  where
    no_part : (b d : ℕ) (ds : List ℕ) → (eqb b 46 && is_ascii_digit d) ≡ false → (eqb b 46 && (is_ascii_digit d && list_all is_ascii_digit ds)) ≡ false
    no_part b d ds h = by (eqb b 46) (is_ascii_digit d) h
      where
        by : (x y : Bool) → (x && y) ≡ false → (x && (y && list_all is_ascii_digit ds)) ≡ false
        by true true h = cc
        by true false h = refl
        by false y h = refl

    more : (rest : List ℕ) (m : ℕ) → 0 < m → m ≤ length rest → begins is_long_letter rest ≡ false → has_part rest ≡ false → number_of whole (take m rest) ≡ None
    more rest zero lt le long part = absurd (omega arith)
    more [] (suc m) lt le long part = absurd (omega arith)
    more (c ∷ r) (suc zero) lt le long part = rw long refl
    more (c ∷ []) (suc (suc m)) lt le long part = absurd (omega arith)
    more (c ∷ d ∷ ds) (suc (suc m)) lt le long part = ap (λ t. cond t (Some (decimal whole (d ∷ take m ds))) None) (no_part c d (take m ds) part)

pub number_longest : (text : List ℕ) (n : ℕ) (l : Lexeme) → begins is_ascii_digit text ≡ true → Goes (take (front is_ascii_digit text) text) (drop (front is_ascii_digit text) text) n l
    → IsLongest number text (record { size = front is_ascii_digit text + n; lexeme = l })
number_longest text n l digit g =
    let k = front is_ascii_digit text in
    let some = front_some is_ascii_digit text digit in
    let most = front_most is_ascii_digit text in
    let size = length-drop k text in
    let long : length (take k text) ≡ k = length-take-le k text most in record {
      some = omega arith;
      fits = subst (λ j. Fits (j + n) l) long g.fits;
      within = let w = g.within in omega arith;
      spells = number_at text (k + n) (omega arith) ∙ (let e : k + n - k ≡ n = omega arith in ap (λ j. number_of (take k text) (take j (drop k text))) e) ∙ g.spells;
      longest = λ m lt le. number_at text m (omega arith) ∙ g.longest (m - k) (omega arith) (omega arith);
    }

pub long_is : (whole : List ℕ) (l : Lexeme) → l ≡ within (digits_value 10 whole) (2 ^ 63) (Long (pos (digits_value 10 whole))) (length whole + 1) → (c : ℕ) → is_long_letter c ≡ true → number_of whole (c ∷ []) ≡ Some l
long_is whole l is c e =
    let one : suc (length whole) ≡ length whole + 1 = omega arith in
    ap (λ t. cond t (Some (within (digits_value 10 whole) (2 ^ 63) (Long (pos (digits_value 10 whole))) (suc (length whole)))) None) e
    ∙ ap (λ n. Some (within (digits_value 10 whole) (2 ^ 63) (Long (pos (digits_value 10 whole))) n)) one ∙ ap Some (sym is)

-- a number that is too great is a fault of the whole number
pub within_fits : (value most size : ℕ) (kind : TokenKind) → kind ≢ End → 0 < size → Fits size (within value most kind size)
within_fits value most size kind other some = by (nat_lt value most)
  where
    by : (t : Bool) → Fits size (cond t (Says kind) (Wrong WideLiteral 0 size))
    by true = other
    by false = (some, omega arith)

decimal_fits : (whole part : List ℕ) → Fits (length whole + suc (length part)) (decimal whole part)
decimal_fits whole part = by (leb (length part) 6)
  where
    by : (t : Bool) → Fits (length whole + suc (length part)) (cond t (within (millionths whole part) (10 ^ 19) (Decimal (millionths whole part)) (length whole + suc (length part))) (Wrong WideLiteral 0 (length whole + suc (length part))))
    by true = within_fits (millionths whole part) (10 ^ 19) (length whole + suc (length part)) (Decimal (millionths whole part)) (λ e. cc) (omega arith)
    by false = (omega arith, omega arith)

pub part_found : (whole rest part : List ℕ) (l : Lexeme) → has_part rest ≡ true → part ≡ take (front is_ascii_digit (drop 1 rest)) (drop 1 rest) → l ≡ decimal whole part → Goes whole rest (length part + 1) l
part_found whole rest part l e is d =
    let long : length part ≡ front is_ascii_digit (drop 1 rest) = ap length is ∙ length-take-le (front is_ascii_digit (drop 1 rest)) (drop 1 rest) (front_most is_ascii_digit (drop 1 rest)) in
    let size : suc (front is_ascii_digit (drop 1 rest)) ≡ length part + 1 = omega arith in
    let more : length whole + suc (length part) ≡ length whole + suc (front is_ascii_digit (drop 1 rest)) = omega arith in
    subst (λ n. Goes whole rest n l) size (part_goes whole rest l e (sym (d ∙ ap (decimal whole) is)) (subst (λ n. Fits n l) more (subst (Fits (length whole + suc (length part))) (sym d) (decimal_fits whole part))))

pub part_digits : (rest part : List ℕ) → part ≡ take (front is_ascii_digit rest) rest → list_all is_ascii_digit part ≡ true
part_digits rest part e = ap (list_all is_ascii_digit) e ∙ run_all is_ascii_digit rest
