-- One byte more.
use Rattle.std.proofs.Common.{◌≡◌, ◌≢◌, inl, inr, ⊎_elim, ℕ, ◌+◌, ◌<◌, cond, List, [], ◌∷◌, ◌++◌, length, take, get_or, eqb, add_assoc, zero-add, refl, sym, ap, ◌∙◌, subst, arith, append_assoc, append-nil, length-append}
use Rattle.std.proofs.lemmas.List.{take_more}
use Rattle.std.proofs.lemmas.Bool.Decides.{eqb_tells}
use Rattle.apex_text.specs.Place.{feeds, IsPlace}

feeds-append : (xs ys : List ℕ) → feeds (xs ++ ys) ≡ feeds xs + feeds ys
feeds-append [] ys = sym (zero-add (feeds ys))
feeds-append (x ∷ xs) ys =
    ap (λ n. cond (eqb x 10) 1 0 + n) (feeds-append xs ys) ∙ sym (add_assoc (cond (eqb x 10) 1 0) (feeds xs) (feeds ys))

not_ten : (b : ℕ) → b ≢ 10 → feeds (b ∷ []) ≡ 0
not_ten b ne = ap (λ t. cond t 1 0 + 0) (⊎_elim (λ e. absurd (ne e.1)) (λ e. e.0) (eqb_tells b 10))

pub place_first : (text : List ℕ) → IsPlace text 0 1 1
place_first text = record { lines = refl; above = []; front = []; cut = refl; begins = inl refl; one_line = refl; column_is = refl }

pub place_feed : (text : List ℕ) (i line column : ℕ) → i < length text → get_or text i 0 ≡ 10 → IsPlace text i line column → IsPlace text (i + 1) (line + 1) 1
place_feed text i line column lt is p =
    let more : take (i + 1) text ≡ take i text ++ 10 ∷ [] = take_more text i 0 lt ∙ ap (λ b. take i text ++ b ∷ []) is in
    let n = p.lines in
    let count : feeds (take (i + 1) text) ≡ feeds (take i text) + 1 = ap feeds more ∙ feeds-append (take i text) (10 ∷ []) in
    record {
      lines = omega arith;
      above = take i text ++ 10 ∷ [];
      front = [];
      cut = more ∙ sym (append-nil (take i text ++ 10 ∷ []));
      begins = inr (take i text, refl);
      one_line = refl;
      column_is = refl;
    }

pub place_more : (text : List ℕ) (i line column : ℕ) → i < length text → get_or text i 0 ≢ 10 → IsPlace text i line column → IsPlace text (i + 1) line (column + 1)
place_more text i line column lt is p =
    let b = get_or text i 0 in
    let more : take (i + 1) text ≡ take i text ++ b ∷ [] = take_more text i 0 lt in
    let none : feeds (b ∷ []) ≡ 0 = not_ten b is in
    let count : feeds (take (i + 1) text) ≡ feeds (take i text) + feeds (b ∷ []) = ap feeds more ∙ feeds-append (take i text) (b ∷ []) in
    let n = p.lines in let c = p.column_is in let o = p.one_line in
    let f = feeds-append p.front (b ∷ []) in
    let l = length-append p.front (b ∷ []) in
    record {
      lines = omega arith;
      above = p.above;
      front = p.front ++ b ∷ [];
      cut = more ∙ ap (λ x. x ++ b ∷ []) p.cut ∙ append_assoc p.above p.front (b ∷ []);
      begins = p.begins;
      one_line = omega arith;
      column_is = omega arith;
    }

pub placed : (text : List ℕ) (i a b c d : ℕ) → a ≡ c → b ≡ d → IsPlace text i c d → IsPlace text i a b
placed text i a b c d e f h = subst (λ x. IsPlace text i x b) (sym e) (subst (λ y. IsPlace text i c y) (sym f) h)
