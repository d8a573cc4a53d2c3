-- A byte of a text is in one line and one column.
use Rattle.std.proofs.Common.{◌≡◌, inl, inr, ℕ, ◌+◌, min, cond, List, [], ◌∷◌, ◌++◌, length, take, eqb, add_assoc, zero-add, refl, sym, ap, ◌∙◌, subst, arith}
use Rattle.apex_text.specs.Place.{feeds, EndsALine, IsPlace}
use Rattle.fault_words.specs.declared.fault.Fault.{Fault}
use Rattle.fault_words.specs.declared.fault.FaultWord.{FaultWord}
use Rattle.tenant_units.specs.Faults.{Tells, place_in}

feeds-append : (xs ys : List ℕ) → feeds (xs ++ ys) ≡ feeds xs + feeds ys
feeds-append [] ys = sym (zero-add (feeds ys))
feeds-append (x ∷ xs) ys =
    ap (λ n. cond (eqb x 10) 1 0 + n) (feeds-append xs ys) ∙ sym (add_assoc (cond (eqb x 10) 1 0) (feeds xs) (feeds ys))

abbrev tail_of : List ℕ → List ℕ
tail_of [] = []
tail_of (x ∷ xs) = xs

abbrev IsMore : List ℕ → Type 0
IsMore [] = ⊥
IsMore (x ∷ xs) = Unit {0}

-- the rest of what ends a line ends a line
rest_ends : (x : ℕ) (a text : List ℕ) → x ∷ a ≡ text ++ 10 ∷ [] → EndsALine a
rest_ends x a [] e = inl (ap tail_of e)
rest_ends x a (t ∷ ts) e = inr (ts, ap tail_of e)

tail_ends : (x : ℕ) (a : List ℕ) → EndsALine (x ∷ a) → EndsALine a
tail_ends x a (inl e) = absurd (subst IsMore e tt)
tail_ends x a (inr (text, e)) = rest_ends x a text e

-- what ends a line has a line feed
has_feed : (x : ℕ) (a front : List ℕ) → EndsALine (x ∷ a) → feeds ((x ∷ a) ++ front) ≡ 0 → ⊥
has_feed x a front (inl e) n = subst IsMore e tt
has_feed x a front (inr (text, e)) n =
    let one : feeds (x ∷ a) ≡ feeds text + 1 = ap feeds e ∙ feeds-append text (10 ∷ []) in
    let all = feeds-append (x ∷ a) front in
    omega arith

cut_one : (a f b g : List ℕ) → a ++ f ≡ b ++ g → EndsALine a → EndsALine b → feeds f ≡ 0 → feeds g ≡ 0 → length f ≡ length g
cut_one [] f [] g e p q m n = ap length e
cut_one [] f (y ∷ b) g e p q m n = absurd (has_feed y b g q (ap feeds (sym e) ∙ m))
cut_one (x ∷ a) f [] g e p q m n = absurd (has_feed x a f p (ap feeds e ∙ n))
cut_one (x ∷ a) f (y ∷ b) g e p q m n = cut_one a f b g (ap tail_of e) (tail_ends x a p) (tail_ends y b q) m n

column_one : (text : List ℕ) (at l c m d : ℕ) → IsPlace text at l c → IsPlace text at m d → c ≡ d
column_one text at l c m d p q = p.column_is ∙ ap (λ n. n + 1) (cut_one p.above p.front q.above q.front (sym p.cut ∙ q.cut) p.begins q.begins p.one_line q.one_line) ∙ sym q.column_is

line_one : (text : List ℕ) (at l c m d : ℕ) → IsPlace text at l c → IsPlace text at m d → l ≡ m
line_one text at l c m d p q = p.lines ∙ sym q.lines

abbrev fault_in : List ℕ → ℕ → ℕ → FaultWord → Fault
fault_in name l c word = record { place = place_in name l c; word = word }

-- what is told of a byte is one fault
pub tells_one : (name text : List ℕ) (at : ℕ) (word : FaultWord) (f g : Fault) → Tells name text at word f → Tells name text at word g → g ≡ f
tells_one name text at word f g p q =
    let b = min at (length text) in
    q.is ∙ ap (λ l. fault_in name l q.column word) (line_one text b q.line q.column p.line p.column q.is_place p.is_place)
    ∙ ap (λ c. fault_in name p.line c word) (column_one text b q.line q.column p.line p.column q.is_place p.is_place) ∙ sym p.is
