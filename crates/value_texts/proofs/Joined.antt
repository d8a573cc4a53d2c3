-- Texts that are put behind a line one by one.
use Rattle.std.proofs.Common.{◌≡◌, ℕ, zero, suc, ◌+◌, ◌<◌, ◌≤◌, Bool, true, false, List, [], ◌∷◌, ◌++◌, length, drop, get_or, Option, None, Some, Result, Ok, Err, refl, sym, ap, subst, ◌∙◌, arith, add-one, append_assoc, append-nil, length-append}
use Rattle.std.specs.Prelude.{string_bytes, IsErr, IsErrAnd}
use Rattle.std.proofs.lemmas.List.{drop_all}
use Rattle.apex_num.specs.declared.cell.Cell.{Cell}
use Rattle.apex_schema.specs.declared.schema.Field.{Field}
use Rattle.value_texts.specs.declared.line.Line.{Line}
use Rattle.value_texts.specs.declared.line.TextEnd.{TextEnd}
use Rattle.value_texts.specs.declared.line.TextEnd.TheVariants.{TooLong, NoMemory}
use Rattle.value_texts.specs.Texts.{known_cells, behind_commas, pair_text, pair_texts}
use Rattle.value_texts.specs.Pieces.{Done, Stops, Tells, tail_of, known_one, piece, still_first, comma}

-- ---- one text and another

pub long_front : (left : ℕ) (a b : List ℕ) → left < length a → left < length (a ++ b)
long_front left a b lt = let l = length-append a b in omega arith

pub goes : {B : Type 0} (a b : List ℕ) (old mid new : Line) (r : Result B TextEnd) → Done a old mid → Tells b mid new r → Tells (a ++ b) old new r
goes a b old mid new (Ok done) h k =
    let l = length-append a b in (k.0 ∙ ap (λ x. x ++ b) h.0 ∙ append_assoc (string_bytes old.text) a b, let f = h.1 in let g = k.1 in omega arith)
goes a b old mid new (Err TooLong) h k = let l = length-append a b in let f = h.1 in omega arith
goes a b old mid new (Err NoMemory) h k = tt

-- ---- cells that are known

pub known_none : (i : ℕ) (fs : List Field) (cells : List (Option Cell)) → length cells ≤ i → known_cells (drop i fs) (drop i cells) ≡ []
known_none i fs cells le = ap (λ cs. known_cells (drop i fs) cs) (drop_all i cells le) ∙ none (drop i fs) where
  none : (gs : List Field) → known_cells gs [] ≡ []
  none [] = refl
  none (g ∷ gs) = refl

module _ {A : Type 0} where
  here : (i : ℕ) (xs : List A) (x : A) → i < length xs → x ≡ get_or xs i x → drop i xs ≡ x ∷ drop (suc i) xs
  here i [] x lt e = absurd (omega arith)
  here zero (y ∷ xs) x lt e = ap (λ z. z ∷ xs) (sym e)
  here (suc i) (y ∷ xs) x lt e = here i xs x (omega arith) e

  there : (i : ℕ) (xs : List A) (x : A) → i < length xs → x ≡ get_or xs i x → drop i xs ≡ x ∷ drop (i + 1) xs
  there i xs x lt e = here i xs x lt e ∙ ap (λ n. x ∷ drop n xs) (sym (add-one i))

one_then : (f : Field) (cell : Option Cell) (fs : List Field) (cells : List (Option Cell)) → known_cells (f ∷ fs) (cell ∷ cells) ≡ known_one f cell ++ known_cells fs cells
one_then f None fs cells = refl
one_then f (Some c) fs cells = refl

known_next : (i : ℕ) (fs : List Field) (f : Field) (cells : List (Option Cell)) (cell : Option Cell) → i < length fs → f ≡ get_or fs i f → i < length cells → cell ≡ get_or cells i cell →
    known_cells (drop i fs) (drop i cells) ≡ known_one f cell ++ known_cells (drop (i + 1) fs) (drop (i + 1) cells)
known_next i fs f cells cell lt e lu g =
    ap (λ x. known_cells x (drop i cells)) (there i fs f lt e) ∙ ap (λ x. known_cells (f ∷ drop (i + 1) fs) x) (there i cells cell lu g) ∙ one_then f cell (drop (i + 1) fs) (drop (i + 1) cells)

piece_first : (first : Bool) (f : Field) (cell : Option Cell) (rest : List (List ℕ × Cell)) → tail_of first (pair_texts (known_one f cell ++ rest)) ≡ piece first f cell ++ tail_of (still_first first cell) (pair_texts rest)
piece_first first f None rest = refl
piece_first true f (Some c) rest = refl
piece_first false f (Some c) rest = sym (append_assoc (comma false) (pair_text (f.name, c)) (behind_commas (pair_texts rest)))

-- the cells from one on are its own piece and the next ones
pub piece_then : (first : Bool) (i : ℕ) (fs : List Field) (f : Field) (cells : List (Option Cell)) (cell : Option Cell) → i < length fs → f ≡ get_or fs i f → i < length cells → cell ≡ get_or cells i cell →
    tail_of first (pair_texts (known_cells (drop i fs) (drop i cells))) ≡ piece first f cell ++ tail_of (still_first first cell) (pair_texts (known_cells (drop (i + 1) fs) (drop (i + 1) cells)))
piece_then first i fs f cells cell lt e lu g =
    ap (λ ps. tail_of first (pair_texts ps)) (known_next i fs f cells cell lt e lu g) ∙ piece_first first f cell (known_cells (drop (i + 1) fs) (drop (i + 1) cells))

pub tail_nothing : (first : Bool) (ps : List (List ℕ × Cell)) → ps ≡ [] → tail_of first (pair_texts ps) ≡ []
tail_nothing true ps e = ap (λ x. tail_of true (pair_texts x)) e
tail_nothing false ps e = ap (λ x. tail_of false (pair_texts x)) e

-- ---- a line, with what is still to come

-- what holds of a line while a text is put behind it: with the rest it is the whole, and the room falls as the line grows
abbrev pub Half : Line → List ℕ → Line → List ℕ → Type 0
Half line tail old text = (string_bytes line.text ++ tail ≡ string_bytes old.text ++ text) × (line.left + length (string_bytes line.text) ≡ old.left + length (string_bytes old.text))

pub half_more : (p tail tail' text : List ℕ) (old line new : Line) → Half line tail old text → tail ≡ p ++ tail' → string_bytes new.text ≡ string_bytes line.text ++ p → new.left + length p ≡ line.left → Half new tail' old text
half_more p tail tail' text old line new h e n l = (
  ap (λ x. x ++ tail') n ∙ append_assoc (string_bytes line.text) p tail' ∙ ap (λ x. string_bytes line.text ++ x) (sym e) ∙ h.0,
  let b = h.1 in let a = ap length n ∙ length-append (string_bytes line.text) p in omega arith,
)

pub half_long : (p tail tail' text : List ℕ) (old line : Line) → Half line tail old text → tail ≡ p ++ tail' → line.left < length p → old.left < length text
half_long p tail tail' text old line h e lt =
    let b = h.1 in
    let w = sym (length-append (string_bytes line.text) tail) ∙ ap length h.0 ∙ length-append (string_bytes old.text) text in
    let t = ap length e ∙ length-append p tail' in
    omega arith

pub half_stopped : {B : Type 0} (p tail tail' text : List ℕ) (old line new' : Line) (e : TextEnd) (res : Result B TextEnd) → IsErr res × IsErrAnd res (λ x. x ≡ e) → Half line tail old text → tail ≡ p ++ tail' → Stops p line e →
    Tells text old new' res
half_stopped p tail tail' text old line new' e (Ok done) r h t k = absurd r.1
half_stopped p tail tail' text old line new' e (Err TooLong) r h t k = half_long p tail tail' text old line h t (subst (λ y. Stops p line y) (sym r.1) k)
half_stopped p tail tail' text old line new' e (Err NoMemory) r h t k = tt

pub half_all : (tail text : List ℕ) (old line : Line) → Half line tail old text → tail ≡ [] → (string_bytes line.text ≡ string_bytes old.text ++ text) × (line.left + length text ≡ old.left)
half_all tail text old line h e =
    let n : string_bytes line.text ≡ string_bytes old.text ++ text = sym (append-nil (string_bytes line.text)) ∙ ap (λ x. string_bytes line.text ++ x) (sym e) ∙ h.0 in
    let b = h.1 in
    let a = ap length n ∙ length-append (string_bytes old.text) text in
    (n, omega arith)
