-- Patterns by their parts, and columns.
use Rattle.std.proofs.Common.{◌≡◌, refl, ap, sym, ◌∙◌, ℕ, Bool, true, false, cond, List, [], ◌∷◌, ◌++◌}
use Rattle.std.specs.Prelude.{◌&&◌, ◌||◌, eqb, reverse}
use Rattle.std.proofs.Math.Bool.{and-true}
use Rattle.std.proofs.lemmas.List.{append_assoc, append-nil, reverse-append, reverse-reverse}
use Rattle.std.specs.Str.{chars}
use Rattle.apex_text.specs.Fold.{folded}
use Rattle.row_meaning.specs.Cells.{some_end, one_then, agrees, text_like}
use Rattle.row_conditions.specs.declared.like.Piece.{Piece}
use Rattle.row_conditions.specs.declared.like.Piece.TheVariants.{Run, One, Is}
use Rattle.row_conditions.specs.Pieces.{pieces, meets, column_from, column, last_from, last_of, is_run, begun, ended, turned_from, turned}

-- ---- a pattern and its parts

some_same : (f g : List ℕ → Bool) → ((t : List ℕ) → f t ≡ g t) → (t : List ℕ) → some_end f t ≡ some_end g t
some_same f g h [] = h []
some_same f g h (c ∷ cs) = ap (λ b. b || some_end f cs) (h (c ∷ cs)) ∙ ap (λ b. g (c ∷ cs) || b) (some_same f g h cs)

one_same : (char : ℕ → Bool) (f g : List ℕ → Bool) → ((t : List ℕ) → f t ≡ g t) → (t : List ℕ) → one_then char f t ≡ one_then char g t
one_same char f g h [] = refl
one_same char f g h (c ∷ cs) = ap (λ b. char c && b) (h cs)

by_piece : (p : ℕ) (ps : List ℕ) → ((escaped : Bool) (t : List ℕ) → agrees escaped ps t ≡ meets (pieces escaped ps) t) → (t : List ℕ) (b k r : Bool) →
    cond b (agrees true ps t) (cond k (some_end (agrees false ps) t) (cond r (one_then (λ c. true) (agrees false ps) t) (one_then (eqb p) (agrees false ps) t)))
    ≡ meets (cond b (pieces true ps) (cond k Run (cond r One (Is p)) ∷ pieces false ps)) t
by_piece p ps rest t true k r = rest true t
by_piece p ps rest t false true r = some_same _ _ (rest false) t
by_piece p ps rest t false false true = one_same (λ c. true) _ _ (rest false) t
by_piece p ps rest t false false false = one_same (eqb p) _ _ (rest false) t

pub agrees_is : (escaped : Bool) (ps t : List ℕ) → agrees escaped ps t ≡ meets (pieces escaped ps) t
agrees_is false [] t = refl
agrees_is true [] t = refl
agrees_is true (p ∷ ps) t = one_same (eqb p) _ _ (agrees_is false ps) t
agrees_is false (p ∷ ps) t = by_piece p ps (λ e. agrees_is e ps) t (eqb p 92) (eqb p 37) (eqb p 95)

-- ---- columns

and_false : (b : Bool) → (b && false) ≡ false
and_false true = refl
and_false false = refl

first_of : (p : Piece) (behind : List Piece) → (meets behind [] && is_run p) ≡ meets (p ∷ behind) []
first_of Run behind = and-true (meets behind [])
first_of One behind = and_false (meets behind [])
first_of (Is c) behind = and_false (meets behind [])

begun_from : (behind ps : List Piece) → begun (meets behind []) ps ≡ column_from behind ps []
begun_from behind [] = refl
begun_from behind (p ∷ ps) =
    ap (λ b. b ∷ begun b ps) (first_of p behind) ∙ ap (λ bs. meets (p ∷ behind) [] ∷ bs) (begun_from (p ∷ behind) ps)

pub begun_is : (ps : List Piece) → true ∷ begun true ps ≡ column ps []
begun_is ps = ap (λ bs. true ∷ bs) (begun_from [] ps)

ended_is : (p : Piece) (behind : List Piece) (c : ℕ) (t : List ℕ) →
    ended p c (meets behind t) (meets behind (c ∷ t)) (meets (p ∷ behind) t) ≡ meets (p ∷ behind) (c ∷ t)
ended_is Run behind c t = refl
ended_is One behind c t = refl
ended_is (Is d) behind c t = refl

none_turned : (c : ℕ) (ps : List Piece) (below last : Bool) → turned_from c ps below last [] ≡ []
none_turned c [] below last = refl
none_turned c (p ∷ ps) below last = refl

pub stays : (done : List Bool) (c : ℕ) (ps : List Piece) (below last : Bool) (rest whole : List Bool) → rest ≡ [] → done ++ turned_from c ps below last rest ≡ whole → done ≡ whole
stays done c ps below last rest whole none h =
    sym (append-nil done) ∙ ap (λ bs. done ++ bs) (sym (none_turned c ps below last)) ∙ ap (λ r. done ++ turned_from c ps below last r) (sym none) ∙ h

pub all_taken : (left t whole : List ℕ) → left ≡ [] → left ++ t ≡ whole → t ≡ whole
all_taken left t whole none h = ap (λ l. l ++ t) (sym none) ∙ h

pub moved_over : (left t : List ℕ) (c : ℕ) → (left ++ c ∷ []) ++ t ≡ left ++ (c ∷ t)
moved_over left t c = append_assoc left (c ∷ []) t

turned_is_from : (c : ℕ) (t : List ℕ) (behind ps : List Piece) →
    turned_from c ps (meets behind t) (meets behind (c ∷ t)) (column_from behind ps t) ≡ column_from behind ps (c ∷ t)
turned_is_from c t behind [] = refl
turned_is_from c t behind (p ∷ ps) =
    ap (λ b. b ∷ turned_from c ps (meets (p ∷ behind) t) b (column_from (p ∷ behind) ps t)) (ended_is p behind c t)
    ∙ ap (λ bs. meets (p ∷ behind) (c ∷ t) ∷ bs) (turned_is_from c t (p ∷ behind) ps)

pub turned_is : (c : ℕ) (t : List ℕ) (ps : List Piece) → turned c ps (column ps t) ≡ column ps (c ∷ t)
turned_is c t ps = ap (λ bs. false ∷ bs) (turned_is_from c t [] ps)

turned_round : (p : Piece) (ps behind : List Piece) → reverse ps ++ (p ∷ behind) ≡ reverse (p ∷ ps) ++ behind
turned_round p ps behind = sym (ap (λ (qs : List Piece). qs ++ behind) (reverse-append (p ∷ []) ps) ∙ append_assoc (reverse ps) (p ∷ []) behind)

last_behind : (behind ps : List Piece) (t : List ℕ) → last_from (meets behind t) (column_from behind ps t) ≡ meets (reverse ps ++ behind) t
last_behind behind [] t = refl
last_behind behind (p ∷ ps) t = last_behind (p ∷ behind) ps t ∙ ap (λ (qs : List Piece). meets qs t) (turned_round p ps behind)

pub last_is : (ps : List Piece) (t : List ℕ) → last_of (column ps t) ≡ meets (reverse ps) t
last_is ps t = last_behind [] ps t ∙ ap (λ (qs : List Piece). meets qs t) (append-nil (reverse ps))

-- ---- LIKE

pub like_is : (text pattern : List ℕ) → meets (reverse (reverse (pieces false (chars (folded pattern))))) (chars (folded text)) ≡ text_like text pattern
like_is text pattern =
    ap (λ (ps : List Piece). meets ps (chars (folded text))) (reverse-reverse (pieces false (chars (folded pattern)))) ∙ sym (agrees_is false (chars (folded pattern)) (chars (folded text)))
