-- Patterns of LIKE by their parts, and the ends of a pattern that a text meets (docs/platform.md, "Conditions").
use Rattle.std.specs.Prelude.{ℕ, ◌&&◌, ◌||◌, eqb, Bool, true, false, cond, List, [], ◌∷◌}
use Rattle.row_meaning.specs.Cells.{some_end, one_then, is_empty}
use Rattle.row_conditions.specs.declared.like.Piece.{Piece}
use Rattle.row_conditions.specs.declared.like.Piece.TheVariants.{Run, One, Is}

-- what a character takes that stands behind no backslash and isn't one
abbrev pub piece : ℕ → Piece
piece p = cond (eqb p 37) Run (cond (eqb p 95) One (Is p))

-- the parts of a pattern; `escaped` behind a backslash, which is itself at the end
abbrev pub pieces : Bool → List ℕ → List Piece
pieces false [] = []
pieces true [] = Is 92 ∷ []
pieces true (p ∷ ps) = Is p ∷ pieces false ps
pieces false (p ∷ ps) = cond (eqb p 92) (pieces true ps) (piece p ∷ pieces false ps)

-- a text meets these parts
abbrev pub meets : List Piece → List ℕ → Bool
meets [] text = is_empty text
meets (Run ∷ ps) text = some_end (meets ps) text
meets (One ∷ ps) text = one_then (λ c. true) (meets ps) text
meets (Is d ∷ ps) text = one_then (eqb d) (meets ps) text

-- ---- columns: for each end of a pattern, the shortest first, whether a text meets it. The parts stand from the last one on

abbrev pub column_from : List Piece → List Piece → List ℕ → List Bool
column_from behind [] text = []
column_from behind (p ∷ ps) text = meets (p ∷ behind) text ∷ column_from (p ∷ behind) ps text

abbrev pub column : List Piece → List ℕ → List Bool
column ps text = meets [] text ∷ column_from [] ps text

abbrev pub last_from : Bool → List Bool → Bool
last_from end [] = end
last_from end (b ∷ bs) = last_from b bs

abbrev pub last_of : List Bool → Bool
last_of = last_from false

abbrev pub is_run : Piece → Bool
is_run Run = true
is_run One = false
is_run (Is c) = false

-- the column of an empty text
abbrev pub begun : Bool → List Piece → List Bool
begun last [] = []
begun last (p ∷ ps) = (last && is_run p) ∷ begun (last && is_run p) ps

-- a part and an end behind it, for a text that begins with a character: by that end and the rest of the text, that end and
-- the text, both and the rest
abbrev pub ended : Piece → ℕ → Bool → Bool → Bool → Bool
ended Run c below last own = last || own
ended One c below last own = below
ended (Is d) c below last own = eqb d c && below

abbrev pub turned_from : ℕ → List Piece → Bool → Bool → List Bool → List Bool
turned_from c [] below last rest = []
turned_from c (p ∷ ps) below last [] = []
turned_from c (p ∷ ps) below last (own ∷ rest) =
    ended p c below last own ∷ turned_from c ps own (ended p c below last own) rest

-- the column of a text with one more character in front
abbrev pub turned : ℕ → List Piece → List Bool → List Bool
turned c ps [] = []
turned c ps (below ∷ rest) = false ∷ turned_from c ps below false rest
