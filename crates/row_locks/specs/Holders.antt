-- Rows that are held alone, by who holds each (docs/platform.md, "Locks").
use Rattle.std.specs.Prelude.{◌≡◌, ℕ, eqb, cond, List, [], ◌∷◌, Option, None, Some}

-- who holds a row, by its Id
abbrev pub Holders : Type 0
Holders = List ℕ → Option ℕ

-- where it is another session than this one
abbrev pub but : ℕ → Option ℕ → Option ℕ
but session None = None
but session (Some holder) = cond (eqb holder session) None (Some holder)

-- no row of a list is held by another session
abbrev pub NoneHeld : Holders → ℕ → List (List ℕ) → Type 0
NoneHeld held session [] = Unit {0}
NoneHeld held session (id ∷ ids) = (but session (held id) ≡ None) × NoneHeld held session ids

abbrev pub first_here : Option ℕ → List ℕ → List ℕ → ℕ → Type 0 → Type 0
first_here (Some other) id row holder later = (row ≡ id) × (holder ≡ other)
first_here None id row holder later = later

-- the first row of a list that another session holds, and that session
abbrev pub FirstHeld : Holders → ℕ → List (List ℕ) → List ℕ → ℕ → Type 0
FirstHeld held session [] row holder = ⊥
FirstHeld held session (id ∷ ids) row holder = first_here (but session (held id)) id row holder (FirstHeld held session ids row holder)
