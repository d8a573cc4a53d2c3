-- Lists of turns as words (docs/formats.md, "Commands").
use Rattle.std.specs.Prelude.{◌≡◌, ◌≤◌, ℕ, List, [], ◌∷◌, ◌++◌, codes, decimal}
use Rattle.turn_lists.specs.declared.fault.TurnsFault.{TurnsFault}
use Rattle.turn_lists.specs.declared.fault.TurnsFault.TheVariants.{NotTurns, NoMemory}
use Rattle.turn_lists.specs.declared.turn.Turn.{Turn}

-- the greatest number that a list names
abbrev pub most : ℕ
most = 999999999

pub record IsTurn (t : Turn) : Type 0 where
  pub tenant : t.tenant ≤ most
  pub session : t.session ≤ most

abbrev pub AreTurns : List Turn → Type 0
AreTurns [] = Unit {0}
AreTurns (t ∷ ts) = IsTurn t × AreTurns ts

-- a tenant and a session, with a dot between
abbrev pub turn_text : Turn → List ℕ
turn_text t = decimal t.tenant ++ 46 ∷ decimal t.session

-- each with a comma before it
abbrev pub behind_text : List Turn → List ℕ
behind_text [] = []
behind_text (t ∷ ts) = 44 ∷ turn_text t ++ behind_text ts

-- turns with commas between; none are a dash
abbrev pub list_text : List Turn → List ℕ
list_text [] = codes "-"
list_text (t ∷ ts) = turn_text t ++ behind_text ts

-- a word lists these turns
abbrev pub Lists : List ℕ → List Turn → Type 0
Lists word turns = (word ≡ list_text turns) × AreTurns turns

-- the words are a command that lists these turns
abbrev pub IsCommand : List (List ℕ) → List Turn → Type 0
IsCommand [] turns = ⊥
IsCommand (w ∷ []) turns = ⊥
IsCommand (w ∷ v ∷ []) turns = (w ≡ codes "turns") × Lists v turns
IsCommand (w ∷ v ∷ u ∷ ws) turns = ⊥

-- the words are a command that lists some turns or none
abbrev pub ListsTurns : List (List ℕ) → Type 0
ListsTurns words = (turns : List Turn) × IsCommand words turns

-- a fault says that there are no such turns
abbrev pub IsNone : (List Turn → Type 0) → TurnsFault → Type 0
IsNone Says NotTurns = (turns : List Turn) → Says turns → ⊥
IsNone Says NoMemory = Unit {0}
