-- What is to be shown of lists of turns.
use Rattle.std.specs.Prelude.{◌≡◌, ℕ, List}
use Rattle.turn_lists.specs.declared.turn.Turn.{Turn}
use Rattle.turn_lists.specs.Lists.{IsCommand}

-- words list no other turns than those that they list
abbrev pub ListsAreOnly : Type 0
ListsAreOnly = (words : List (List ℕ)) (turns other : List Turn) → IsCommand words turns → IsCommand words other → other ≡ turns
