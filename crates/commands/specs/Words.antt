-- The words of the command line (docs/formats.md, "Commands").
use Rattle.std.specs.Prelude.{◌≡◌, ℕ, List, [], ◌∷◌, codes}
use Rattle.turn_lists.specs.Lists.{ListsTurns}
use Rattle.commands.specs.declared.words.Row.{Row}
use Rattle.commands.specs.declared.words.Row.TheVariants.{Exec, Turns, Usage}

-- the single word `exec`
abbrev pub IsExec : List (List ℕ) → Type 0
IsExec words = words ≡ codes "exec" ∷ []

-- no command that is built
pub record IsNone (words : List (List ℕ)) : Type 0 where
  pub exec : IsExec words → ⊥
  pub turns : ListsTurns words → ⊥

-- the words are this command
abbrev pub IsRow : List (List ℕ) → Row → Type 0
IsRow words Exec = IsExec words
IsRow words Turns = ListsTurns words
IsRow words Usage = IsNone words
