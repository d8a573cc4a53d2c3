-- What a status says, by the words of the command line.
use Rattle.std.specs.Prelude.{◌≡◌, ℕ, ◌⊎◌, List, [], ◌∷◌, ◌++◌, codes, Option}
use Rattle.apex_io.specs.Outside.{Adds}
use Rattle.apex_io.specs.Whole.{WriteCause}
use Rattle.stack_code.specs.declared.image.Image.{Image}
use Rattle.turn_lists.specs.Lists.{IsCommand}
use Rattle.turn_lists.specs.declared.turn.Turn.{Turn}
use Rattle.commands.specs.Answers.{Outside}
use Rattle.commands.specs.Exec.{Execs}
use Rattle.commands.specs.declared.turns.Book.{Book}
use Rattle.commands.specs.Turns.{Turns}
use Rattle.commands.specs.Words.{IsExec, IsNone}

abbrev pub usage_line : List ℕ
usage_line = codes "usage: apexd run --workers W --shards N | apexd turns LIST | apexd exec" ++ 10 ∷ []

-- the words are no command: the line says so, or it couldn't be written
abbrev pub IsUsage : ℕ → Outside → Type 0
IsUsage status s =
    ((status ≡ 1) × Adds s.held usage_line s.held_later) ⊎ ((status ≡ 4) × WriteCause usage_line s.held s.held_later s.write_faults s.write_faults_later)

-- what a status says of each thing that words may be, with the image and the book that are kept
pub record Answers (words : List (List ℕ)) (image : Option Image) (book : Book) (status : ℕ) (s : Outside) : Type 0 where
  pub exec : IsExec words → Execs image status s
  pub turns : (turns : List Turn) → IsCommand words turns → Turns turns book status s
  pub usage : IsNone words → IsUsage status s × (s.later ≡ s.left)
