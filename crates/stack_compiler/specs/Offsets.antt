-- The places of fields, class by class.
use Rattle.std.specs.Prelude.{ℕ, zero, suc, List, [], ◌∷◌, Option, None, Some}
use Rattle.apex_meaning.specs.Classes.{behind, chain, width}
use Rattle.typed_program.specs.declared.program.Program.{Program}

-- where the places of the own fields of a class begin in an instance: behind those of its ancestors
abbrev pub offset : Program → ℕ → ℕ
offset program c = width program (behind (chain program c))

abbrev pub or_zero : Option ℕ → ℕ
or_zero None = 0
or_zero (Some n) = n

-- what a function gives for so many numbers from one on
abbrev pub from : (ℕ → ℕ) → ℕ → ℕ → List ℕ
from f n zero = []
from f n (suc k) = f n ∷ from f (suc n) k
