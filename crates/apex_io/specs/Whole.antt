-- What reading to the end and writing a whole text say.
use Rattle.std.specs.Prelude.{◌≡◌, ℕ, ◌<◌, ◌≤◌, List, ◌++◌, length, take, Option, Bool, true, false}
use Rattle.apex_io.specs.declared.whole.ReadFault.{ReadFault}
use Rattle.apex_io.specs.declared.whole.ReadFault.TheVariants.{Failed, TooLong, NoMemory}
use Rattle.apex_io.specs.Outside.{Rose, Takes, IsAtEnd, Adds, Outgrows}

-- why reading stopped
abbrev pub ReadCause : ReadFault → ℕ → Option (List ℕ) → Option (List ℕ) → ℕ → ℕ → Type 0
ReadCause Failed most old new faults later = Rose faults later
ReadCause TooLong most old new faults later = Outgrows most old new
ReadCause NoMemory most old new faults later = Unit {0}

-- the sink failed, and got a front of the text
abbrev pub WriteCause : List ℕ → Option (List ℕ) → Option (List ℕ) → ℕ → ℕ → Type 0
WriteCause text old new faults later = Rose faults later × ((n : ℕ) × (n ≤ length text) × Adds old (take n text) new)

-- one piece more, or the end
pub record TookPiece (ended : Bool) (most : ℕ) (old new : Option (List ℕ)) (had has : List ℕ) : Type 0 where
  pub taken : List ℕ
  pub added : has ≡ had ++ taken
  pub source : Takes old taken new
  pub within : length has ≤ most
  pub at_end : ended ≡ true → IsAtEnd new
  pub progress : ended ≡ false → 0 < length taken
