-- What a source, a sink and their faults mean (docs/platform.md, "The outside").
use Rattle.std.specs.Prelude.{◌≡◌, ℕ, ◌+◌, ◌^◌, ◌<◌, ◌≤◌, ◌⊎◌, List, [], ◌++◌, length, take, Option, Some, None}
use Rattle.apex_io.specs.declared.outside.Pulled.{Pulled}
use Rattle.apex_io.specs.declared.outside.Pulled.TheVariants.{Bytes, End, Failed}
use Rattle.apex_io.specs.declared.outside.Pushed.{Pushed}
use Rattle.apex_io.specs.declared.outside.Pushed.TheVariants.{Took, Failed as NotPushed}

-- a count of 64 bits rose, or it stands at its last value
abbrev pub Rose : ℕ → ℕ → Type 0
Rose old new = (old < new) ⊎ (new + 1 ≡ 2 ^ 64)

-- these bytes were taken from the front of what was left, where that is told
abbrev pub Takes : Option (List ℕ) → List ℕ → Option (List ℕ) → Type 0
Takes None bytes None = Unit {0}
Takes None bytes (Some rest) = ⊥
Takes (Some left) bytes None = ⊥
Takes (Some left) bytes (Some rest) = left ≡ bytes ++ rest

-- nothing is left, where that is told
abbrev pub IsAtEnd : Option (List ℕ) → Type 0
IsAtEnd None = Unit {0}
IsAtEnd (Some left) = left ≡ []

-- what an answer of `pull` says of the room after it, of what is left, and of the count of faults
abbrev pub Pulls : Pulled → List ℕ → Option (List ℕ) → Option (List ℕ) → ℕ → ℕ → Type 0
Pulls (Bytes n) room old new faults later =
    (n ≤ length room) × Takes old (take n room) new × (n ≡ 0 → 0 < length room → IsAtEnd old)
Pulls End room old new faults later = IsAtEnd old × (new ≡ old)
Pulls Failed room old new faults later = Rose faults later × (new ≡ old)

-- these bytes were added at the end of what is held, where that is told
abbrev pub Adds : Option (List ℕ) → List ℕ → Option (List ℕ) → Type 0
Adds None bytes None = Unit {0}
Adds None bytes (Some held) = ⊥
Adds (Some held) bytes None = ⊥
Adds (Some held) bytes (Some now) = now ≡ held ++ bytes

-- what an answer of `push` says of the piece, of what is held, and of the count of faults
abbrev pub Pushes : Pushed → List ℕ → Option (List ℕ) → Option (List ℕ) → ℕ → ℕ → Type 0
Pushes (Took n) piece old new faults later =
    (n ≤ length piece) × (0 < length piece → 0 < n) × Adds old (take n piece) new
Pushes NotPushed piece old new faults later = Rose faults later × (new ≡ old)

-- more than `most` bytes were given: one more was taken, and nothing behind it
abbrev pub Outgrows : ℕ → Option (List ℕ) → Option (List ℕ) → Type 0
Outgrows most old new = (bytes : List ℕ) × (length bytes ≡ most + 1) × Takes old bytes new
