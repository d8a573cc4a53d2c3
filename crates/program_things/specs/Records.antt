-- Places of records that are found one by one.
use Rattle.std.specs.Prelude.{ℕ, List, ◌++◌, Option, None, Some}

-- places behind others, where each was found
abbrev pub behind : List ℕ → Option (List ℕ) → Option (List ℕ)
behind before None = None
behind before (Some places) = Some (before ++ places)
