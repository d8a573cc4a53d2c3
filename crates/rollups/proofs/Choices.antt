-- What is chosen of numbers one by one.
use Rattle.std.proofs.Common.{◌≡◌, Bool, List, Option, None, Some, ◌++◌, refl}
use Rattle.std.specs.Prelude.{ℤ}
use Rattle.row_meaning.specs.Rollups.{chosen}
use Rattle.rollups.specs.Parts.{joined, listed}

pub chosen_next : (before : ℤ → ℤ → Bool) (d : Option ℤ) (ds : List ℤ) → chosen before (listed d ++ ds) ≡ joined before d (chosen before ds)
chosen_next before None ds = refl
chosen_next before (Some d) ds = refl
