-- What is looked up while a planned schema is read.
use Rattle.std.specs.Prelude.{ℕ, Bool, true, List, Option, None, Some, bytes_eq, slice_get}
use Rattle.indexmap.specs.IndexMap.{IndexMap, get}
use Rattle.schema_build.specs.declared.sets.Words.{Words}
use Rattle.schema_build.specs.declared.sets.Masters.{Masters}
use Rattle.schema_build.specs.declared.before.Seen.{Seen}
use Rattle.schema_plans.specs.Plans.{Before, bind}

abbrev pub words_in : Words → List (List ℕ)
words_in w = w.list.items

abbrev pub masters_in : Masters → List ℕ
masters_in m = m.list.items

-- what a flag says, and true where there is none
abbrev pub true_or : Option Bool → Bool
true_or None = true
true_or (Some b) = b

abbrev pub flag_at : List Bool → ℕ → Bool
flag_at flags n = true_or (slice_get flags n)

-- what a name leads to in the map at this place
abbrev pub found_at : {S : Type 0} → List (IndexMap (List ℕ) ℕ S) → ℕ → List ℕ → Option ℕ
found_at maps d name = bind (slice_get maps d) (λ m. get bytes_eq m name)

abbrev pub before_of : Seen → Before
before_of s = record { words = s.words.list.items; mastered = s.mastered; children = s.children.list.items }
