use Rattle.std.proofs.Common.{◌≡◌, ℕ, List, [], drop}
use Rattle.std.specs.Prelude.{bytes_eq}
use Rattle.indexmap.specs.IndexSet.{contains}
use Rattle.row_meaning.specs.Stores.{has_id}
use Rattle.save_meaning.specs.Inserts.{first_again}
use Rattle.save_chunks.specs.Keys.{ids_given}
use Rattle.save_chunks.proofs.doubles.first_double_id.Given as goal

-- some list has the Ids of the set, and what is found behind it is what is found in the whole
abbrev pub invariant-loop-row : goal.invariant-loop-row
invariant-loop-row l =
    (ids : List (List ℕ)) × ((id : List ℕ) → contains bytes_eq l.seen id ≡ has_id ids id) × (first_again ids (ids_given (drop l.row-index l.rows)) ≡ first_again [] (ids_given l.rows))
