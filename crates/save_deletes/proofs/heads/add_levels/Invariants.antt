use Rattle.std.proofs.Common.{◌≡◌, ℕ, drop}
use Rattle.row_meaning.specs.Stores.{of_object}
use Rattle.save_meaning.specs.Drafts.{with_ids}
use Rattle.save_meaning.specs.Inserts.{ids_of}
use Rattle.save_deletes.specs.Heads.{ids_in}
use Rattle.save_statements.specs.Checks.{joined}
use Rattle.save_deletes.proofs.heads.add_levels.Given as goal

abbrev pub invariant-loop-rows : goal.invariant-loop-rows
invariant-loop-rows l =
    (object : ℕ) → with_ids (ids_of (of_object object (joined (drop l.rows-index l.levels)))) (ids_in l.sets object) ≡ with_ids (ids_of (of_object object (joined l.levels))) (ids_in l.initial.sets object)
