use Rattle.std.proofs.Common.{◌≡◌, ℕ, drop}
use Rattle.row_meaning.specs.Stores.{of_object}
use Rattle.save_meaning.specs.Drafts.{with_ids}
use Rattle.save_meaning.specs.Inserts.{ids_of}
use Rattle.save_deletes.specs.Heads.{ids_in}
use Rattle.save_deletes.proofs.heads.add_rows.Given as goal

abbrev pub invariant-loop-row : goal.invariant-loop-row
invariant-loop-row l =
    (object : ℕ) → with_ids (ids_of (of_object object (drop l.row-index l.rows))) (ids_in l.sets object) ≡ with_ids (ids_of (of_object object l.rows)) (ids_in l.initial.sets object)
