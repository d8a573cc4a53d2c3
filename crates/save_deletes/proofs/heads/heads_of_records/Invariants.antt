use Rattle.std.proofs.Common.{◌≡◌, ℕ, [], drop}
use Rattle.row_meaning.specs.Stores.{of_object}
use Rattle.save_meaning.specs.Drafts.{with_ids}
use Rattle.save_meaning.specs.Inserts.{ids_of}
use Rattle.save_deletes.specs.Heads.{ids_in}
use Rattle.save_statements.specs.Records.{going, rows_of}
use Rattle.save_deletes.proofs.heads.heads_of_records.Given as goal

abbrev pub invariant-loop-one : goal.invariant-loop-one
invariant-loop-one l =
    (object : ℕ) → with_ids (ids_of (of_object object (rows_of (going (drop l.one-index l.records))))) (ids_in l.sets object) ≡ with_ids (ids_of (of_object object (rows_of (going l.records)))) []
