use Rattle.std.proofs.Common.{◌≡◌, ◌+◌, ◌++◌, drop, length}
use Rattle.save_statements.specs.declared.pending.Act.TheVariants.{Updating}
use Rattle.save_statements.specs.Loading.{next_records}
use Rattle.save_statements.specs.Statements.{unplaced}
use Rattle.save_loading.proofs.next_rows.updated.Given as goal

abbrev pub invariant-loop-record : goal.invariant-loop-record
invariant-loop-record l =
    (l.next ++ next_records Updating l.by l.object (unplaced (drop l.place l.rows)) l.record-iterator.rest.items ≡ next_records Updating l.by l.object (unplaced l.rows) l.fn.records)
    × (l.place + length l.record-iterator.rest.items ≡ length l.fn.records)
