use Rattle.std.proofs.Common.{◌≡◌, ◌++◌, drop}
use Rattle.save_meaning.specs.Inserts.{ids_of}
use Rattle.save_statements.specs.Records.{going, rows_of}
use Rattle.save_loading.proofs.old_rows.going_ids.Given as goal

abbrev pub invariant-loop-record : goal.invariant-loop-record
invariant-loop-record l = l.ids ++ ids_of (rows_of (going (drop l.record-index l.records))) ≡ ids_of (rows_of (going l.records))
