use Rattle.std.proofs.Common.{◌≡◌, drop}
use Rattle.save_statements.specs.Records.{going, rows_of}
use Rattle.save_deletes.specs.Heads.{is_some_row}
use Rattle.save_deletes.proofs.heads.is_one_going.Given as goal

abbrev pub invariant-loop-one : goal.invariant-loop-one
invariant-loop-one l =
    is_some_row (rows_of (going (drop l.one-index l.records))) ≡ is_some_row (rows_of (going l.records))
