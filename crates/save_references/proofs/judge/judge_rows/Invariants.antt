use Rattle.std.proofs.Common.{◌≡◌, ◌++◌}
use Rattle.save_statements.specs.Checks.{invalid}
use Rattle.save_statements.specs.Records.{judged}
use Rattle.save_references.proofs.judge.judge_rows.Given as goal

abbrev pub invariant-loop-record : goal.invariant-loop-record
invariant-loop-record l =
    l.records ++ judged (invalid l.users l.shares l.object l.found) l.record-iterator.rest.items ≡ judged (invalid l.users l.shares l.object l.found) l.fn.records
