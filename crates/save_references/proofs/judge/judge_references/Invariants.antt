use Rattle.std.proofs.Common.{◌≡◌, ◌++◌}
use Rattle.save_statements.specs.Checks.{bad_reference, seen_now}
use Rattle.save_statements.specs.Records.{judged, changed_to}
use Rattle.save_references.proofs.judge.judge_references.Given as goal

abbrev pub invariant-loop-record : goal.invariant-loop-record
invariant-loop-record l =
    l.records ++ changed_to seen_now (judged (bad_reference l.users l.object l.found) l.record-iterator.rest.items) ≡ changed_to seen_now (judged (bad_reference l.users l.object l.found) l.fn.records)
