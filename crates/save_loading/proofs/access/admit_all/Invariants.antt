use Rattle.std.proofs.Common.{◌≡◌, ◌++◌}
use Rattle.save_statements.specs.Records.{judged}
use Rattle.save_loading.specs.Steps.{denied}
use Rattle.save_loading.proofs.access.admit_all.Given as goal

abbrev pub invariant-loop-record : goal.invariant-loop-record
invariant-loop-record l = l.admitted ++ judged (denied l.viewer) l.record-iterator.rest.items ≡ judged (denied l.viewer) l.fn.records
