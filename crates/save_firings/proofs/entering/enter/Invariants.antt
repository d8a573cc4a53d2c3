use Rattle.std.proofs.Common.{◌≡◌, ◌++◌}
use Rattle.save_statements.specs.Firings.{entries}
use Rattle.save_firings.proofs.entering.enter.Given as goal

abbrev pub invariant-loop-record : goal.invariant-loop-record
invariant-loop-record l = l.entries ++ entries l.record-iterator.rest.items ≡ entries l.fn.records
