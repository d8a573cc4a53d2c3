use Rattle.std.proofs.Common.{◌≡◌, ◌++◌}
use Rattle.save_statements.specs.Firings.{back}
use Rattle.save_firings.proofs.entering.back.Given as goal

abbrev pub invariant-loop-entry : goal.invariant-loop-entry
invariant-loop-entry l = l.records ++ back l.entry-iterator.rest.items ≡ back l.fn.entries
