use Rattle.std.proofs.Common.{◌≡◌, ◌++◌}
use Rattle.save_statements.specs.Firings.{all_left}
use Rattle.save_firings.proofs.leaving.leave_all.Given as goal

abbrev pub invariant-loop-entry : goal.invariant-loop-entry
invariant-loop-entry l = l.after ++ all_left l.left l.entry-iterator.rest.items ≡ all_left l.fn.left l.fn.entries
