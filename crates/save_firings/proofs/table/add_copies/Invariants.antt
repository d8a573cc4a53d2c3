use Rattle.std.proofs.Common.{◌≡◌, ◌++◌, drop}
use Rattle.save_firings.proofs.table.add_copies.Given as goal

abbrev pub invariant-loop-trigger : goal.invariant-loop-trigger
invariant-loop-trigger l = l.list ++ drop l.trigger-index l.triggers ≡ l.fn.list ++ l.triggers
