use Rattle.std.proofs.Common.{◌≡◌, ◌++◌, drop}
use Rattle.save_statements.specs.Firings.{olds_in}
use Rattle.save_firings.proofs.seeing.olds_in.Given as goal

abbrev pub invariant-loop-entry : goal.invariant-loop-entry
invariant-loop-entry l = l.rows ++ olds_in (drop l.entry-index l.entries) ≡ olds_in l.entries
