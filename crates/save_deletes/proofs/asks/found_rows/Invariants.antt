use Rattle.std.proofs.Common.{◌≡◌, ◌++◌}
use Rattle.save_statements.specs.Checks.{found_rows}
use Rattle.save_deletes.proofs.asks.found_rows.Given as goal

abbrev pub invariant-loop-rows : goal.invariant-loop-rows
invariant-loop-rows l =
    l.all ++ found_rows l.rows-iterator.rest.items ≡ found_rows l.fn.found
