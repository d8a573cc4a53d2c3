use Rattle.std.proofs.Common.{List, drop}
use Rattle.apex_rows.specs.declared.row.Row.{Row}
use Rattle.save_statements.specs.Checks.{naming_all}
use Rattle.save_deletes.specs.Heads.{AreHeads}
use Rattle.save_deletes.proofs.Going.{GoesOn}
use Rattle.save_deletes.proofs.asks.naming_all.Given as goal

abbrev pub invariant-loop-i : goal.invariant-loop-i
invariant-loop-i l =
    (rows : List Row) → AreHeads rows l.heads → GoesOn (naming_all l.overlay l.namings rows) l.initial.answers (naming_all l.overlay (drop l.i l.namings) rows) l.answers l.all
