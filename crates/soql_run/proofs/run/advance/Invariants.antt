use Rattle.save_stages.specs.Does.{site_of}
use Rattle.soql_run.specs.Goings.{Gone, left}
use Rattle.soql_run.proofs.run.advance.Given as goal

abbrev pub invariant-moves : goal.invariant-moves
invariant-moves l = Gone (site_of l.schema l.ticket) l.fn.run l.fn.txn l.run l.txn

abbrev pub decreases-moves : goal.decreases-moves
decreases-moves l = left l.run.stage
