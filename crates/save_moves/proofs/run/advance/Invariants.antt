use Rattle.save_firings.specs.Tables.{listed}
use Rattle.save_measures.specs.Measure.{weight}
use Rattle.save_stages.specs.Does.{site_of}
use Rattle.save_moves.specs.Goings.{Gone}
use Rattle.save_moves.proofs.run.advance.Given as goal

abbrev pub invariant-moves : goal.invariant-moves
invariant-moves l = Gone (site_of l.schema l.ticket) (listed l.table) l.fn.run l.fn.txn l.run l.txn

abbrev pub decreases-moves : goal.decreases-moves
decreases-moves l = weight (listed l.table) l.run
