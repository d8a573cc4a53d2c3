use Rattle.std.proofs.Common.{subst}
use Rattle.save_stages.specs.Does.{site_of}
use Rattle.soql_run.specs.Doings.{Does}
use Rattle.soql_run.proofs.Goes.{fewer, gone_more, stops_at}
use Rattle.soql_run.proofs.run.advance.Goals as goal

pub moves-smaller : goal.moves-smaller
moves-smaller c =
    fewer (site_of c.args.schema.now c.args.ticket) c.args.run.now c.args.txn.now c.moves.run c.moves.txn c.move_once.new.run c.move_once.new.txn c.moves.invariant
    (subst (λ m. Does (site_of c.args.schema.now c.args.ticket) c.moves.run c.moves.txn m c.move_once.new.run c.move_once.new.txn) c.in-Went.is c.in_ok-move_once.ensures)

pub moves-preserved : goal.moves-preserved
moves-preserved c =
    gone_more (site_of c.args.schema.now c.args.ticket) c.args.run.now c.args.txn.now c.moves.run c.moves.txn c.move_once.new.run c.move_once.new.txn c.moves.invariant
    (subst (λ m. Does (site_of c.args.schema.now c.args.ticket) c.moves.run c.moves.txn m c.move_once.new.run c.move_once.new.txn) c.in-Went.is c.in_ok-move_once.ensures)

pub returns-in-Stops : goal.returns-in-Stops
returns-in-Stops c =
    stops_at (site_of c.args.schema.now c.args.ticket) c.in-Stops.stopped c.args.run.now c.args.txn.now c.moves.run c.moves.txn c.move_once.new.run c.move_once.new.txn c.moves.invariant
    (subst (λ m. Does (site_of c.args.schema.now c.args.ticket) c.moves.run c.moves.txn m c.move_once.new.run c.move_once.new.txn) c.in-Stops.is c.in_ok-move_once.ensures)
