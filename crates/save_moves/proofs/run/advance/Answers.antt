use Rattle.std.proofs.Common.{subst}
use Rattle.save_firings.specs.Tables.{listed}
use Rattle.save_stages.specs.Does.{Does, site_of}
use Rattle.save_moves.specs.declared.run.Stopped.TheVariants as E
use Rattle.save_moves.proofs.Goes.{gone_first, gone_more, fewer, stops_at}
use Rattle.save_moves.proofs.run.advance.Goals as goal

pub moves-init : goal.moves-init
moves-init c =
    gone_first (site_of c.args.schema.now c.args.ticket) (listed c.args.table.now) c.args.run.now c.args.txn.now c.requires.paid

pub moves-smaller : goal.moves-smaller
moves-smaller c =
    fewer (site_of c.args.schema.now c.args.ticket) (listed c.args.table.now) c.laws_of_measures.ensures.end c.moves.run c.moves.txn c.move_once.new.run c.move_once.new.txn
    (subst (λ m. Does c.args.schema.now c.args.ticket (listed c.args.table.now) c.moves.run c.moves.txn m c.move_once.new.run c.move_once.new.txn) c.in-Went.is c.in_ok-move_once.ensures)

pub moves-preserved : goal.moves-preserved
moves-preserved c =
    gone_more (site_of c.args.schema.now c.args.ticket) (listed c.args.table.now) c.laws_of_measures.ensures.pay c.args.run.now c.args.txn.now c.moves.run c.moves.txn c.move_once.new.run c.move_once.new.txn c.moves.invariant
    (subst (λ m. Does c.args.schema.now c.args.ticket (listed c.args.table.now) c.moves.run c.moves.txn m c.move_once.new.run c.move_once.new.txn) c.in-Went.is c.in_ok-move_once.ensures)

pub returns-in-Asked : goal.returns-in-Asked
returns-in-Asked c =
    stops_at (site_of c.args.schema.now c.args.ticket) (listed c.args.table.now) c.laws_of_measures.ensures.pay (E.Asked c.in-Asked.question) c.args.run.now c.args.txn.now c.moves.run c.moves.txn c.move_once.new.run c.move_once.new.txn c.moves.invariant
    (subst (λ m. Does c.args.schema.now c.args.ticket (listed c.args.table.now) c.moves.run c.moves.txn m c.move_once.new.run c.move_once.new.txn) c.in-Asked.is c.in_ok-move_once.ensures)

pub returns-in-Fired : goal.returns-in-Fired
returns-in-Fired c =
    stops_at (site_of c.args.schema.now c.args.ticket) (listed c.args.table.now) c.laws_of_measures.ensures.pay (E.Fired c.in-Fired.number c.in-Fired.context) c.args.run.now c.args.txn.now c.moves.run c.moves.txn c.move_once.new.run c.move_once.new.txn c.moves.invariant
    (subst (λ m. Does c.args.schema.now c.args.ticket (listed c.args.table.now) c.moves.run c.moves.txn m c.move_once.new.run c.move_once.new.txn) c.in-Fired.is c.in_ok-move_once.ensures)

pub returns-in-Ended : goal.returns-in-Ended
returns-in-Ended c =
    stops_at (site_of c.args.schema.now c.args.ticket) (listed c.args.table.now) c.laws_of_measures.ensures.pay (E.Ended c.in-Ended.outcomes) c.args.run.now c.args.txn.now c.moves.run c.moves.txn c.move_once.new.run c.move_once.new.txn c.moves.invariant
    (subst (λ m. Does c.args.schema.now c.args.ticket (listed c.args.table.now) c.moves.run c.moves.txn m c.move_once.new.run c.move_once.new.txn) c.in-Ended.is c.in_ok-move_once.ensures)

pub returns-in-Threw : goal.returns-in-Threw
returns-in-Threw c =
    stops_at (site_of c.args.schema.now c.args.ticket) (listed c.args.table.now) c.laws_of_measures.ensures.pay (E.Threw c.in-Threw.thrown) c.args.run.now c.args.txn.now c.moves.run c.moves.txn c.move_once.new.run c.move_once.new.txn c.moves.invariant
    (subst (λ m. Does c.args.schema.now c.args.ticket (listed c.args.table.now) c.moves.run c.moves.txn m c.move_once.new.run c.move_once.new.txn) c.in-Threw.is c.in_ok-move_once.ensures)

pub returns-in-Halted : goal.returns-in-Halted
returns-in-Halted c =
    stops_at (site_of c.args.schema.now c.args.ticket) (listed c.args.table.now) c.laws_of_measures.ensures.pay (E.Halted c.in-Halted.limit) c.args.run.now c.args.txn.now c.moves.run c.moves.txn c.move_once.new.run c.move_once.new.txn c.moves.invariant
    (subst (λ m. Does c.args.schema.now c.args.ticket (listed c.args.table.now) c.moves.run c.moves.txn m c.move_once.new.run c.move_once.new.txn) c.in-Halted.is c.in_ok-move_once.ensures)
