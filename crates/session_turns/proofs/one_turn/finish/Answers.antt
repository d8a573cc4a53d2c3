use Rattle.std.proofs.Common.{refl, subst}
use Rattle.session_turns.specs.Calls.{MovesSo}
use Rattle.session_turns.specs.Turns.{IsServed, tape_behind}
use Rattle.session_turns.proofs.Finishing.{begins, finishes, goes_on, never_again}
use Rattle.session_turns.proofs.one_turn.finish.Goals as goal

pub pauses-init : goal.pauses-init
pauses-init c =
    begins c.args.schema.now c.args.image.now c.args.ticket c.args.work.now c.args.tenant c.args.attempt.now.log.answers c.args.shard.now c.args.attempt.now c.requires.tried c.requires.last c.requires.current refl

pub returns-in-Closed-clause-finishes : goal.returns-in-Closed-clause-finishes
returns-in-Closed-clause-finishes c =
    finishes c.args.schema.now c.args.image.now c.args.ticket c.args.work.now c.args.tenant c.args.attempt.now.log.answers c.args.shard.now c.pauses.attempt c.pauses.shard c.pauses.invariant c.serve.new.attempt c.serve.new.shard c.in_ok-serve.ensures.beside
    (subst (λ s. IsServed c.args.schema.now c.args.image.now c.args.ticket c.args.work.now c.args.tenant c.pauses.attempt c.pauses.shard c.serve.new.attempt c.serve.new.shard s) c.in-Closed.is c.in_ok-serve.ensures.served)
    (subst (λ s. MovesSo c.args.image.now c.args.tenant c.args.ticket.session c.pauses.attempt.log.answers (tape_behind s c.serve.new.attempt.log) c.pauses.shard c.serve.new.shard) c.in-Closed.is c.in_ok-serve.ensures.moves)

pub pauses-preserved : goal.pauses-preserved
pauses-preserved c =
    goes_on c.args.schema.now c.args.image.now c.args.ticket c.args.work.now c.args.tenant c.args.attempt.now.log.answers c.args.shard.now c.pauses.attempt c.pauses.shard c.pauses.invariant c.serve.new.attempt c.serve.new.shard c.in_ok-serve.ensures.beside
    (subst (λ s. IsServed c.args.schema.now c.args.image.now c.args.ticket c.args.work.now c.args.tenant c.pauses.attempt c.pauses.shard c.serve.new.attempt c.serve.new.shard s) c.in-Waits.is c.in_ok-serve.ensures.served)
    (subst (λ s. MovesSo c.args.image.now c.args.tenant c.args.ticket.session c.pauses.attempt.log.answers (tape_behind s c.serve.new.attempt.log) c.pauses.shard c.serve.new.shard) c.in-Waits.is c.in_ok-serve.ensures.moves)
