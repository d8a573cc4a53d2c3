use Rattle.std.proofs.Common.{subst, []}
use Rattle.session_turns.specs.Calls.{MovesSo}
use Rattle.session_turns.specs.Turns.{tape_behind}
use Rattle.session_turns.proofs.Turning.{either, fewer, one_move}
use Rattle.session_turns.proofs.one_turn.goes_on.Goals as goal

pub returns-in-Closed-clause-turns : goal.returns-in-Closed-clause-turns
returns-in-Closed-clause-turns c =
    one_move c.args.schema.now c.args.image.now c.args.ticket c.args.work.now c.args.tenant c.args.attempt.now c.args.shard.now c.requires.tried [] c.serve.new.shard (fewer c.args.schema.now c.args.image.now c.args.ticket c.args.work.now c.args.tenant c.args.attempt.now c.args.shard.now c.requires.tried c.if-attempt-ge3.false)
    (subst (λ s. MovesSo c.args.image.now c.args.tenant c.args.ticket.session c.args.attempt.now.log.answers (tape_behind s c.serve.new.attempt.log) c.args.shard.now c.serve.new.shard) c.in-Closed.is c.in_ok-serve.ensures.moves)

pub returns-in-Waits : goal.returns-in-Waits
returns-in-Waits c =
    let h = either c.args.schema.now c.args.image.now c.args.ticket c.args.work.now c.args.tenant c.args.attempt.now c.args.shard.now c.requires.tried c.serve.new.attempt c.serve.new.shard c.in_ok-serve.field-0 c.if-attempt-ge3.false c.in-Waits.is c.in_ok-serve.ensures.served c.in_ok-serve.ensures.moves in
    record {
      goes = h.0;
      turns = one_move c.args.schema.now c.args.image.now c.args.ticket c.args.work.now c.args.tenant c.args.attempt.now c.args.shard.now c.requires.tried c.serve.new.attempt.log.answers c.serve.new.shard (fewer c.args.schema.now c.args.image.now c.args.ticket c.args.work.now c.args.tenant c.args.attempt.now c.args.shard.now c.requires.tried c.if-attempt-ge3.false) h.1;
      beside = c.in_ok-serve.ensures.beside;
    }
