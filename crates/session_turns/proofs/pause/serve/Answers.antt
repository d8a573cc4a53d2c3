use Rattle.std.proofs.Common.{sym, subst, ◌+◌}
use Rattle.session_turns.specs.Turns.{IsPaused, IsServed}
use Rattle.session_turns.proofs.Tries.{tried}
use Rattle.session_turns.proofs.pause.serve.Goals as goal

pub returns-in-Restarted-clause-served : goal.returns-in-Restarted-clause-served
returns-in-Restarted-clause-served c =
    let h = subst (λ s. IsPaused c.args.schema.now c.args.image.now c.args.ticket c.args.work.now c.args.tenant c.args.attempt.now c.args.shard.now c.pause.new.attempt c.pause.new.shard s) c.in-Restarted.is c.in_ok-served.ensures.paused in
    subst (λ s. IsServed c.args.schema.now c.args.image.now c.args.ticket c.args.work.now c.args.tenant c.args.attempt.now c.args.shard.now c.begun.result c.pause.new.shard s) (sym c.in-Restarted.is) (
      h.0,
      tried c.args.schema.now c.args.image.now c.args.ticket c.args.work.now c.args.tenant (c.args.attempt.now.restarts + 1) c.begun.result c.pause.new.shard c.begun.ensures.restarts c.begun.ensures.empty (c.begun.ensures.runs c.args.schema.now c.args.ticket) h.1,
      c.begun.ensures.empty,
    )
