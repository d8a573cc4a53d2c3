use Rattle.std.proofs.Common.{ap, subst, ◌∙◌}
use Rattle.request_states.specs.Refusals.{refusal}
use Rattle.session_turns.specs.Calls.{EndsIn}
use Rattle.session_turns.proofs.Refused.{again, closes, may, moves}
use Rattle.session_turns.proofs.pause.refuse.Goals as goal

pub end-requires-clause-may : goal.end-requires-clause-may
end-requires-clause-may c = may c.args.schema.now c.args.image.now c.args.ticket c.args.work.now c.args.tenant c.args.restarts c.args.log.now c.args.shard.now c.requires.on c.requires.refused c.requires.empty c.refusal-reply.result c.no_writes.result (c.refusal-reply.ensures ∙ ap refusal c.in_ok-why.ensures) c.no_writes.ensures

pub end-requires-clause-again : goal.end-requires-clause-again
end-requires-clause-again c = again c.args.schema.now c.args.image.now c.args.ticket c.args.work.now c.args.tenant c.args.restarts c.args.log.now c.args.shard.now c.requires.on c.requires.refused c.requires.empty c.refusal-reply.result c.no_writes.result (c.refusal-reply.ensures ∙ ap refusal c.in_ok-why.ensures) c.no_writes.ensures

pub returns-clause-closed : goal.returns-clause-closed
returns-clause-closed c =
    closes c.args.schema.now c.args.image.now c.args.ticket c.args.work.now c.args.tenant c.args.restarts c.args.log.now c.args.shard.now c.requires.on c.requires.refused c.requires.empty c.refusal-reply.result c.no_writes.result (c.refusal-reply.ensures ∙ ap refusal c.in_ok-why.ensures) c.no_writes.ensures
    c.end.new.shard (subst (λ r. EndsIn c.args.tenant c.args.ticket.session c.args.log.now c.refusal-reply.result c.no_writes.result c.args.shard.now c.end.new.shard r) c.in-Over.is c.in_ok-end.ensures.ends)

pub returns-clause-moves : goal.returns-clause-moves
returns-clause-moves c =
    moves c.args.schema.now c.args.image.now c.args.ticket c.args.work.now c.args.tenant c.args.restarts c.args.log.now c.args.shard.now c.requires.on c.requires.refused c.requires.empty c.refusal-reply.result c.no_writes.result (c.refusal-reply.ensures ∙ ap refusal c.in_ok-why.ensures) c.no_writes.ensures
    c.end.new.shard (subst (λ r. EndsIn c.args.tenant c.args.ticket.session c.args.log.now c.refusal-reply.result c.no_writes.result c.args.shard.now c.end.new.shard r) c.in-Over.is c.in_ok-end.ensures.ends)
