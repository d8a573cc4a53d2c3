use Rattle.std.proofs.Common.{subst}
use Rattle.metered_vm.specs.Runs.{Pauses, Waits}
use Rattle.session_turns.proofs.Steps.{again, all_asked_moves, all_asked_on, all_end_moves, all_end_on, may, may_close}
use Rattle.session_turns.proofs.goes.go_on.Goals as goal

pub resume-requires-clause-stands : goal.resume-requires-clause-stands
resume-requires-clause-stands c = c.requires.at.stands

pub end-requires-clause-may : goal.end-requires-clause-may
end-requires-clause-may c =
    may_close c.args.schema.now c.args.image.now c.args.ticket c.args.block c.args.tenant c.args.restarts c.args.vm.now c.args.answer c.args.log.now c.args.shard.now c.requires.at c.requires.last c.resume.new.vm c.in-End.reply c.in-End.writes
    (subst (λ p. Pauses c.args.schema.now c.args.ticket c.args.image.now c.args.block c.args.log.now.answers p c.resume.new.vm) c.in-End.is (c.in_ok-reply.ensures.pauses c.args.block c.args.log.now.answers c.requires.at.ran))
    c.told_reply-told.result c.told_reply-told.ensures

pub end-requires-clause-again : goal.end-requires-clause-again
end-requires-clause-again c =
    again c.args.schema.now c.args.image.now c.args.ticket c.args.block c.args.tenant c.args.restarts c.args.vm.now c.args.answer c.args.log.now c.args.shard.now c.requires.at c.requires.last c.resume.new.vm

pub asked-requires-clause-may : goal.asked-requires-clause-may
asked-requires-clause-may c =
    may c.args.schema.now c.args.image.now c.args.ticket c.args.block c.args.tenant c.args.restarts c.args.vm.now c.args.answer c.args.log.now c.args.shard.now c.requires.at c.requires.last c.resume.new.vm c.in-Need.question
    (subst (λ p. Pauses c.args.schema.now c.args.ticket c.args.image.now c.args.block c.args.log.now.answers p c.resume.new.vm) c.in-Need.is (c.in_ok-reply.ensures.pauses c.args.block c.args.log.now.answers c.requires.at.ran))

pub asked-requires-clause-again : goal.asked-requires-clause-again
asked-requires-clause-again c =
    again c.args.schema.now c.args.image.now c.args.ticket c.args.block c.args.tenant c.args.restarts c.args.vm.now c.args.answer c.args.log.now c.args.shard.now c.requires.at c.requires.last c.resume.new.vm

pub returns-in-End-clause-on : goal.returns-in-End-clause-on
returns-in-End-clause-on c =
    all_end_on c.args.schema.now c.args.image.now c.args.ticket c.args.block c.args.tenant c.args.restarts c.args.vm.now c.args.answer c.args.log.now c.args.shard.now c.requires.at c.requires.last c.resume.new.vm c.in-End.reply c.in-End.writes
    (subst (λ p. Pauses c.args.schema.now c.args.ticket c.args.image.now c.args.block c.args.log.now.answers p c.resume.new.vm) c.in-End.is (c.in_ok-reply.ensures.pauses c.args.block c.args.log.now.answers c.requires.at.ran))
    c.told_reply-told.result c.told_reply-told.ensures c.end.result _ c.end.new.shard c.end.ensures.ends c.end.ensures.beside

pub returns-in-End-clause-moves : goal.returns-in-End-clause-moves
returns-in-End-clause-moves c =
    all_end_moves c.args.schema.now c.args.image.now c.args.ticket c.args.block c.args.tenant c.args.restarts c.args.vm.now c.args.answer c.args.log.now c.args.shard.now c.requires.at c.requires.last c.resume.new.vm c.in-End.reply c.in-End.writes
    (subst (λ p. Pauses c.args.schema.now c.args.ticket c.args.image.now c.args.block c.args.log.now.answers p c.resume.new.vm) c.in-End.is (c.in_ok-reply.ensures.pauses c.args.block c.args.log.now.answers c.requires.at.ran))
    c.told_reply-told.result c.told_reply-told.ensures c.end.result _ c.end.new.shard c.end.ensures.ends

pub returns-in-Need-clause-on : goal.returns-in-Need-clause-on
returns-in-Need-clause-on c =
    all_asked_on c.args.schema.now c.args.image.now c.args.ticket c.args.block c.args.tenant c.args.restarts c.args.vm.now c.args.answer c.args.log.now c.args.shard.now c.requires.at c.requires.last c.resume.new.vm c.in-Need.question
    (subst (λ p. Pauses c.args.schema.now c.args.ticket c.args.image.now c.args.block c.args.log.now.answers p c.resume.new.vm) c.in-Need.is (c.in_ok-reply.ensures.pauses c.args.block c.args.log.now.answers c.requires.at.ran))
    (subst (λ p. Waits c.args.image.now p c.resume.new.vm) c.in-Need.is c.in_ok-reply.ensures.waits) c.asked.result c.asked.new.log c.asked.new.shard c.asked.ensures.answers c.asked.ensures.logged c.asked.ensures.beside

pub returns-in-Need-clause-moves : goal.returns-in-Need-clause-moves
returns-in-Need-clause-moves c =
    all_asked_moves c.args.schema.now c.args.image.now c.args.ticket c.args.block c.args.tenant c.args.restarts c.args.vm.now c.args.answer c.args.log.now c.args.shard.now c.requires.at c.requires.last c.resume.new.vm c.in-Need.question
    (subst (λ p. Pauses c.args.schema.now c.args.ticket c.args.image.now c.args.block c.args.log.now.answers p c.resume.new.vm) c.in-Need.is (c.in_ok-reply.ensures.pauses c.args.block c.args.log.now.answers c.requires.at.ran))
    c.asked.result c.asked.new.log c.asked.new.shard c.asked.ensures.answers c.asked.ensures.logged
