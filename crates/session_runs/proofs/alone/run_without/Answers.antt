use Rattle.std.proofs.Common.{[], sym, subst}
use Rattle.metered_vm.specs.Runs.{Pauses, Waits}
use Rattle.session_runs.specs.Blocks.{RunsTo}
use Rattle.session_runs.proofs.Machine.{at_next, at_end}
use Rattle.session_runs.proofs.alone.run_without.Goals as goal

pub questions-init : goal.questions-init
questions-init c = c.requires.first

pub resume-requires-clause-stands : goal.resume-requires-clause-stands
resume-requires-clause-stands c = c.questions.invariant.stands

pub questions-preserved : goal.questions-preserved
questions-preserved c =
    at_next c.args.schema.now c.args.ticket c.args.image.now c.args.block [] c.questions.vm c.questions.answer c.in-Need.question c.resume.new.vm c.answer_none.result c.questions.invariant c.answer_none.ensures
    (λ tape r. subst (λ p. Pauses c.args.schema.now c.args.ticket c.args.image.now c.args.block tape p c.resume.new.vm) c.in-Need.is (c.in_ok-reply.ensures.pauses c.args.block tape r))
    (subst (λ p. Waits c.args.image.now p c.resume.new.vm) c.in-Need.is c.in_ok-reply.ensures.waits)

pub returns-in-End : goal.returns-in-End
returns-in-End c =
    subst (λ r. RunsTo c.args.schema.now c.args.ticket c.args.image.now c.args.block [] r c.in-End.writes) (sym c.told_reply.ensures)
    (at_end c.args.schema.now c.args.ticket c.args.image.now c.args.block [] c.questions.vm c.questions.answer c.in-End.reply c.in-End.writes c.resume.new.vm c.questions.invariant
    (λ tape r. subst (λ p. Pauses c.args.schema.now c.args.ticket c.args.image.now c.args.block tape p c.resume.new.vm) c.in-End.is (c.in_ok-reply.ensures.pauses c.args.block tape r)))
