use Rattle.std.proofs.Common.{◌<◌, subst, sym, arith}
use Rattle.program_things.specs.Saves.{IsStepTo}
use Rattle.program_weights.specs.Weights.{weight}
use Rattle.metered_vm.specs.Keeps.{KeepsOn}
use Rattle.metered_vm.specs.Runs.{OnWay, Pauses, Waits}
use Rattle.metered_vm.specs.declared.run.Pause.TheVariants as P
use Rattle.metered_vm.proofs.Once.{told_stands, way_first, way_more, way_asks, way_halts, way_over}
use Rattle.metered_vm.proofs.AtOnce.{way_along}
use Rattle.metered_vm.proofs.run.resume.Goals as goal

pub steps-init : goal.steps-init
steps-init c =
    subst (λ x. OnWay c.args.schema.now c.args.ticket c.args.image.now c.args.vm.now c.args.answer c.args.vm.now.ops x) (sym c.in_ok-answered.ensures)
    (way_first c.args.schema.now c.args.ticket c.args.image.now c.args.vm.now c.args.answer (told_stands c.args.image.now c.args.answer c.args.vm.now.config c.requires.stands))

pub quick_run-requires : goal.quick_run-requires
quick_run-requires c = c.steps.invariant.stands

pub step_once-requires-clause-stands : goal.step_once-requires-clause-stands
step_once-requires-clause-stands c = c.in_ok-more.ensures.stands

pub steps-preserved : goal.steps-preserved
steps-preserved c =
    way_more c.args.schema.now c.args.ticket c.args.image.now c.args.vm.now c.args.answer c.in_ok-more.more c.saturating_add-vm.result c.quick_run.new.c c.step_once.new.c
    (way_along c.args.image.now c.args.schema.now c.args.ticket c.args.vm.now c.args.answer c.steps.vm.ops c.in_ok-more.more c.steps.vm.config c.quick_run.new.c c.steps.invariant c.in_ok-more.ensures)
    (subst (λ m. IsStepTo c.args.schema.now c.args.ticket c.args.image.now c.quick_run.new.c m c.step_once.new.c) c.in-Went.is c.in_ok-step_once.ensures.step)
    (subst (λ m. KeepsOn c.args.image.now c.quick_run.new.c m c.step_once.new.c) c.in-Went.is c.in_ok-step_once.ensures.keeps) c.saturating_add-vm.ensures

pub returns-in-Asked-clause-pauses : goal.returns-in-Asked-clause-pauses
returns-in-Asked-clause-pauses c =
    λ block tape h. way_asks c.args.schema.now c.args.ticket c.args.image.now c.args.vm.now c.args.answer c.in_ok-more.more c.saturating_add-vm.result c.quick_run.new.c c.step_once.new.c c.in-Asked.question
    (way_along c.args.image.now c.args.schema.now c.args.ticket c.args.vm.now c.args.answer c.steps.vm.ops c.in_ok-more.more c.steps.vm.config c.quick_run.new.c c.steps.invariant c.in_ok-more.ensures)
    (subst (λ m. IsStepTo c.args.schema.now c.args.ticket c.args.image.now c.quick_run.new.c m c.step_once.new.c) c.in-Asked.is c.in_ok-step_once.ensures.step) c.saturating_add-vm.ensures block tape h

pub returns-in-Over-clause-pauses : goal.returns-in-Over-clause-pauses
returns-in-Over-clause-pauses c =
    λ block tape h. subst (λ r. Pauses c.args.schema.now c.args.ticket c.args.image.now block tape (P.End (record r { ops = c.saturating_add-vm.result }) c.into_value.result) (record { config = c.step_once.new.c; ops = c.saturating_add-vm.result })) (sym c.into_value-reply.ensures)
    (subst (λ w. Pauses c.args.schema.now c.args.ticket c.args.image.now block tape (P.End (record (c.in-Over.reply) { ops = c.saturating_add-vm.result }) w) (record { config = c.step_once.new.c; ops = c.saturating_add-vm.result })) (sym c.into_value.ensures)
    (way_over c.args.schema.now c.args.ticket c.args.image.now c.args.vm.now c.args.answer c.in_ok-more.more c.saturating_add-vm.result c.quick_run.new.c c.step_once.new.c c.in-Over.reply c.in-Over.writes
    (way_along c.args.image.now c.args.schema.now c.args.ticket c.args.vm.now c.args.answer c.steps.vm.ops c.in_ok-more.more c.steps.vm.config c.quick_run.new.c c.steps.invariant c.in_ok-more.ensures)
    (subst (λ m. IsStepTo c.args.schema.now c.args.ticket c.args.image.now c.quick_run.new.c m c.step_once.new.c) c.in-Over.is c.in_ok-step_once.ensures.step) c.saturating_add-vm.ensures block tape h))

pub returns-in-Halted-clause-pauses : goal.returns-in-Halted-clause-pauses
returns-in-Halted-clause-pauses c =
    λ block tape h. subst (λ p. Pauses c.args.schema.now c.args.ticket c.args.image.now block tape p c.halted.new.vm) (sym c.halted.ensures.pause)
    (way_halts c.args.schema.now c.args.ticket c.args.image.now c.args.vm.now c.args.answer c.in_ok-more.more c.saturating_add-vm.result c.quick_run.new.c c.step_once.new.c c.in-Halted.limit
    (way_along c.args.image.now c.args.schema.now c.args.ticket c.args.vm.now c.args.answer c.steps.vm.ops c.in_ok-more.more c.steps.vm.config c.quick_run.new.c c.steps.invariant c.in_ok-more.ensures)
    (subst (λ m. IsStepTo c.args.schema.now c.args.ticket c.args.image.now c.quick_run.new.c m c.step_once.new.c) c.in-Halted.is c.in_ok-step_once.ensures.step) c.saturating_add-vm.ensures block tape c.halted.new.vm.config h)

pub returns-in-Halted-clause-waits : goal.returns-in-Halted-clause-waits
returns-in-Halted-clause-waits c = subst (λ p. Waits c.args.image.now p c.halted.new.vm) (sym c.halted.ensures.pause) tt

pub steps-smaller : goal.steps-smaller
steps-smaller c =
    let image = c.args.image.now in
    let less : weight image c.step_once.new.c < weight image c.quick_run.new.c = (subst (λ m. KeepsOn image c.quick_run.new.c m c.step_once.new.c) c.in-Went.is c.in_ok-step_once.ensures.keeps).1 in
    let same = c.in_ok-more.ensures.falls in
    omega arith
