use Rattle.std.proofs.Common.{sym, subst}
use Rattle.std.specs.Prelude.{slice_get}
use Rattle.stack_code.specs.declared.state.Mode.TheVariants as M
use Rattle.stack_code.specs.Machine.{instrs_at}
use Rattle.stack_code.specs.Steps.{act}
use Rattle.program_things.specs.Steps.{IsStep}
use Rattle.metered_vm.proofs.Once.{at_mode, act_to}
use Rattle.metered_vm.proofs.run.step_once.Goals as goal

pub returns-then-is_running-clause-step : goal.returns-then-is_running-clause-step
returns-then-is_running-clause-step c =
    (act_to c.args.schema.now c.args.ticket c.args.image.now c.args.c.now c.in_ok-moved.moved c.act.new.c (c.is_running.ensures.0 c.if-is_running.true) c.requires.stands
    (subst (λ x. IsStep (act (record { schema = c.args.schema.now; ticket = c.args.ticket }) c.args.image.now (slice_get (instrs_at c.args.image.now c.args.c.now.top.body) c.args.c.now.top.pc) x) c.in_ok-moved.moved c.act.new.c) (sym (at_mode c.args.c.now M.Running (c.is_running.ensures.0 c.if-is_running.true))) c.in_ok-moved.ensures)).0

pub returns-then-is_running-clause-keeps : goal.returns-then-is_running-clause-keeps
returns-then-is_running-clause-keeps c =
    (act_to c.args.schema.now c.args.ticket c.args.image.now c.args.c.now c.in_ok-moved.moved c.act.new.c (c.is_running.ensures.0 c.if-is_running.true) c.requires.stands
    (subst (λ x. IsStep (act (record { schema = c.args.schema.now; ticket = c.args.ticket }) c.args.image.now (slice_get (instrs_at c.args.image.now c.args.c.now.top.body) c.args.c.now.top.pc) x) c.in_ok-moved.moved c.act.new.c) (sym (at_mode c.args.c.now M.Running (c.is_running.ensures.0 c.if-is_running.true))) c.in_ok-moved.ensures)).1
