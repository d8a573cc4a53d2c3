use Rattle.std.proofs.Common.{IfOk, ap, reverse, subst, ◌∙◌}
use Rattle.stack_code.specs.Calls.{declared_first}
use Rattle.program_things.specs.Steps.{IsStep}
use Rattle.metered_vm.specs.Callers.{here_of}
use Rattle.metered_vm.proofs.Callers.{begin_same}
use Rattle.metered_vm.proofs.frames.begin.Goals as goal

pub returns : goal.returns
returns c =
    subst (λ x. IfOk c.declared_first.result (λ m. IsStep x m c.declared_first.new.c))
    (ap (λ d. declared_first c.args.image.now c.args.declared c.args.this (here_of c.caller_of-caller.result) d) c.in_ok-enter_fields.ensures
    ∙ begin_same c.args.image.now (here_of c.caller_of-caller.result) c.args.c.now.top.here c.caller_of-caller.ensures.0 c.caller_of-caller.ensures.1 c.args.declared (reverse c.args.fields.now) c.args.this c.args.c.now)
    c.declared_first.ensures
