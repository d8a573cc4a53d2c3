use Rattle.std.proofs.Common.{◌≡◌, OnOk, ap, subst, ◌∙◌}
use Rattle.stack_code.specs.Calls.{enter_statics}
use Rattle.stack_code.specs.Machine.{with_statics}
use Rattle.metered_vm.specs.Callers.{here_of}
use Rattle.metered_vm.proofs.Callers.{statics_same}
use Rattle.metered_vm.proofs.frames.prepare_these.Goals as goal

pub returns : goal.returns
returns c =
    subst (λ x. OnOk c.enter_statics.result (c.enter_statics.new.c ≡ x))
    (statics_same c.args.image.now (here_of c.caller_of-caller.result) c.args.c.now.top.here c.caller_of-caller.ensures.0 c.caller_of-caller.ensures.1 c.args.classes.now (with_statics c.args.c.now c.mark.new.statics)
    ∙ ap (λ s. enter_statics c.args.image.now c.args.classes.now c.args.c.now.top.here (with_statics c.args.c.now s)) c.in_ok-mark.ensures)
    c.enter_statics.ensures
