use Rattle.std.proofs.Common.{ap, sym}
use Rattle.stack_code.specs.Machine.{Goes}
use Rattle.stack_code.specs.declared.state.Config.{Config}
use Rattle.metered_vm.proofs.leaving.firing_left.Goals as goal

pub returns : goal.returns
returns c = ap (λ (x : Config). Goes (record x { top = c.args.frame })) (sym (c.in_ok-hand_back.ensures (record { schema = c.args.schema.now; ticket = c.args.ticket })))
