use Rattle.std.proofs.Common.{◌≡◌, replicate}
use Rattle.request_states.specs.Values.{null}
use Rattle.metered_vm.proofs.calls.nulls.Given as goal

abbrev pub invariant-fill : goal.invariant-fill
invariant-fill l = l.values ≡ replicate l.i null
